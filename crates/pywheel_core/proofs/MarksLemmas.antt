-- What marks tell: a tag without them is none of the tags.
use Rattle.std.proofs.Common.{◌≡◌, Bool, false, nat_lt, List, [], ◌∷◌, ◌++◌, length, Some, None, refl, sym, subst, inl, inr, arith}
use Rattle.std.proofs.lemmas.Bool.Decides.{nat_tests}
use Rattle.std.proofs.lemmas.Bool.{cases_Bool, cond-false}
use Rattle.std.specs.List.{list_any, position_or_len}
use Rattle.pywheel_core.specs.Marks.{AreMarked, IsMarked}
use Rattle.pywheel_core.specs.Tag.{TagValue, rank_of, tag_eq, with_tag}
use Rattle.pywheel_core.specs.TagLaws.{same_tag}

pub all_kept : (old new : List Bool) (tags : List TagValue) → ((t : TagValue) → IsMarked old t → IsMarked new t) → AreMarked old tags → AreMarked new tags
all_kept old new [] kept all = tt
all_kept old new (t ∷ tags) kept all = (kept t all.0, all_kept old new tags kept all.1)

one_more : (flags : List Bool) (tags : List TagValue) (t : TagValue) → AreMarked flags tags → IsMarked flags t → AreMarked flags (tags ++ t ∷ [])
one_more flags [] t all here = (here, tt)
one_more flags (u ∷ tags) t all here = (all.0, one_more flags tags t all.1 here)

-- tags that another came to, and its marks to theirs
pub marked_with : (old new : List Bool) (tags : List TagValue) (t : TagValue) → ((u : TagValue) → IsMarked old u → IsMarked new u) → IsMarked new t → AreMarked old tags
    → AreMarked new (with_tag tags t)
marked_with old new tags t kept here all =
    let before = all_kept old new tags kept all in
    elim (cases_Bool (list_any (tag_eq t) tags)) [
      | inl e ↦ rw e before
      | inr e ↦ rw e (one_more new tags t before here)
    ]

apart : (flags : List Bool) (t u : TagValue) → IsMarked flags u → (IsMarked flags t → ⊥) → tag_eq t u ≡ false
apart flags t u here none = elim (cases_Bool (tag_eq t u)) [
  | inl e ↦ absurd (none (subst (IsMarked flags) (sym (same_tag t u e)) here))
  | inr e ↦ e
]

passes_all : (flags : List Bool) (t : TagValue) (tags : List TagValue) → AreMarked flags tags → (IsMarked flags t → ⊥) → position_or_len (tag_eq t) tags ≡ length tags
passes_all flags t [] all none = refl
passes_all flags t (u ∷ tags) all none =
    let e = apart flags t u all.0 none in
    let f = passes_all flags t tags all.1 none in
    rw (e, f) (omega arith)

pub unmarked : (flags : List Bool) (t : TagValue) (tags : List TagValue) → AreMarked flags tags → (IsMarked flags t → ⊥) → rank_of t tags ≡ None
unmarked flags t tags all none =
    let e = passes_all flags t tags all none in
    let least : nat_lt (length tags) (length tags) ≡ false = grind (arith, nat_tests) in
    rw e (cond-false (nat_lt (length tags) (length tags)) (Some (length tags)) None least)

-- marks that came to others
pub ruleset marks_kept = (all_kept, marked_with)
