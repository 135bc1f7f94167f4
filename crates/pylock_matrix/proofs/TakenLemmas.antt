-- The order of marks, and picks that are the same.
use Rattle.std.proofs.Common.{◌≡◌, ◌∙◌, ◌==◌, ◌&&◌, ◌||◌, ℕ, Bool, cond, true, false, refl, sym, ap, arith}
use Rattle.std.proofs.lemmas.Bool.Decides.{nat_tests}
use Rattle.std.specs.BTreeSet.{BTreeSet, Updates, contains}
use Rattle.std.specs.Cmp.{tied_then}
use Rattle.std.specs.Ordering.{is_eq, nat_cmp}
use Rattle.pylock_matrix.specs.Files.{is_same_pick, is_same_source}
use Rattle.pylock_matrix.specs.Inner.Taken.{mark_of, slot_of}
use Rattle.pylock_matrix.specs.contracts.taken.MarkOrd.TheImpl.{cmp-value as marks}
use Rattle.pylock_matrix.specs.contracts.taken.SlotOrd.TheImpl.{cmp-value as slots}
use Rattle.pylock_core.specs.declared.answer.Pick.{Pick}
use Rattle.pylock_core.specs.declared.answer.PickSource.{PickSource}
use Rattle.pylock_core.specs.declared.answer.PickSource.TheVariants as source
use Rattle.pylock_matrix.specs.declared.taken.Mark.{Mark}

same_number : (one other : ℕ) → is_eq (nat_cmp one other) ≡ (one == other)
same_number one other = grind (arith, nat_tests)

same_slot : (one other : PickSource) → is_eq (slots.it (slot_of one) (slot_of other)) ≡ is_same_source one other
same_slot source.Vcs source.Vcs = refl
same_slot source.Directory source.Directory = refl
same_slot source.Archive source.Archive = refl
same_slot (source.Wheel one) (source.Wheel other) = same_number one other
same_slot source.Sdist source.Sdist = refl
same_slot one other = refl

same_mark : (one other : Pick) → is_eq (marks.it (mark_of one) (mark_of other)) ≡ is_same_pick one other
same_mark one other =
    sym (tied_then (nat_cmp one.id other.id) (slots.it (slot_of one.source) (slot_of other.source)))
    ∙ ap (λ b. b && is_eq (slots.it (slot_of one.source) (slot_of other.source))) (same_number one.id other.id)
    ∙ ap (λ b. (one.id == other.id) && b) (same_slot one.source other.source)

or_cond : (test rest : Bool) → cond test true rest ≡ (test || rest)
or_cond true rest = refl
or_cond false rest = refl

-- one more pick
pub marked_more : (before after : BTreeSet Mark) (one other : Pick) → Updates marks.it before after (mark_of one) true
    → contains marks.it after (mark_of other) ≡ (is_same_pick one other || contains marks.it before (mark_of other))
marked_more before after one other updates =
    updates.0 (mark_of other)
    ∙ or_cond (is_eq (marks.it (mark_of one) (mark_of other))) (contains marks.it before (mark_of other))
    ∙ ap (λ b. b || contains marks.it before (mark_of other)) (same_mark one other)
