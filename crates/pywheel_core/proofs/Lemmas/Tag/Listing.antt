-- What a text must be for a tag, and what the tags of a list are.
use Rattle.std.proofs.Common.{◌≡◌, ℕ, suc, true, ◌&&◌, nat_lt, if◌then◌else◌, List, [], ◌∷◌, ◌++◌, length, Some, None, Result, Ok, Err, refl, sym, subst, ap, ◌∙◌, inl, inr, arith}
use Rattle.std.proofs.lemmas.Bool.Decides.{nat_tests}
use Rattle.std.proofs.lemmas.Map.Keys.{IsDistinct-push}
use Rattle.std.specs.List.{IsDistinct, list_any}
use Rattle.std.specs.Option.{ok_or}
use Rattle.std.specs.Result.{IfOk, IsErrOf}
use Rattle.std.specs.Str.{str_to_ascii_lowercase}
use Rattle.std.proofs.lemmas.Bool.{and_parts, cases_Bool, cond-true}
use Rattle.pytext.specs.Agreement.{Gives}
use Rattle.pywheel_core.specs.Tag.{TagText, TagValue, at_position, is_tag, is_tag_part, rank_of, tag_eq, tag_of, tag_text, tag_with, tags_after, tags_of, with_tag}
use Rattle.pywheel_core.specs.TagLaws.{tag_equiv}
use Rattle.pywheel_core.specs.Texts.{three_parts}
use Rattle.pywheel_core.specs.declared.error.TagError.{TagError}
use Rattle.pywheel_core.specs.declared.error.TagError.TheVariants as tag
use Rattle.pytext.proofs.ResultsLemmas.{bind_ok, if_ok, ok_or_some}
use Rattle.pywheel_core.proofs.Lemmas.Wheel.Grammar.{part_lacks, three_joined}
use Rattle.pywheel_core.proofs.Lemmas.Tag.Pieces.{tag_taken, three_say}

-- ---- one tag

pub tag_says : (text : List ℕ) (t : TagValue) → tag_of text ≡ Ok t → TagText text t
unfolding tag_of
tag_says text t h =
    let lower = str_to_ascii_lowercase text in
    let x = bind_ok (ok_or (three_parts 45 lower) tag.Shape) (λ parts. if is_tag parts then Ok (tag_with parts) else Err tag.Shape) t h in
    let three = three_say 45 lower x.0 (ok_or_some (three_parts 45 lower) tag.Shape x.0 x.1) in
    let y = if_ok (is_tag x.0) (tag_with x.0) t tag.Shape x.2 in
    let p = and_parts (is_tag_part x.0.0) (is_tag_part x.0.1 && is_tag_part x.0.2) y.0 in
    let q = and_parts (is_tag_part x.0.1) (is_tag_part x.0.2) p.1 in
    let it : TagText text (tag_with x.0) = record { whole = three.0; python = p.0; abi = q.0; platform = q.1 } in
    subst (TagText text) y.1 it

pub tag_made : (text : List ℕ) (t : TagValue) → TagText text t → tag_of text ≡ Ok t
tag_made text t x =
    let python = x.python in let abi = x.abi in let platform = x.platform in
    let ok : is_tag (t.python, t.abi, t.platform) ≡ true = rw (python, abi, platform) refl in
    let three = three_joined t.python t.abi t.platform (part_lacks t.python python) (part_lacks t.abi abi) (part_lacks t.platform platform) in
    tag_taken text (tag_text t) (t.python, t.abi, t.platform) (sym x.whole) three ok

-- ---- lists

pub with_tag_distinct : (tags : List TagValue) (t : TagValue) → IsDistinct tag_eq tags → IsDistinct tag_eq (with_tag tags t)
with_tag_distinct tags t d = elim (cases_Bool (list_any (tag_eq t) tags)) [
  | inl e ↦ rw e d
  | inr e ↦ rw e (IsDistinct-push tag_equiv tags t d e)
]

after_distinct : (tags : List TagValue) (place : ℕ) (texts : List (List ℕ)) (found : List TagValue) → IsDistinct tag_eq tags → tags_after tags place texts ≡ Ok found → IsDistinct tag_eq found
after_distinct tags place [] found d h = let e : tags ≡ found = cc in subst (IsDistinct tag_eq) e d
after_distinct tags place (text ∷ texts) found d h =
    let x = bind_ok (at_position place (tag_of text)) (λ t. tags_after (with_tag tags t) (suc place) texts) found h in
    after_distinct (with_tag tags x.0) (suc place) texts found (with_tag_distinct tags x.0 d) x.2

pub distinct : (texts : List (List ℕ)) (tags : List TagValue) → tags_of texts ≡ Ok tags → IsDistinct tag_eq tags
unfolding tags_of IsDistinct
distinct texts tags h = after_distinct [] 1 texts tags tt h

front_kept : (t : TagValue) (tags : List TagValue) (u : TagValue) → (more : List TagValue) × (with_tag (t ∷ tags) u ≡ t ∷ more)
front_kept t tags u = elim (cases_Bool (list_any (tag_eq u) (t ∷ tags))) [
  | inl e ↦ (tags, rw e refl)
  | inr e ↦ (tags ++ u ∷ [], rw e refl)
]

after_front : (t : TagValue) (tags : List TagValue) (place : ℕ) (texts : List (List ℕ)) (found : List TagValue) → tags_after (t ∷ tags) place texts ≡ Ok found
    → (more : List TagValue) × (found ≡ t ∷ more)
after_front t tags place [] found h = let e : t ∷ tags ≡ found = cc in (tags, sym e)
after_front t tags place (text ∷ texts) found h =
    let x = bind_ok (at_position place (tag_of text)) (λ u. tags_after (with_tag (t ∷ tags) u) (suc place) texts) found h in
    let kept = front_kept t tags x.0 in
    after_front t kept.0 (suc place) texts found (subst (λ l. tags_after l (suc place) texts ≡ Ok found) kept.1 x.2)

spans_at_lengths : (place : ℕ) (text : List ℕ) (t u : TagValue) → tag_of text ≡ Ok t → at_position place (tag_of text) ≡ Ok u → u ≡ t
spans_at_lengths place text t u e h = let z = rw e at h in cc

ranks_first : (t : TagValue) (more : List TagValue) → rank_of t (t ∷ more) ≡ Some 0
ranks_first t more =
    let own = tag_equiv.refl t in
    let some : nat_lt 0 (length (t ∷ more)) ≡ true = grind (arith, nat_tests) in
    rw own (cond-true (nat_lt 0 (length (t ∷ more))) (Some 0) None some)

pub first : (text : List ℕ) (texts : List (List ℕ)) (t : TagValue) (tags : List TagValue) → tag_of text ≡ Ok t → tags_of (text ∷ texts) ≡ Ok tags → rank_of t tags ≡ Some 0
unfolding tags_of
first text texts t tags e h =
    let x = bind_ok (at_position 1 (tag_of text)) (λ u. tags_after (with_tag [] u) 2 texts) tags h in
    let same = spans_at_lengths 1 text t x.0 e x.1 in
    let front = after_front x.0 [] 2 texts tags x.2 in
    let whole : tags ≡ t ∷ front.0 = front.1 ∙ ap (λ u. u ∷ front.0) same in
    ap (rank_of t) whole ∙ ranks_first t front.0

-- ---- what a call gives of one tag

pub given_tag : (text : List ℕ) (r : Result TagValue TagError) → Gives tag.Memory (λ t. t) r (tag_of text) → IfOk r (λ t. TagText text t)
given_tag text (Ok t) h = tag_says text t h
given_tag text (Err e) h = tt

pub given_no_tag : (text : List ℕ) (r : Result TagValue TagError) → Gives tag.Memory (λ t. t) r (tag_of text) → IsErrOf r tag.Shape → (t : TagValue) → TagText text t → ⊥
given_no_tag text (Ok t) h e u x = absurd cc
given_no_tag text (Err f) h e u x =
    let shape : f ≡ tag.Shape = cc in
    let made = tag_made text u x in
    let refused = h (λ m. let z : tag.Shape ≡ tag.Memory = sym shape ∙ m in absurd cc) in
    absurd cc

pub ruleset given_text = (given_tag, given_no_tag)
