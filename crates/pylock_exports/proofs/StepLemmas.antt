-- The parts of a path, taken one after the other, and the last of them that names something.
use Rattle.std.proofs.Common.{◌≡◌, ◌∙◌, ℕ, List, Bor, Some, None, ap, sym, cond, true, false}
use Rattle.std.proofs.lemmas.Iterator.{YieldsList}
use Rattle.std.specs.Str.Iter.{split_steps}
use Rattle.std.specs.Str.Pattern.{FindsChar}
use Rattle.std.specs.declared.str.Split.{Split}
use Rattle.pytext.proofs.IteratorLemmas.{yields_next, yields_none}
use Rattle.pylock_exports.specs.FileNames.{is_step, last_step, last_step_of}

-- the last so far, and the parts that are left
abbrev pub StepsAt : (before path : List ℕ) → Split ℕ → List ℕ → Type 0
StepsAt before path s last = (left : List (List ℕ))
    × YieldsList (split_steps FindsChar (λ a b. b ≡ a)) (λ x. x.now) s left
    × (last_step_of last left ≡ last_step before path)

one_step : (before path : List ℕ) (s t : Split ℕ) (x : Bor (List ℕ)) (last next : List ℕ)
    → split_steps FindsChar (λ a b. b ≡ a) s (Some x) t → StepsAt before path s last
    → next ≡ cond (is_step x.now) x.now last → StepsAt before path t next
one_step before path s t x last next step i is =
    let n = yields_next (split_steps FindsChar (λ a b. b ≡ a)) (λ y. y.now) s i.0 i.1 x t step in
    (n.0, n.2, ap (λ l. last_step_of l n.0) is ∙ sym (ap (last_step_of last) n.1) ∙ i.2)

pub step_on : (before path : List ℕ) (s t : Split ℕ) (x : Bor (List ℕ)) (last : List ℕ)
    → split_steps FindsChar (λ a b. b ≡ a) s (Some x) t → StepsAt before path s last → is_step x.now ≡ true → StepsAt before path t x.now
step_on before path s t x last step i is = one_step before path s t x last x.now step i (sym (ap (λ b. cond b x.now last) is))

pub step_over : (before path : List ℕ) (s t : Split ℕ) (x : Bor (List ℕ)) (last : List ℕ)
    → split_steps FindsChar (λ a b. b ≡ a) s (Some x) t → StepsAt before path s last → is_step x.now ≡ false → StepsAt before path t last
step_over before path s t x last step i is = one_step before path s t x last last step i (sym (ap (λ b. cond b x.now last) is))

pub all_steps : (before path : List ℕ) (s t : Split ℕ) (last : List ℕ)
    → split_steps FindsChar (λ a b. b ≡ a) s None t → StepsAt before path s last → last ≡ last_step before path
all_steps before path s t last step i =
    let none = yields_none (split_steps FindsChar (λ a b. b ≡ a)) (λ y. y.now) s i.0 i.1 t step in
    sym (ap (last_step_of last) none) ∙ i.2
