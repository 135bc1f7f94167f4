-- The pieces of an argument, taken one after the other.
use Rattle.std.proofs.Common.{◌≡◌, ℕ, List, [], ◌∷◌, ◌++◌, Bor, Some, None, ap, sym, ◌∙◌, subst, append_assoc, append-nil}
use Rattle.std.specs.Prelude.{filter}
use Rattle.std.specs.Str.Iter.{split_steps}
use Rattle.std.specs.Str.Pattern.{FindsChar}
use Rattle.std.specs.declared.str.Split.{Split}
use Rattle.std.proofs.lemmas.Iterator.{YieldsList}
use Rattle.std.proofs.lemmas.List.Elements.{filter-append}
use Rattle.pytext.proofs.IteratorLemmas.{yields_next, yields_none}
use Rattle.pylock_run.specs.Line.Argument.{is_nonempty, pieces}

-- the pieces so far, and those that are left
abbrev pub PiecesAt : List ℕ → Split ℕ → List (List ℕ) → Type 0
PiecesAt text s prefix = (left : List (List ℕ))
    × YieldsList (split_steps FindsChar (λ a b. b ≡ a)) (λ x. x.now) s left
    × (prefix ++ filter is_nonempty left ≡ pieces text)

pub one_piece : (text : List ℕ) (s t : Split ℕ) (x : Bor (List ℕ)) (prefix next : List (List ℕ))
    → split_steps FindsChar (λ a b. b ≡ a) s (Some x) t → PiecesAt text s prefix
    → next ≡ prefix ++ filter is_nonempty (x.now ∷ []) → PiecesAt text t next
one_piece text s t x prefix next step i pushed =
    let n = yields_next (split_steps FindsChar (λ a b. b ≡ a)) (λ y. y.now) s i.0 i.1 x t step in (
      n.0,
      n.2,
      ap (λ f. f ++ filter is_nonempty n.0) pushed ∙ append_assoc prefix (filter is_nonempty (x.now ∷ [])) (filter is_nonempty n.0)
          ∙ ap (λ l. prefix ++ l) (sym (filter-append is_nonempty (x.now ∷ []) n.0))
          ∙ subst (λ left. prefix ++ filter is_nonempty left ≡ pieces text) n.1 i.2,
    )

pub all_pieces : (text : List ℕ) (s t : Split ℕ) (prefix : List (List ℕ))
    → split_steps FindsChar (λ a b. b ≡ a) s None t → PiecesAt text s prefix → prefix ≡ pieces text
all_pieces text s t prefix step i =
    let none = yields_none (split_steps FindsChar (λ a b. b ≡ a)) (λ y. y.now) s i.0 i.1 t step in
    sym (append-nil prefix) ∙ sym (ap (λ left. prefix ++ filter is_nonempty left) none) ∙ i.2
