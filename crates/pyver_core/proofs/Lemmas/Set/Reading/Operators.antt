-- The longest operator that a text begins with, and what stands after it.
use Rattle.std.proofs.Common.{◌≡◌, ℕ, List, [], ◌∷◌, Some, None, refl, inl, inr}
use Rattle.std.specs.Prelude.{option_map}
use Rattle.pyver_core.specs.Set.Reading.{after_operator, operand_of, operator_among, operator_at, operators, specifier_of}
use Rattle.pyver_core.specs.declared.set.specifier.Operator.{Operator}
use Rattle.pytext.specs.White.{after_white}
use Rattle.pytext.proofs.OptionsLemmas.{option_cases}

among_cut : (os : List Operator) (text : List ℕ) (o : Operator) → option_map (λ cut. cut.0) (operator_among os text) ≡ Some o
    → operator_among os text ≡ option_map (λ rest. (o, rest)) (after_operator o text)
among_cut [] text o e = absurd cc
among_cut (p ∷ os) text o e = elim (option_cases (after_operator p text)) [
  | inl none ↦ let later : option_map (λ cut. cut.0) (operator_among os text) ≡ Some o = rw none at e in rw none (among_cut os text o later)
  | inr cut ↦ let same : Some p ≡ Some o = rw cut.1 at e in let is : p ≡ o = cc in rw (← is, cut.1) refl
]

pub cut_found : (text : List ℕ) (o : Operator) → option_map (λ cut. cut.0) (operator_at text) ≡ Some o
    → operator_at text ≡ option_map (λ rest. (o, rest)) (after_operator o text)
unfolding operator_at
cut_found text o e = among_cut operators text o e

pub no_cut : (text : List ℕ) → option_map (λ cut. cut.0) (operator_at text) ≡ None → operator_at text ≡ None
no_cut text e = elim (option_cases (operator_at text)) [
  | inl none ↦ none
  | inr cut ↦ absurd (let n : Some cut.0.0 ≡ None = rw cut.1 at e in cc)
]

-- a piece is read by its operator and what stands behind it

pub cut_read : (piece : List ℕ) (o : Operator) (operand : List ℕ) → operator_at (after_white piece) ≡ Some (o, operand)
    → specifier_of piece ≡ operand_of o operand
unfolding specifier_of
cut_read piece o operand e = rw e refl

pub uncut : (piece : List ℕ) → operator_at (after_white piece) ≡ None → specifier_of piece ≡ None
unfolding specifier_of
uncut piece e = rw e refl
