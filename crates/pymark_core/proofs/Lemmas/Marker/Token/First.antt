-- The token at the beginning of a text.
use Rattle.std.proofs.Common.{◌≡◌, ℕ, ◌<◌, ◌+◌, true, List, [], ◌∷◌, length, get_or, drop, Option, Some, None, refl, sym, ap, arith, inl, inr, drop-drop}
use Rattle.std.specs.Prelude.{option_map, nat_eq}
use Rattle.std.specs.List.{starts_with}
use Rattle.std.proofs.lemmas.Bool.Decides.{nat_tests}
use Rattle.pyver_core.specs.Set.Reading.{after_operator, operator_among, operator_at, operators}
use Rattle.pyver_core.specs.Set.Normal.{operator_text}
use Rattle.pyver_core.specs.declared.set.specifier.Operator.{Operator}
use Rattle.std.proofs.lemmas.Option.{cond_some}
use Rattle.pytext.proofs.OptionsLemmas.{option_cases}
use Rattle.pymark_core.specs.Inner.LentToken.{text_before_quote}
use Rattle.pymark_core.specs.Marker.Token.{quoted_at, token_at, token_by}

among_rest : (os : List Operator) (text rest : List ℕ) (o : Operator) → operator_among os text ≡ Some (o, rest) → rest ≡ drop (length (operator_text o)) text
among_rest [] text rest o e = absurd cc
among_rest (p ∷ os) text rest o e = elim (option_cases (after_operator p text)) [
  | inl none ↦ let later : operator_among os text ≡ Some (o, rest) = rw none at e in among_rest os text rest o later
  | inr found ↦
      let here : Some (p, found.0) ≡ Some (o, rest) = rw found.1 at e in
      let pair : (p, found.0) ≡ (o, rest) = cc in
      let same : p ≡ o = ap (λ (cut : Operator × List ℕ). cut.0) pair in
      let behind : found.0 ≡ rest = ap (λ (cut : Operator × List ℕ). cut.1) pair in
      let cut = cond_some (starts_with nat_eq text (operator_text p)) (drop (length (operator_text p)) text) found.0 found.1 in
      rw (← same, ← behind) (sym cut.1)
]

-- what stands behind the longest operator
pub behind_cut : (text rest : List ℕ) (o : Operator) → operator_at text ≡ Some (o, rest) → rest ≡ drop (length (operator_text o)) text
unfolding operator_at
behind_cut text rest o e = among_rest operators text rest o e

pub token_of_first : (text : List ℕ) → 0 < length text → token_at text ≡ token_by (get_or text 0 0) text
unfolding token_at
token_of_first [] some = absurd (omega arith)
token_of_first (b ∷ rest) some = refl

pub token_of_none : (text : List ℕ) → nat_eq (length text) 0 ≡ true → token_at text ≡ None
unfolding token_at
token_of_none [] none = refl
token_of_none (b ∷ rest) none = absurd (grind (arith, nat_tests))

-- the same, where the text begins with the first quote
pub quotation_at : (quote : ℕ) (text : List ℕ) → text_before_quote quote (drop 1 text) ≡ option_map (λ inside. (inside, drop (length inside + 2) text)) (quoted_at quote (drop 1 text))
quotation_at quote text = same_behind (quoted_at quote (drop 1 text)) text
  where
    same_behind : (o : Option (List ℕ)) (text : List ℕ) → option_map {U = List ℕ × List ℕ} (λ inside. (inside, drop (length inside + 1) (drop 1 text))) o ≡ option_map {U = List ℕ × List ℕ} (λ inside. (inside, drop (length inside + 2) text)) o
    same_behind None text = refl
    same_behind (Some inside) text = ap (λ rest. Some (inside, rest)) (rw drop-drop (ap (λ n. drop n text) (omega arith)))

-- the token in front, or none
pub ruleset first_token_is = (token_of_first, token_of_none)
