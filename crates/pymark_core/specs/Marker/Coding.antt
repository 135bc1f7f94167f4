-- How the logic stores a marker: its tree as its tokens, each token as a number and bytes.
use Rattle.std.specs.Prelude.{◌≡◌, ℕ, ◌==◌, List, [], if◌then◌else◌, unwrap_or, find, refl}
use Rattle.std.specs.Coded.{Coded, code_by, coded×, coded_ℕ, coded_list}
use Rattle.std.specs.Str.{bytes_eq}
use Rattle.std.proofs.Common.{ap}
use Rattle.pyver_core.specs.Set.Reading.{operators}
use Rattle.pyver_core.specs.Set.Normal.{operator_text}
use Rattle.pyver_core.specs.declared.set.specifier.Operator.{Operator}
use Rattle.pyver_core.specs.declared.set.specifier.Operator.TheVariants as operator
use Rattle.pymark_core.specs.Marker.RoundTrip.{tree_read_back}
use Rattle.pymark_core.specs.Marker.Grammar.{tree_tokens}
use Rattle.pymark_core.specs.Marker.Reading.{MarkerValue, read_tokens, initial_state}
use Rattle.pymark_core.specs.Marker.Token.{Token, opening, closing, sign, word, quoted}
use Rattle.pymark_core.specs.Marker.Tree.{Tree, last, only, leaf}
use Rattle.pymark_core.specs.declared.operand.Comparator.TheVariants.{In}
use Rattle.pymark_core.specs.declared.operand.Operand.TheVariants.{Extra}

abbrev pub token_to_pair : Token → ℕ × List ℕ
token_to_pair opening = (0, [])
token_to_pair closing = (1, [])
token_to_pair (sign operator) = (2, operator_text operator)
token_to_pair (word letters) = (3, letters)
token_to_pair (quoted text) = (4, text)

abbrev pub operator_from : List ℕ → Operator
operator_from text =
    unwrap_or (find (λ o. bytes_eq (operator_text o) text) operators) operator.Equal

abbrev pub token_from_pair : ℕ × List ℕ → Token
token_from_pair p =
    if p.0 == 0 then opening
    else if p.0 == 1 then closing
    else if p.0 == 2 then sign (operator_from p.1)
    else if p.0 == 3 then word p.1
    else quoted p.1

pub token_round_trip : (t : Token) → token_from_pair (token_to_pair t) ≡ t
token_round_trip (sign operator.Equal) = refl
token_round_trip t = refl

-- some tree, for lists of tokens that are none
abbrev pub some_tree : Tree
some_tree = last (only (leaf (record { left = Extra; comparator = In; right = Extra })))

abbrev pub tree_from : List Token → Tree
tree_from ts = unwrap_or (read_tokens initial_state ts) some_tree

pub tree_round_trip : (t : Tree) → tree_from (tree_tokens t []) ≡ t
tree_round_trip t = ap (λ o. unwrap_or o some_tree) (tree_read_back t)

abbrev pub token_code : Coded Token
token_code =
    code_by (ℕ × List ℕ) (coded× coded_ℕ (coded_list coded_ℕ))
    token_to_pair token_from_pair token_round_trip

abbrev pub tree_code : Coded Tree
tree_code =
    code_by (List Token) (coded_list token_code)
    (λ t. tree_tokens t []) tree_from tree_round_trip

abbrev pub marker_code : Coded MarkerValue
marker_code =
    code_by (List ℕ × Tree) (coded× (coded_list coded_ℕ) tree_code)
    (λ m. (m.text, m.tree)) (λ p. record { text = p.0; tree = p.1 }) (λ _. refl)
