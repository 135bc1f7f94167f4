-- What of an environment a marker reads.
use Rattle.std.specs.Prelude.{ℕ, Bool, false, ◌==◌, List, [], ◌∷◌, ◌++◌, slice_index_or}
use Rattle.std.specs.List.{list_any}
use Rattle.pymark_core.specs.Marker.Comparison.{ComparisonValue}
use Rattle.pymark_core.specs.Marker.Grammar.{comparisons}
use Rattle.pymark_core.specs.Marker.Tree.{Tree}
use Rattle.pymark_core.specs.Variables.{variable_number}
use Rattle.pymark_core.specs.declared.marker.keys.Key.{Key}
use Rattle.pymark_core.specs.declared.marker.keys.Key.TheVariants as key
use Rattle.pymark_core.specs.declared.operand.Operand.{Operand}
use Rattle.pymark_core.specs.declared.operand.Operand.TheVariants.{Text, Variable, Extra, Extras}
use Rattle.pymark_core.specs.declared.operand.Operand.TheVariants.{Groups}

-- each of the 13 keys has a number of its own
abbrev pub key_number : Key → ℕ
key_number (key.Of v) = variable_number v
key_number key.Extras = 11
key_number key.Groups = 12

abbrev pub is_key : Key → Key → Bool
is_key k other = key_number k == key_number other

-- the key that an operand is, or none: a text and `extra` are none
abbrev pub operand_keys : Operand → List Key
operand_keys (Text text) = []
operand_keys (Variable v) = key.Of v ∷ []
operand_keys Extra = []
operand_keys Extras = key.Extras ∷ []
operand_keys Groups = key.Groups ∷ []

-- the keys of a comparison
abbrev pub comparison_keys : ComparisonValue → List Key
comparison_keys c = operand_keys c.left ++ operand_keys c.right

-- the key is among these
abbrev pub has_key : Key → List Key → Bool
has_key k ks = list_any (is_key k) ks

abbrev pub comparison_reads : Key → ComparisonValue → Bool
comparison_reads k c = has_key k (comparison_keys c)

-- the key stands in the tree as an operand
abbrev pub reads : Key → Tree → Bool
reads k tree = list_any (comparison_reads k) (comparisons tree)

-- ---- a set of keys, as whether each key is in it, by the keys' numbers

abbrev pub is_flagged : List Bool → Key → Bool
is_flagged flags k = slice_index_or flags (key_number k) false
