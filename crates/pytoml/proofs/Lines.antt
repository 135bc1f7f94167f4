-- The lines of a document, and what each adds to the draft.
use Rattle.std.proofs.Common.{◌≡◌, ℕ, true, false, ◌&&◌, ◌==◌, List, drop, slice_index, Some}
use Rattle.toml_parser.specs.Lexical.{first, skip_ws}
use Rattle.toml_parser.specs.Strings.{Key, recursion_limit}
use Rattle.toml.specs.Data.{Data}
use Rattle.toml.specs.Parse.{expression, line, header_key, key_equals, val, ends_line}
use Rattle.toml.specs.Tables.{Expression, std_table, array_table, key_value}
use Rattle.toml.proofs.Turns.{keyval_ok}
use Rattle.pytoml.specs.Draft.{array_header}

pub array_header_is : (s rest : List ℕ) (k : Key) → header_key s ≡ Some (k, rest) → (first rest == 93) ≡ true → array_header s ≡ Some ((k, array_table), drop 1 rest)
array_header_is s rest k read closing = rw (read, closing)

-- an expression in double brackets, in single brackets, and a pair
pub expression_element : (s : List ℕ) → (first s == 91 && slice_index s 1 == 91) ≡ true → expression s ≡ array_header (drop 2 s)
unfolding expression
expression_element s brackets = rw brackets

pub expression_table : (s rest : List ℕ) (k : Key) → (first s == 91 && slice_index s 1 == 91) ≡ false → (first s == 91) ≡ true → header_key (drop 1 s) ≡ Some (k, rest)
    → expression s ≡ Some ((k, std_table), rest)
unfolding expression
expression_table s rest k other bracket read = rw (other, bracket, read)

pub expression_pair : (s at_value rest : List ℕ) (k : Key) (d : Data) → (first s == 91) ≡ false → key_equals s ≡ Some (k, at_value) → val recursion_limit at_value ≡ Some (d, rest)
    → expression s ≡ Some ((k, key_value d), rest)
unfolding expression
expression_pair s at_value rest k d other read value = rw (other, keyval_ok (val recursion_limit) s at_value rest k d read value)

pub line_is : (s rest : List ℕ) (e : Expression) → expression s ≡ Some (e, rest) → ends_line (skip_ws rest) ≡ true → line s ≡ Some (e, rest)
unfolding line
line_is s rest e read ends = rw (read, ends)
