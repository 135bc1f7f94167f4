-- A marker's tree as a record (PEP 508, "Grammar").
use Rattle.std.specs.Prelude.{ℕ, List, [], ◌∷◌, codes, Option, Some}
use Rattle.std.specs.List.{flat_map}
use Rattle.pyver_core.specs.Set.Normal.{operator_text}
use Rattle.pymark_core.specs.Marker.Pieces.{PieceValue, comparison, both, either, opening, closing}
use Rattle.pymark_core.specs.Marker.Pieces.{piece_view, tree_pieces}
use Rattle.pymark_core.specs.Marker.Tree.{Tree}
use Rattle.pymark_core.specs.Variables.{variable_name}
use Rattle.pymark_core.specs.declared.marker.pieces.Piece.{Piece}
use Rattle.pymark_core.specs.declared.operand.Comparator.{Comparator}
use Rattle.pymark_core.specs.declared.operand.Comparator.TheVariants.{By, In, NotIn}
use Rattle.pymark_core.specs.declared.operand.Operand.{Operand}
use Rattle.pymark_core.specs.declared.operand.Operand.TheVariants.{Text, Variable, Extra, Extras}
use Rattle.pymark_core.specs.declared.operand.Operand.TheVariants.{Groups}
use Rattle.pylock_values.specs.Record.{next_field, record_of}

-- a quoted text stands behind a quotation mark, so that no word is one
abbrev pub operand_part : Operand → List ℕ
operand_part (Text text) = 34 ∷ text
operand_part (Variable variable) = variable_name variable
operand_part Extra = codes "extra"
operand_part Extras = codes "extras"
operand_part Groups = codes "dependency_groups"

abbrev pub comparator_part : Comparator → List ℕ
comparator_part (By operator) = operator_text operator
comparator_part In = codes "in"
comparator_part NotIn = codes "not in"

-- a comparison is three parts, any other piece is one
abbrev pub piece_parts : PieceValue → List (Option (List ℕ))
piece_parts (comparison c) =
    Some (operand_part c.left) ∷ Some (comparator_part c.comparator)
    ∷ Some (operand_part c.right) ∷ []
piece_parts both = Some (codes "and") ∷ []
piece_parts either = Some (codes "or") ∷ []
piece_parts opening = Some (codes "(") ∷ []
piece_parts closing = Some (codes ")") ∷ []

-- the record of a marker: its pieces in the order in which they stand in its text
abbrev pub marker_record : Tree → List ℕ
marker_record tree = record_of (flat_map piece_parts (tree_pieces tree))

-- ---- the fields of a piece that the code lends, each behind a TAB

abbrev pub piece_fields : Piece → List ℕ
piece_fields piece = flat_map next_field (piece_parts (piece_view piece))
