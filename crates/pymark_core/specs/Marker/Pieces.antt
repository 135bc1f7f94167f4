-- A tree as a list of pieces, in the order in which they stand in the marker's text (PEP 508,
-- "Grammar"): comparisons, the words between them, and parentheses.
use Rattle.std.specs.Prelude.{ℕ, List, [], ◌∷◌, ◌++◌, Option, Some, None, codes}
use Rattle.pymark_core.specs.Marker.Comparison.{ComparisonValue}
use Rattle.pymark_core.specs.Marker.Tree.{Tree, Conjunction, Atom, last, or, only, and, leaf, group}
use Rattle.pymark_core.specs.Variables.{variable_name}
use Rattle.pymark_core.specs.declared.marker.pieces.Piece.{Piece}
use Rattle.pymark_core.specs.declared.marker.pieces.Piece.TheVariants.{Comparison, And, Or, Open}
use Rattle.pymark_core.specs.declared.marker.pieces.Piece.TheVariants.{Close}
use Rattle.pymark_core.specs.declared.operand.Operand.{Operand}
use Rattle.pymark_core.specs.declared.operand.Operand.TheVariants.{Text, Variable, Extra, Extras}
use Rattle.pymark_core.specs.declared.operand.Operand.TheVariants.{Groups}

pub data PieceValue : Type 0 where
  comparison : ComparisonValue → PieceValue
  -- `and`
  both : PieceValue
  -- `or`
  either : PieceValue
  -- `(`
  opening : PieceValue
  -- `)`
  closing : PieceValue

abbrev mutual
  pub tree_pieces : Tree → List PieceValue
  tree_pieces (last c) = conjunction_pieces c
  tree_pieces (or c others) = conjunction_pieces c ++ either ∷ tree_pieces others

  pub conjunction_pieces : Conjunction → List PieceValue
  conjunction_pieces (only a) = atom_pieces a
  conjunction_pieces (and a others) = atom_pieces a ++ both ∷ conjunction_pieces others

  pub atom_pieces : Atom → List PieceValue
  atom_pieces (leaf c) = comparison c ∷ []
  atom_pieces (group inner) = opening ∷ tree_pieces inner ++ closing ∷ []

-- a piece that the code lends, seen as a piece
abbrev pub piece_view : Piece → PieceValue
piece_view (Comparison c) = comparison c.now
piece_view And = both
piece_view Or = either
piece_view Open = opening
piece_view Close = closing

-- the word that an operand is, if it is no quoted text
abbrev pub operand_word : Operand → Option (List ℕ)
operand_word (Text text) = None
operand_word (Variable variable) = Some (variable_name variable)
operand_word Extra = Some (codes "extra")
operand_word Extras = Some (codes "extras")
operand_word Groups = Some (codes "dependency_groups")
