-- The fields of a marker's pieces.
use Rattle.std.proofs.Common.{◌≡◌, ◌++◌, [], ◌∷◌, ℕ, List, Option, Some, None, drop, map, refl, sym, ap, ◌∙◌}
use Rattle.std.specs.List.{flat_map}
use Rattle.std.proofs.lemmas.List.Concat.{flat_map-append}
use Rattle.pymark_core.specs.Marker.Asked.{quoted_text}
use Rattle.pymark_core.specs.Marker.Pieces.{PieceValue, operand_word, piece_view}
use Rattle.pymark_core.specs.declared.marker.pieces.Piece.{Piece}
use Rattle.pymark_core.specs.declared.operand.Operand.{Operand}
use Rattle.pymark_core.specs.declared.operand.Operand.TheVariants.{Text, Variable, Extra, Extras, Groups}
use Rattle.pylock_values.specs.MarkerPieces.{operand_part, piece_fields, piece_parts}
use Rattle.pylock_values.specs.Record.{next_field, record_of}
use Rattle.pylock_values.proofs.RecordLemmas.{record_is}

fields_are : (pieces : List Piece) → flat_map piece_fields pieces ≡ flat_map next_field (flat_map piece_parts (map piece_view pieces))
fields_are [] = refl
fields_are (piece ∷ pieces) =
    ap (λ (t : List ℕ). piece_fields piece ++ t) (fields_are pieces)
    ∙ sym (flat_map-append next_field (piece_parts (piece_view piece)) (flat_map piece_parts (map piece_view pieces)))

pub marker_record_is : (pieces : List Piece) (tree : List PieceValue) (made fields : List ℕ)
    → map piece_view pieces ≡ tree → fields ≡ flat_map piece_fields pieces → made ≡ drop 1 fields
    → made ≡ record_of (flat_map piece_parts tree)
marker_record_is pieces tree made fields seen is_fields is_made =
    is_made ∙ ap (drop 1) (is_fields ∙ fields_are pieces)
    ∙ record_is (flat_map piece_parts (map piece_view pieces))
    ∙ ap (λ (t : List PieceValue). record_of (flat_map piece_parts t)) seen

-- ---- operands

-- a quoted text
pub quoted_part : (operand : Operand) (text : List ℕ) → Some text ≡ quoted_text operand → 34 ∷ text ≡ operand_part operand
quoted_part (Text other) text e = cc
quoted_part (Variable variable) text e = absurd cc
quoted_part Extra text e = absurd cc
quoted_part Extras text e = absurd cc
quoted_part Groups text e = absurd cc

-- a word
pub word_part : (operand : Operand) (word : Option (List ℕ)) → word ≡ operand_word operand → None ≡ quoted_text operand
    → word ≡ Some (operand_part operand)
word_part (Text text) word e none = absurd cc
word_part (Variable variable) word e none = e
word_part Extra word e none = e
word_part Extras word e none = e
word_part Groups word e none = e

pub ruleset operands = (quoted_part, word_part)
