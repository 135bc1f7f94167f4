-- Where the specifiers of a set stand in its text (PEP 440, "Version specifiers").
use Rattle.std.specs.Prelude.{◌≡◌, ℕ, ◌+◌, ◌==◌, if◌then◌else◌, List, [], ◌∷◌, ◌++◌, length, Option}
use Rattle.std.specs.Prelude.{Some, None, Result, Ok}
use Rattle.std.specs.List.{list_all, prefix_len, slice_range, slice_split}
use Rattle.pytext.specs.Bytes.{is_white}
use Rattle.pytext.specs.Results.{◌>>=◌}
use Rattle.pytext.specs.White.{IsTrimmed, after_white, trim_white}
use Rattle.pyver_core.specs.Parsed.{parsed_set}
use Rattle.pyver_core.specs.Set.Grammar.{IsOperand}
use Rattle.pyver_core.specs.Set.Normal.{operator_of, operator_text}
use Rattle.pyver_core.specs.Set.Reading.{operator_at}
use Rattle.pyver_core.specs.declared.set.error.SpecifierError.{SpecifierError}
use Rattle.pyver_core.specs.declared.set.specifier.Operator.{Operator}
use Rattle.pyver_core.specs.declared.set.specifier.Specifier.{Specifier}

-- where an operator begins and ends, and where the operand behind it does, without the white space
-- round it
abbrev pub specifier_span : ℕ → Option (Operator × List ℕ) → List ℕ
specifier_span start None = []
specifier_span start (Some cut) =
    let end = start + length (operator_text cut.0) in
    let operand = end + prefix_len is_white cut.1 in
    start ∷ end ∷ operand ∷ (operand + length (trim_white cut.1)) ∷ []

-- the same of a piece that begins at this offset; white space alone has none
abbrev pub piece_span : ℕ → List ℕ → List ℕ
piece_span start piece = if list_all is_white piece then []
    else specifier_span (start + prefix_len is_white piece) (operator_at (after_white piece))

-- of pieces with a comma between them, the first of which begins at this offset
unfoldable pub spans_from : ℕ → List (List ℕ) → List ℕ
spans_from start [] = []
spans_from start (piece ∷ pieces) =
    piece_span start piece ++ spans_from (start + length piece + 1) pieces

-- the pieces of a set's text
abbrev pub set_pieces : List ℕ → List (List ℕ)
set_pieces text = slice_split (λ b. b == 44) text

-- The four offsets of each specifier of the set that a text writes, in their order.
abbrev pub spans_of : List ℕ → Result (List ℕ) SpecifierError
spans_of text = do
  specifiers ← parsed_set text
  Ok (spans_from 0 (set_pieces text))

-- ---- what determines them: the law `spans_are_those_of_the_set`

-- The operator of a specifier stands between the first two offsets, and its operand between the
-- others, without the white space that is round it there.
pub record IsSpan (text : List ℕ) (s : Specifier) (start end operand last : ℕ) : Type 0 where
  pub around : List ℕ
  pub is_operator : slice_range text start end ≡ operator_text (operator_of s)
  pub is_operand : IsOperand around s
  pub is_trimmed : IsTrimmed around (slice_range text operand last)

-- four offsets for each specifier, in their order
pub data AreSpans : List ℕ → List Specifier → List ℕ → Type 0 where
  no_spans : (text : List ℕ) → AreSpans text [] []
  next_span : (text : List ℕ) (s : Specifier) (set : List Specifier)
      (start end operand last : ℕ) (spans : List ℕ)
      → IsSpan text s start end operand last → AreSpans text set spans
      → AreSpans text (s ∷ set) (start ∷ end ∷ operand ∷ last ∷ spans)
