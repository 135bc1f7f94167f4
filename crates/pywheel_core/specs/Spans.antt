-- Spans in a text.
use Rattle.std.specs.Prelude.{◌≡◌, ℕ, ◌+◌, ◌≤◌, true, List, [], ◌∷◌, length, slice_range}
use Rattle.std.specs.Char.{is_ascii}
use Rattle.std.specs.List.{All, list_all}
use Rattle.pywheel_core.specs.Tag.{TagParts, TagValue}
use Rattle.pywheel_core.specs.declared.span.Span.{Span}

-- what stands at a span
abbrev pub at : List ℕ → Span → List ℕ
at text span = slice_range text span.start span.end

-- the span lies in the text
abbrev pub IsWithin : List ℕ → Span → Type 0
IsWithin text span = (span.start ≤ span.end) × (span.end ≤ length text)

-- every span does
abbrev pub AreWithin : List ℕ → List Span → Type 0
AreWithin text spans = All (IsWithin text) spans

abbrev pub IsAsciiText : List ℕ → Type 0
IsAsciiText text = list_all is_ascii text ≡ true

-- the tag whose parts stand at these spans
abbrev pub tag_at : List ℕ → Span → Span → Span → TagValue
tag_at text python abi platform =
    record { python = at text python; abi = at text abi; platform = at text platform }

-- the spans of pieces that follow one another from a span on, with one byte between two of them
abbrev pub spans_from : ℕ → List (List ℕ) → List Span
spans_from start [] = []
spans_from start (piece ∷ pieces) =
    record { start = start; end = start + length piece }
    ∷ spans_from (start + length piece + 1) pieces

-- the spans of three parts in the text that they make with one byte between two of them
abbrev pub spans_of : TagParts → Span × Span × Span
spans_of set =
    let python = length set.0 in
    let abi = python + 1 + length set.1 in (
      record { start = 0; end = python },
      record { start = python + 1; end = abi },
      record { start = abi + 1; end = abi + 1 + length set.2 },
    )
