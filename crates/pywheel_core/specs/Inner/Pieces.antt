-- The pieces of the parts of a compressed tag set: how many there are, and their spans.
use Rattle.std.specs.Prelude.{◌≡◌, ◌<◌, ◌^◌, true, List, [], ◌∷◌, length}
use Rattle.pywheel_core.specs.Tag.{TagParts, has_tag_parts, pieces, tag_count}
use Rattle.pywheel_core.specs.declared.span.Span.{Span}
use Rattle.pywheel_core.specs.declared.tag_set.PieceCounts.{PieceCounts}
use Rattle.pywheel_core.specs.declared.tag_set.PieceSpans.{PieceSpans}
use Rattle.pywheel_core.specs.declared.tag_set.PieceSpans.TheVariants.{One, Two, Many}

abbrev pub counts_of : TagParts → PieceCounts
counts_of set = record {
  python = length (pieces set.0);
  abi = length (pieces set.1);
  platform = length (pieces set.2);
  tags = tag_count set;
}

-- all pieces are parts of a tag, and a `usize` holds how many tags there are
abbrev pub AreCountable : TagParts → Type 0
AreCountable set = (has_tag_parts set ≡ true) × (tag_count set < 2 ^ 64)

abbrev pub spans_in : PieceSpans → List Span
spans_in (One span) = span ∷ []
spans_in (Two spans) = spans
spans_in (Many spans) = spans.items
