use denote.Shadow.{shadow}
use denote.Text.{Utf8}
use Rattle.std.proofs.Common.{◌≡◌, ◌+◌, ◌++◌, length}
use Rattle.pywheel_core.specs.Spans.{spans_from}
use Rattle.pywheel_core.specs.Tag.{pieces}
use Rattle.pywheel_core.proofs.tag_set.list_spans.Given as goal

abbrev pub decreases-loop-piece : goal.decreases-loop-piece
decreases-loop-piece l = length l.rest

abbrev pub invariant-loop-piece : goal.invariant-loop-piece
invariant-loop-piece l = (l.spans.items ++ spans_from l.start (pieces l.rest) ≡ spans_from l.fn.start (pieces l.fn.part))
    × (l.start + length l.rest ≡ l.fn.start + length l.fn.part)
    × shadow (Utf8 l.rest)
