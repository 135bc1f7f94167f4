use denote.Text.{Utf8}
use denote.Shadow.{shadow}
use Rattle.std.proofs.Common.{length}
use Rattle.pylock_shown.proofs.WrittenLemmas.{WrittenSoFar}
use Rattle.pylock_shown.specs.Hidden.{hidden_place}
use Rattle.pylock_shown.proofs.hiding.write_place.Given as goal

abbrev pub invariant-loop-piece : goal.invariant-loop-piece
invariant-loop-piece g l =
    shadow (Utf8 l.left) × WrittenSoFar g.W.Write.write_str_gives hidden_place l.initial.f l.f l.left l.text

abbrev pub decreases-loop-piece : goal.decreases-loop-piece
decreases-loop-piece g l = length l.left
