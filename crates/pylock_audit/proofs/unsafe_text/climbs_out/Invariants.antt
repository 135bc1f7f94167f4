use Rattle.std.proofs.Common.{◌≡◌, ◌≤◌, drop, length}
use Rattle.pylock_audit.specs.Unsafe.{climb_out, climbs_out, path_pieces}
use Rattle.pylock_audit.proofs.unsafe_text.climbs_out.Given as goal

abbrev pub invariant-loop-piece : goal.invariant-loop-piece
invariant-loop-piece l =
    (l.depth ≤ length l.yielded)
    × (climb_out l.depth (drop (length l.yielded) (path_pieces l.fn.windows l.text)) ≡ climbs_out l.fn.windows l.text)
