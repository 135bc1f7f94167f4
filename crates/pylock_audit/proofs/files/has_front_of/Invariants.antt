use denote.Text.{Utf8}
use denote.Shadow.{shadow}
use Rattle.std.proofs.Common.{◌≡◌, [], length, string_bytes}
use Rattle.std.specs.List.{list_any}
use Rattle.pylock_audit.specs.Entry.{fronts_behind, is_name_of}
use Rattle.pylock_audit.proofs.files.has_front_of.Given as goal

abbrev pub invariant-loop-piece : goal.invariant-loop-piece
invariant-loop-piece l =
    shadow (Utf8 l.left)
    × (list_any (is_name_of l.name) (fronts_behind [] l.file) ≡ list_any (is_name_of l.name) (fronts_behind (string_bytes l.front) l.left))

abbrev pub decreases-loop-piece : goal.decreases-loop-piece
decreases-loop-piece l = length l.left
