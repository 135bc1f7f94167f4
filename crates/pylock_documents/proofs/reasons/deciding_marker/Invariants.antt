use Rattle.std.proofs.Common.{◌≡◌, drop}
use Rattle.pylock_documents.specs.Reasons.{deciding_marker}
use Rattle.pylock_documents.proofs.reasons.deciding_marker.Given as goal

-- none of the markers so far decides
abbrev pub invariant-loop-marker : goal.invariant-loop-marker
invariant-loop-marker l = deciding_marker l.environment l.markers ≡ deciding_marker l.environment (drop l.marker-index l.markers)
