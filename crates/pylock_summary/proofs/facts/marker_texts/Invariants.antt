use Rattle.std.proofs.Common.{◌≡◌, map, take}
use Rattle.pylock_summary.proofs.facts.marker_texts.Given as goal

-- the texts so far are there
abbrev pub invariant-loop-marker : goal.invariant-loop-marker
invariant-loop-marker l = map (λ text. text.now) l.list.items ≡ map (λ marker. marker.text) (take l.marker-index l.markers)
