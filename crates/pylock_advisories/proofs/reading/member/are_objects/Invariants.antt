use Rattle.std.proofs.Common.{◌≡◌, drop}
use Rattle.serde_json.specs.View.{items_view}
use Rattle.pylock_advisories.specs.Members.{are_objects}
use Rattle.pylock_advisories.proofs.reading.member.are_objects.Given as goal

abbrev pub invariant-loop-item : goal.invariant-loop-item
invariant-loop-item l = are_objects (items_view (drop l.item-index l.items)) ≡ are_objects (items_view l.items)
