use Rattle.std.proofs.Common.{◌≡◌, drop}
use Rattle.serde_json.specs.View.{items_view}
use Rattle.pylock_advisories.specs.Members.{read_each}
use Rattle.pylock_advisories.specs.Reading.{range_in}
use Rattle.pylock_advisories.proofs.PrefixLemmas.{after_prefix}
use Rattle.pylock_advisories.proofs.reading.range.read_ranges.Given as goal

abbrev pub invariant-loop-value : goal.invariant-loop-value
invariant-loop-value l =
    after_prefix l.ranges.items (read_each range_in (items_view (drop l.value-index l.values)))
    ≡ read_each range_in (items_view l.values)
