use Rattle.std.proofs.Common.{◌≡◌, drop}
use Rattle.serde_json.specs.View.{items_view}
use Rattle.pylock_advisories.specs.Members.{read_each}
use Rattle.pylock_advisories.specs.Reading.{affected_in}
use Rattle.pylock_advisories.proofs.PrefixLemmas.{after_prefix}
use Rattle.pylock_advisories.proofs.reading.affected.read_elements.Given as goal

abbrev pub invariant-loop-value : goal.invariant-loop-value
invariant-loop-value l =
    after_prefix l.elements.items (read_each affected_in (items_view (drop l.value-index l.values)))
    ≡ read_each affected_in (items_view l.values)
