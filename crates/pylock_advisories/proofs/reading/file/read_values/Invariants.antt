use Rattle.std.proofs.Common.{◌≡◌, ◌+◌, drop}
use Rattle.serde_json.specs.View.{items_view}
use Rattle.pylock_advisories.specs.File.{values_from}
use Rattle.pylock_advisories.proofs.PrefixLemmas.{after_prefix}
use Rattle.pylock_advisories.proofs.reading.file.read_values.Given as goal

abbrev pub invariant-loop-index : goal.invariant-loop-index
invariant-loop-index l =
    after_prefix l.read.items (values_from (l.index + 1) (items_view (drop l.index l.values)))
    ≡ values_from 1 (items_view l.values)
