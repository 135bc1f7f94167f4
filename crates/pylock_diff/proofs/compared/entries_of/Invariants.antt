use Rattle.std.proofs.Common.{◌≡◌, ◌++◌, drop}
use Rattle.toml.specs.View.{items_view}
use Rattle.pytoml_code.specs.Proper.{AreProper}
use Rattle.pylock_diff.specs.Compared.{item_codes}
use Rattle.pylock_diff.specs.Inner.Kept.{AreTables}
use Rattle.pylock_diff.proofs.compared.entries_of.Given as goal

-- the codes so far, and those of what is to come
abbrev pub invariant-loop-value : goal.invariant-loop-value
invariant-loop-value l = record {
  codes : l.entries.items ++ item_codes (items_view (drop l.value-index l.values)) ≡ item_codes (items_view l.values);
  proper : (AreTables (items_view (drop l.value-index l.values)) → AreProper (items_view (drop l.value-index l.values)))
      → AreTables (items_view l.values) → AreProper (items_view l.values);
}
