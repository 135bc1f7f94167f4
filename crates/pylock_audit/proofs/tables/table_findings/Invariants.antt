use Rattle.std.proofs.Common.{◌≡◌, ◌++◌, drop}
use Rattle.toml.specs.View.{items_view}
use Rattle.pylock_audit.specs.Audit.{of_tables}
use Rattle.pylock_audit.proofs.tables.table_findings.Given as goal

-- what is known so far, and what the values that are left give
abbrev pub invariant-loop-value : goal.invariant-loop-value
invariant-loop-value l =
    l.tables.items ++ of_tables (items_view (drop l.value-index l.values)) ≡ of_tables (items_view l.values)
