use Rattle.std.proofs.Common.{◌≡◌, ◌+◌, ◌++◌, drop}
use Rattle.pylock_audit.specs.Audit.{of_entries}
use Rattle.pylock_audit.proofs.findings.push_entries.Given as goal

-- what is found so far, and what the tables that are left give with their entries
abbrev pub invariant-loop-table : goal.invariant-loop-table
invariant-loop-table l =
    l.found.items ++ of_entries l.asked l.lock.head (l.place + 1) (drop l.place l.lock.entries) l.table-iterator.rest.items
    ≡ l.initial.found.items ++ of_entries l.asked l.lock.head 1 l.lock.entries l.fn.tables.items
