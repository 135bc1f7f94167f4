use Rattle.std.proofs.Common.{◌≡◌, ◌++◌, drop}
use Rattle.toml.specs.View.{items_view}
use Rattle.pylock_audit.specs.Audit.{other_forms}
use Rattle.pylock_audit.proofs.findings.push_other_forms.Given as goal

-- those so far, and those of the values that are left
abbrev pub invariant-loop-value : goal.invariant-loop-value
invariant-loop-value l =
    l.list.items ++ other_forms (items_view (drop l.value-index l.values))
    ≡ l.initial.list.items ++ other_forms (items_view l.values)
