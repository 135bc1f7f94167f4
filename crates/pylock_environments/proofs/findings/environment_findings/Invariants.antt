use Rattle.std.proofs.Common.{◌≡◌, ℕ, ◌+◌, List}
use Rattle.pylock_environments.specs.Findings.{Clashes, place}
use Rattle.pylock_environments.specs.Inner.{AreBefore, named_before, numbered, values_under}
use Rattle.pylock_environments.proofs.findings.environment_findings.Given as goal

abbrev pub invariant-loop-index : goal.invariant-loop-index
invariant-loop-index l =
    ((name : List ℕ) → numbered (values_under l.passed name) ≡ named_before name l.index l.entries)
    × AreBefore l.head l.entries (place (l.index + 1) Clashes) l.findings.items
