use Rattle.std.proofs.Common.{◌≡◌, []}
use Rattle.toml.specs.View.{members_view}
use Rattle.pylock_check.specs.Sections.{with_sections}
use Rattle.pylock_check.proofs.sections.read_sections.Given as goal

-- the members that are left are still to be read
abbrev pub invariant-loop-key : goal.invariant-loop-key
invariant-loop-key l =
    with_sections l.kind l.sections.items (members_view l.key-iterator) ≡ with_sections l.kind [] (members_view l.fn.table.entries)
