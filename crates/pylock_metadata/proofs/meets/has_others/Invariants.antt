use Rattle.std.proofs.Common.{◌≡◌}
use Rattle.toml.specs.View.{members_view, table_view}
use Rattle.pylock_metadata.specs.Meets.{has_others}
use Rattle.pylock_metadata.proofs.meets.has_others.Given as goal

-- what is left decides
abbrev pub invariant-members : goal.invariant-members
invariant-members l =
    has_others (members_view l.key-iterator) (table_view l.entry) ≡ has_others (table_view l.element) (table_view l.entry)
