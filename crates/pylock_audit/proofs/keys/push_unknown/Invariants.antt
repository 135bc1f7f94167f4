use Rattle.std.proofs.Common.{◌≡◌, ◌++◌, filter, map, not, string_bytes}
use Rattle.toml.specs.View.{table_view}
use Rattle.pylock_shown.specs.Hidden.{hidden}
use Rattle.pylock_audit.specs.Keys.{is_named, table_path, unknown_keys}
use Rattle.pylock_audit.proofs.keys.push_unknown.Given as goal

-- the paths so far, and those of the keys that are left
abbrev pub invariant-loop-key : goal.invariant-loop-key
invariant-loop-key l =
    l.paths.items
    ++ map (λ key. table_path l.table ++ hidden key) (filter (λ key. not (is_named l.table key)) (map string_bytes l.key-iterator))
    ≡ l.initial.paths.items ++ unknown_keys l.table (table_view l.members)
