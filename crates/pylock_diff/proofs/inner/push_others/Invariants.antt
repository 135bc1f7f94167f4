use Rattle.std.proofs.Common.{◌≡◌, ◌++◌, filter, not}
use Rattle.toml.specs.View.{members_view, table_view}
use Rattle.pylock_diff.specs.Codes.{member_rows}
use Rattle.pylock_diff.specs.SourceKeys.{source_told}
use Rattle.pylock_diff.proofs.inner.push_others.Given as goal

-- the rows so far, and those of what is to come
abbrev pub invariant-loop-key : goal.invariant-loop-key
invariant-loop-key l =
    l.codes ++ filter (λ row. not (source_told l.kind (table_view l.source) row.0)) (member_rows (members_view l.key-iterator))
    ≡ l.fn.codes ++ filter (λ row. not (source_told l.kind (table_view l.source) row.0)) (member_rows (table_view l.source))
