use Rattle.std.proofs.Common.{◌≡◌, length}
use Rattle.pylock_core.specs.Inner.Tables.Rows.{AllWithin, with_rows}
use Rattle.pylock_core.proofs.session.tables.rows.put_rows.Given as goal

-- the rows that are left are to be put at their places
abbrev pub invariant-loop-place : goal.invariant-loop-place
invariant-loop-place l = record {
  whole : with_rows l.place-iterator.rest.items l.rows.items ≡ with_rows l.fn.fresh.items l.fn.rows.items;
  within : AllWithin (length l.rows.items) l.place-iterator.rest.items;
}
