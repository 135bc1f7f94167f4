use Rattle.std.proofs.Common.{◌≡◌, ℕ, ◌<◌, ◌≤◌, false, length, slice_index_or}
use Rattle.pylock_core.specs.Inner.Tables.Index.{HaveCapacity, list_at, moved}
use Rattle.pylock_core.proofs.session.tables.index.move_in_lists.Given as goal

-- the lists below the key are changed, and the others are as they were
abbrev pub invariant-loop-key : goal.invariant-loop-key
invariant-loop-key l = record {
  changed : (key : ℕ) → key < l.key → list_at l.lists key ≡ moved l.number (slice_index_or l.was key false) (slice_index_or l.is key false) (list_at l.fn.lists key);
  others : (key : ℕ) → l.key ≤ key → list_at l.lists key ≡ list_at l.fn.lists key;
  long : length l.lists ≡ length l.fn.lists;
  capacity : HaveCapacity l.lists l.is l.key;
}
