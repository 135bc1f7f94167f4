use Rattle.std.proofs.Common.{◌≡◌, ℕ, ◌<◌, false, IsTrue, slice_index_or, vec_len, vec_capacity}
use Rattle.std.specs.Global.{Global}
use Rattle.std.specs.declared.vec.Vec.{Vec}
use Rattle.pylock_core.specs.Inner.Tables.Index.{numbers_in}
use Rattle.pylock_core.proofs.session.tables.index.reserve_in_lists.Given as goal

-- the lists below the key have room, and all are as they were
abbrev pub invariant-loop-key : goal.invariant-loop-key
invariant-loop-key l = record {
  kept : numbers_in l.lists ≡ numbers_in l.fn.lists;
  capacity : (key : ℕ) (d : Vec ℕ Global) → key < l.key → IsTrue (slice_index_or l.keys key false) → vec_len (slice_index_or l.lists key d) < vec_capacity (slice_index_or l.lists key d);
}
