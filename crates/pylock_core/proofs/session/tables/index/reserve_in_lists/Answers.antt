use Rattle.std.proofs.Common.{ℕ, ◌∙◌, Bool, false, slice_index_or, arith}
use Rattle.pylock_core.proofs.Lemmas.Tables.Index.{kept_set, capacity_at}
use Rattle.pylock_core.proofs.session.tables.index.reserve_in_lists.Goals as goal

pub returns-in_err-reserve_in_list-clause-kept : goal.returns-in_err-reserve_in_list-clause-kept
returns-in_err-reserve_in_list-clause-kept c =
    kept_set c.loop-key.lists c.loop-key.key _ c.index-lists-key.result (omega arith) c.reserve_in_list.ensures.kept ∙ c.loop-key.invariant.kept

pub loop-key-preserved : goal.loop-key-preserved
loop-key-preserved c =
    let comes : ℕ → Bool = λ k. slice_index_or c.args.keys.now k false in
    record {
      kept = kept_set c.loop-key.lists c.loop-key.key _ c.index-lists-key.result (omega arith) c.reserve_in_list.ensures.kept ∙ c.loop-key.invariant.kept;
      capacity = λ k d less. capacity_at c.loop-key.lists c.loop-key.key k _ d comes (omega arith) less c.in_ok-reserve_in_list.ensures.capacity (c.loop-key.invariant.capacity k d);
    }
