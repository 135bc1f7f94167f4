use Rattle.std.proofs.Common.{◌≡◌, ℕ, ◌<◌, ◌∙◌, false, List, [], slice_index_or, length, get_or, subst, sym, arith}
use Rattle.std.specs.Global.{Global}
use Rattle.std.specs.declared.vec.Vec.{Vec}
use Rattle.std.proofs.lemmas.List.{get_or-set_other, get_or-map, length-set}
use Rattle.pylock_core.specs.Inner.Tables.Index.{list_at, moved}
use Rattle.pylock_core.specs.Session.State.{Rises}
use Rattle.pylock_core.proofs.Lemmas.Tables.Index.{changed_at, list_at_other}
use Rattle.pylock_core.proofs.session.tables.index.move_in_lists.Goals as goal

pub move_in_list-requires-clause-rises : goal.move_in_list-requires-clause-rises
move_in_list-requires-clause-rises c =
    let here : (get_or c.loop-key.lists c.loop-key.key c.index-lists-key.result).items ≡ list_at c.args.lists.now c.loop-key.key =
    sym (get_or-map (λ (list : Vec ℕ Global). list.items) c.loop-key.lists c.loop-key.key c.index-lists-key.result [] (omega arith))
    ∙ c.loop-key.invariant.others c.loop-key.key (omega arith) in
    subst (Rises 0) (sym here) (c.requires.rise c.loop-key.key c.loop-key-test.true)

pub loop-key-preserved : goal.loop-key-preserved
loop-key-preserved c =
    let key = c.loop-key.key in
    let within : key < length c.loop-key.lists = omega arith in
    let f : ℕ → List ℕ → List ℕ = λ k ns. moved c.args.number (slice_index_or c.args.was.now k false) (slice_index_or c.args.is.now k false) ns in
    record {
      changed = λ k less. changed_at c.loop-key.lists c.args.lists.now key k _ c.index-lists-key.result f within less c.move_in_list.ensures (c.loop-key.invariant.others key (omega arith)) (c.loop-key.invariant.changed k);
      others = λ k above. list_at_other c.loop-key.lists key k _ (λ same. omega arith) ∙ c.loop-key.invariant.others k (omega arith);
      long = length-set c.loop-key.lists key _ ∙ c.loop-key.invariant.long;
      capacity = λ k d above below comes. rw (get_or-set_other c.loop-key.lists key k _ d (λ same. omega arith)) (c.loop-key.invariant.capacity k d (omega arith) below comes);
    }
