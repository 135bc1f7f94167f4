use Rattle.std.proofs.Common.{◌≡◌, ◌∙◌, ◌<◌, ◌≤◌, ℕ, [], Option, None, length, option_map, slice_index_or, subst, ap, sym, arith}
use Rattle.std.specs.Global.{Global}
use Rattle.std.specs.declared.vec.Vec.{Vec}
use Rattle.std.proofs.lemmas.List.{get_or_default, get_or-map}
use Rattle.pywheel_core.specs.Choice.{best_from}
use Rattle.pylock_readers.specs.Entry.{EntryValue}
use Rattle.pylock_core.specs.Inner.Tables.Index.{list_at}
use Rattle.pylock_core.specs.Inner.Tables.TagSets.{AreNumbers, names_in, set_number}
use Rattle.pylock_core.specs.Inner.Judging.Ranks.{with_build}
use Rattle.pylock_core.proofs.Lemmas.Judging.Ranks.{best_end, known_rank, ranks_more, wheel_more}
use Rattle.pylock_core.proofs.session.judging.ranks.best_wheel.Goals as goal
use Rattle.pylock_core.proofs.session.judging.ranks.best_wheel.Goals.{After-as_slice-sets}

-- the entry at the place
entry_here : (c : After-as_slice-sets) → c.index-entry.result.now ≡ slice_index_or c.args.parts.now.entries.items c.args.place None
entry_here c = c.index-entry.ensures ∙ get_or_default c.args.parts.now.entries.items c.args.place c.index-entry.result.now None c.requires.within

-- the numbers of the tag sets of its wheels
numbers_here : (c : After-as_slice-sets) → AreNumbers (set_number c.args.parts.now.sets) (names_in c.index-entry.result.now) c.as_slice-sets.result.now
numbers_here c =
    let p = c.args.parts.now in
    let lists = p.sets.of_entries.items in
    let items : c.as_slice-sets.result.now ≡ list_at lists c.args.place = c.as_slice-sets.ensures.value ∙ ap (λ (list : Vec ℕ Global). list.items) c.index.ensures
    ∙ sym (get_or-map (λ (list : Vec ℕ Global). list.items) lists c.args.place c.index.result.now [] (omega (arith, c.requires.within, c.requires.session.sets.long))) in
    subst (AreNumbers (set_number p.sets) (names_in c.index-entry.result.now)) (sym items)
    (subst (λ (o : Option EntryValue). AreNumbers (set_number p.sets) (names_in o) (list_at lists c.args.place)) (sym (entry_here c)) (c.requires.session.sets.each c.args.place))

pub find_rank-rank-requires : goal.find_rank-rank-requires
find_rank-rank-requires c =
    let are = numbers_here (goal.at.find_rank-rank-requires c).After-as_slice-sets in
    let w = c.loop-wheel.wheel in
    known_rank c.args.parts.now.sets c.args.tags.now c.loop-wheel.ranks c.index-entry.result.now w (slice_index_or c.as_slice-sets.result.now w 0) c.loop-wheel.invariant.ranks
    (are.each w (omega (arith, c.loop-wheel-test.true, are.long)))

pub loop-wheel-preserved : goal.loop-wheel-preserved
loop-wheel-preserved c =
    let are = numbers_here (goal.at.loop-wheel-preserved c).After-as_slice-sets in
    let sets = c.args.parts.now.sets in
    let entry = c.index-entry.result.now in
    let w = c.loop-wheel.wheel in
    let within : w < length (names_in entry) = omega (arith, c.loop-wheel-test.true, are.long) in
    let rank = c.find_rank-rank.result in
    record {
      best = wheel_more entry c.args.tags.now c.loop-wheel.best c.of.result c.better-best.result w rank _ within c.find_rank-rank.ensures.rank c.of.ensures c.better-best.ensures c.loop-wheel.invariant.best;
      ranks = ranks_more sets c.args.tags.now c.loop-wheel.ranks c.find_rank-rank.new.ranks entry w (slice_index_or c.as_slice-sets.result.now w 0) rank c.requires.session.sets.is
          (are.each w within) c.find_rank-rank.ensures.rank c.find_rank-rank.ensures.found c.loop-wheel.invariant.ranks;
    }

pub returns-clause-best : goal.returns-clause-best
returns-clause-best c =
    let are = numbers_here (goal.at.returns-clause-best c).After-as_slice-sets in
    let wheels = names_in c.index-entry.result.now in
    let tags = c.args.tags.now in
    let w = c.loop-wheel.wheel in
    let ended : length wheels ≤ w = omega (arith, c.loop-wheel-test.false, are.long) in
    subst (λ (o : Option EntryValue). option_map (with_build (names_in o)) c.loop-wheel.best ≡ best_from None 0 (names_in o) tags) (entry_here (goal.at.returns-clause-best c).After-as_slice-sets)
    (sym (best_end (option_map (with_build wheels) c.loop-wheel.best) w wheels tags ended) ∙ c.loop-wheel.invariant.best)
