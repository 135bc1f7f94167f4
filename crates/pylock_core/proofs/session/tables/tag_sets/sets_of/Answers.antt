use Rattle.std.proofs.Common.{◌<◌, ◌∙◌, ◌++◌, ◌∷◌, [], None, length, take, subst, ap, sym, arith}
use Rattle.std.proofs.lemmas.List.{get_or_default, take_all, take_more}
use Rattle.pylock_core.specs.Inner.Tables.TagSets.{AreSets}
use Rattle.pylock_core.proofs.Lemmas.Tables.TagSets.{no_sets, sets_kept, sets_more}
use Rattle.pylock_core.proofs.session.tables.tag_sets.sets_of.Goals as goal

pub loop-entry-init : goal.loop-entry-init
loop-entry-init c = record {
  within = omega arith;
  sets = no_sets c.in_ok-sets.sets c.in_ok-sets.ensures.numbers c.in_ok-sets.ensures.of_entries;
}

pub loop-entry-preserved : goal.loop-entry-preserved
loop-entry-preserved c =
    let i = c.loop-entry.entry-index in
    let entries = c.args.entries.now in
    let entry = c.entry-item.result in
    let within : i < length entries = c.loop-entry-test.true in
    let made = c.in_ok-numbers.ensures in
    let here = c.entry-item.is ∙ get_or_default entries i entry None within in
    record {
      within = omega (arith, within);
      sets = subst (AreSets c.push.new.self) (ap (λ e. take i entries ++ e ∷ []) here ∙ sym (take_more entries i None within))
          (sets_more c.numbers_at.new.sets c.push.new.self c.in_ok-numbers.numbers (take i entries) entry
          (sets_kept c.loop-entry.sets c.numbers_at.new.sets (take i entries) made.kept made.lists c.loop-entry.invariant.sets)
          made.numbers c.in_ok-push.ensures.numbers c.in_ok-push.ensures.of_entries);
    }

pub returns : goal.returns
returns c = subst (AreSets c.loop-entry.sets) (take_all c.loop-entry.entry-index c.args.entries.now c.loop-entry-test.false) c.loop-entry.invariant.sets
