use Rattle.std.proofs.Common.{◌∙◌, ◌+◌, length, ap, sym, arith}
use Rattle.pylock_core.specs.Inner.Tables.TagSets.{set_number}
use Rattle.pylock_core.proofs.Lemmas.Tables.Names.{length_more}
use Rattle.pylock_core.proofs.Lemmas.Tables.TagSets.{numbers_more}
use Rattle.pylock_core.proofs.session.tables.tag_sets.numbers_of.Goals as goal

pub loop-wheel-preserved : goal.loop-wheel-preserved
loop-wheel-preserved c =
    let i = c.loop-wheel.wheel-index in
    let before = c.loop-wheel.invariant in
    let kept = c.in_ok-number.ensures.kept in
    record {
      within = omega (arith, c.loop-wheel-test.true);
      long = ap length c.in_ok-push.ensures.items ∙ length_more c.loop-wheel.numbers.items c.in_ok-number.number ∙ ap (λ n. n + 1) before.long;
      each = numbers_more c.loop-wheel.sets c.number_of_set.new.sets c.args.wheels.now c.loop-wheel.numbers.items c.push.new.self.items i c.in_ok-number.number c.wheel-item.result kept
          before.each before.long c.loop-wheel-test.true c.wheel-item.is (ap (set_number c.number_of_set.new.sets) (sym c.set_text.ensures) ∙ c.in_ok-number.ensures.found) c.in_ok-push.ensures.items;
      kept = record { numbers = λ set n has. kept.numbers set n (before.kept.numbers set n has); is = kept.is };
      lists = c.in_ok-number.ensures.lists ∙ before.lists;
    }

pub returns-clause-numbers : goal.returns-clause-numbers
returns-clause-numbers c =
    let before = c.loop-wheel.invariant in
    record {
      long = omega (arith, before.long, before.within, c.loop-wheel-test.false);
      each = λ k within. before.each k (omega (arith, within, before.within, c.loop-wheel-test.false));
    }
