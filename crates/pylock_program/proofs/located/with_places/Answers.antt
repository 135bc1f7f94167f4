use Rattle.std.proofs.Common.{rules}
use Rattle.pylock_program.specs.Located.{IsLocated}
use Rattle.pylock_program.proofs.EachLemmas.{one_more}
use Rattle.pylock_program.proofs.LocatedLemmas.{of_text}
use Rattle.pylock_program.proofs.located.with_places.Goals as goal

pub loop-one-preserved : goal.loop-one-preserved
loop-one-preserved c = one_more (IsLocated c.args.bytes.now) c.args.found.now c.loop-one.one-index _ c.loop-one.located.items c.push.new.self.items _
    c.loop-one-test.true c.loop-one.invariant c.in_ok-push.ensures.items (c.one-item.is, search (rules, of_text))
