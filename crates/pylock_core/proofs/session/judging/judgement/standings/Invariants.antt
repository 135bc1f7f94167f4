use Rattle.std.proofs.Common.{◌≡◌, ◌++◌, drop, map}
use Rattle.pylock_core.specs.Inner.Judging.Judgement.{fresh_standing}
use Rattle.pylock_core.specs.Inner.Judging.Standings.{AreFound}
use Rattle.pylock_core.proofs.session.judging.judgement.standings.Given as goal

-- the standings so far, and those of the numbers that are left
abbrev pub invariant-loop-number : goal.invariant-loop-number
invariant-loop-number l =
    let anew = fresh_standing l.environment l.parts.entries.items in
    record {
      fresh : l.fresh.items ++ map anew (drop l.number-index l.numbers) ≡ map anew l.numbers;
      judged : l.judged ++ drop l.number-index l.numbers ≡ l.fn.judged ++ l.numbers;
      found : AreFound l.parts.entries.items l.parts.rows.items l.environment l.found.items;
    }
