use Rattle.std.proofs.Common.{◌≡◌, ◌++◌, drop, map}
use Rattle.pylock_core.specs.Inner.Judging.Judgement.{fresh_row}
use Rattle.pylock_core.proofs.session.judging.judgement.rows_under_policy.Given as goal

-- the rows so far, and those of the numbers that are left
abbrev pub invariant-loop-number : goal.invariant-loop-number
invariant-loop-number l =
    let anew = fresh_row l.parts.environment l.parts.tags (λ name. l.policy) l.parts.entries.items l.parts.rows.items in
    record {
      fresh : l.fresh.items ++ map anew (drop l.number-index l.numbers) ≡ map anew l.numbers;
      judged : l.judged ++ drop l.number-index l.numbers ≡ l.fn.judged ++ l.numbers;
    }
