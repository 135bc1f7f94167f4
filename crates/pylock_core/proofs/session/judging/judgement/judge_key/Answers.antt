use Rattle.std.proofs.Common.{◌≡◌, ◌∙◌, ◌++◌, Some, None, cond, map, ap, arith}
use Rattle.pylock_core.specs.Inner.Judging.Judgement.{after_head, fresh_standing, has_head}
use Rattle.pylock_core.specs.Session.Judgement.{Marked, and_head, entry_reads, head_reads}
use Rattle.pylock_core.specs.Session.Steps.{head_fault}
use Rattle.pylock_core.proofs.Lemmas.Judging.Judgement.{all_stand, judged_both, readers_both}
use Rattle.pylock_core.proofs.Lemmas.Tables.Index.{passing}
use Rattle.pylock_core.proofs.session.judging.judgement.judge_key.Goals as goal
use Rattle.pylock_core.proofs.session.judging.judgement.judge_key.Goals.{After-as_slice-numbers}

-- the head and the entries among the numbers of the key
both : (c : After-as_slice-numbers) → (has_head c.as_slice-numbers.result.now ≡ head_reads (Marked c.args.key) c.args.parts.now.head)
    × (after_head c.as_slice-numbers.result.now ≡ passing (entry_reads (Marked c.args.key)) 1 c.args.parts.now.entries.items)
both c = readers_both c.args.parts.now (Marked c.args.key) c.number.result _ c.as_slice-numbers.result.now c.requires c.number.ensures.value (omega (arith, c.number.ensures.bound)) c.as_slice-numbers.ensures.value

pub standings-requires-clause-stand : goal.standings-requires-clause-stand
standings-requires-clause-stand c =
    all_stand (entry_reads (Marked c.args.key)) c.args.parts.now.entries.items c.after_head.result.now (c.after_head.ensures ∙ (both (goal.at.standings-requires-clause-stand c).After-as_slice-numbers).1)

pub returns-clause-head : goal.returns-clause-head
returns-clause-head c =
    c.in_ok-verdict.ensures.verdict ∙ ap (λ b. cond b (Some (head_fault c.args.parts.now.head c.args.environment.now)) None) (c.has_head.ensures ∙ (both (goal.at.returns-clause-head c).After-as_slice-numbers).0)

pub returns-clause-standings : goal.returns-clause-standings
returns-clause-standings c =
    c.in_ok-fresh.ensures.fresh
    ∙ ap (map (fresh_standing c.args.environment.now c.args.parts.now.entries.items)) (c.after_head.ensures ∙ (both (goal.at.returns-clause-standings c).After-as_slice-numbers).1)

pub returns-clause-judged : goal.returns-clause-judged
returns-clause-judged c =
    let head = c.has_head.ensures ∙ (both (goal.at.returns-clause-judged c).After-as_slice-numbers).0 in
    let entries = c.after_head.ensures ∙ (both (goal.at.returns-clause-judged c).After-as_slice-numbers).1 in
    judged_both c.args.judged.now _ _ _ c.has_head.result c.in_ok-verdict.ensures.judged c.in_ok-fresh.ensures.judged
    ∙ (λ i. c.args.judged.now ++ and_head (head i) (entries i))
