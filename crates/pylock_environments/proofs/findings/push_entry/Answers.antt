use Rattle.std.proofs.Common.{◌+◌, List, ap, subst, sym, ◌∙◌}
use Rattle.pylock_environments.specs.Findings.{Clashes, place}
use Rattle.pylock_environments.specs.Inner.{AreBefore, numbered, with_told}
use Rattle.pylock_environments.specs.declared.finding.EnvironmentFinding.{EnvironmentFinding}
use Rattle.pylock_environments.proofs.RowLemmas.{entry_more}
use Rattle.pylock_environments.proofs.findings.push_entry.Goals as goal

pub returns : goal.returns
returns c = λ entries i number at are before.
    let head = c.args.lock.now.head.now in
    let e = c.args.weighed.now.entry.now in
    let n = c.args.weighed.now.number in
    subst (λ (fs : List EnvironmentFinding). AreBefore head entries (place (n + 1) Clashes) fs)
    (sym (c.in_ok-push_told-3.ensures
    ∙ ap (λ fs. with_told fs n c.in_ok-pythons.pythons)
    (c.in_ok-push_told-2.ensures ∙ ap (λ fs. with_told fs n c.in_ok-standings.standings) c.in_ok-push_told.ensures)))
    (entry_more head entries i e n (numbered c.args.others.now) c.in_ok-clashes.clashes c.in_ok-standings.standings c.in_ok-pythons.pythons c.args.findings.now.items
    number at are c.in_ok-clashes.ensures c.in_ok-standings.ensures c.in_ok-pythons.ensures before)
