use Rattle.std.proofs.Common.{◌≡◌, ◌∙◌, List, ℕ, [], IfOk, map, subst, ap, sym, arith}
use Rattle.std.specs.Global.{Global}
use Rattle.std.specs.declared.vec.Vec.{Vec}
use Rattle.std.proofs.lemmas.List.{get_or-map}
use Rattle.pylock_core.specs.Inner.Judging.Judgement.{fresh_row}
use Rattle.pylock_core.proofs.session.judging.judgement.judge_name.Goals as goal

pub returns-clause-rows : goal.returns-clause-rows
returns-clause-rows c =
    let p = c.args.parts.now in
    let even = c.requires.session.names.even in
    subst (λ (ns : List ℕ). IfOk c.rows_under_policy.result (λ fresh. fresh.items ≡ map (fresh_row p.environment p.tags (λ name. c.args.policy) p.entries.items p.rows.items) ns))
    (c.as_slice-members.ensures.value ∙ ap (λ (list : Vec ℕ Global). list.items) c.index.ensures
    ∙ sym (get_or-map (λ (list : Vec ℕ Global). list.items) p.names.members.items c.args.number c.index.result.now [] (omega (arith, c.requires.within, even))))
    c.rows_under_policy.ensures.fresh
