use Rattle.std.proofs.Common.{◌≡◌, ◌∙◌, ◌-◌, ◌<◌, Option, None, IfSome, length, slice_index_or, subst, ap, sym, arith}
use Rattle.std.proofs.lemmas.List.{get_or_default}
use Rattle.pylock_core.specs.declared.edit.Policy.TheVariants.{Any}
use Rattle.pylock_core.specs.declared.session.tables.rows.Row.{Row}
use Rattle.pylock_core.proofs.Lemmas.Judging.Judgement.{row_within}
use Rattle.pylock_core.proofs.Lemmas.Tables.Rows.{below_at}
use Rattle.pylock_core.proofs.Lemmas.Parts.{session_below}
use Rattle.pylock_core.proofs.Lemmas.Judging.Ranks.{no_row, row_ranked}
use Rattle.pylock_core.proofs.session.judging.judgement.row_by_tags.Goals as goal
use Rattle.pylock_core.proofs.session.judging.judgement.row_by_tags.Goals.{After-index, In-Some}

-- the row at the place
row_here : (c : After-index) → c.index.result.now ≡ slice_index_or c.args.parts.now.rows.items (c.args.number - 1) None
row_here c =
    let p = c.args.parts.now in
    c.index.ensures ∙ get_or_default p.rows.items (c.args.number - 1) c.index.result.now None (row_within p (c.args.number - 1) c.requires.session c.requires.stands)

-- the number of its name has a policy
named : (c : In-Some) → c.in-Some.row.name < length c.args.parts.now.names.policies.items
named c =
    let p = c.args.parts.now in
    let place = c.args.number - 1 in
    subst (λ (o : Option Row). IfSome o (λ row. row.name < length p.names.policies.items)) c.in-Some.is
    (below_at (length p.names.policies.items) p.rows.items place c.index.result.now (session_below p c.requires.session) (row_within p place c.requires.session c.requires.stands) c.index.ensures)

pub index-requires : goal.index-requires
index-requires c =
    let p = c.args.parts.now in
    let within = row_within p (c.args.number - 1) c.requires.session c.requires.stands in
    omega (arith, within, p.rows.ok.0)

pub returns-in_default-clause-judged : goal.returns-in_default-clause-judged
returns-in_default-clause-judged c =
    no_row c.args.parts.now (c.args.number - 1) c.requires.session c.requires.stands (sym (row_here (goal.at.returns-in_default-clause-judged c).After-index) ∙ c.in_default.is)

pub index-policy-requires : goal.index-policy-requires
index-policy-requires c = let within = named (goal.at.index-policy-requires c).In-Some in omega (arith, within, c.args.parts.now.names.policies.ok.0)

pub returns-clause-fresh : goal.returns-clause-fresh
returns-clause-fresh c =
    let p = c.args.parts.now in
    let place = c.args.number - 1 in
    let policies = p.names.policies.items in
    let policy = c.index-policy.ensures ∙ get_or_default policies c.in-Some.row.name c.index-policy.result.now Any (named (goal.at.returns-clause-fresh c).In-Some) in
    ap (λ row. (place, row)) (row_ranked p place c.args.tags.now c.in-Some.row c.index-policy.result.now _ c.requires.session c.requires.stands
    (sym (row_here (goal.at.returns-clause-fresh c).After-index) ∙ c.in-Some.is) policy c.in_ok-wheel_ranked.ensures.verdict)
