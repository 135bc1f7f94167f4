use Rattle.std.proofs.Common.{◌≡◌, ◌∙◌, ◌-◌, None, Some, get_or, ap, subst, sym, arith}
use Rattle.std.proofs.lemmas.List.{get_or_default}
use Rattle.pylock_core.specs.Inner.Judging.Judgement.{standing_of}
use Rattle.pylock_core.specs.Inner.Judging.Standings.{IsFound, number_in}
use Rattle.pylock_core.proofs.Lemmas.Judging.Judgement.{row_within}
use Rattle.pylock_core.proofs.Lemmas.Judging.Standings.{found_kept}
use Rattle.pylock_core.proofs.Lemmas.Tables.Rows.{some_within}
use Rattle.pylock_core.proofs.session.judging.verdict.StandingAnew.new.Goals as goal
use Rattle.pylock_core.proofs.session.judging.verdict.StandingAnew.new.Goals.{After-index-entry, In-Some}

-- how the entry stands that was looked up
looked_up : (c : After-index-entry) → standing_of c.args.environment.now c.index-entry.result.now
    ≡ standing_of c.args.environment.now (get_or c.args.parts.now.entries.items (c.args.number - 1) None)
looked_up c =
    let entries = c.args.parts.now.entries.items in
    ap (standing_of c.args.environment.now)
    (c.index-entry.ensures ∙ get_or_default entries (c.args.number - 1) c.index-entry.result.now None (some_within entries (c.args.number - 1) c.requires.stands))

-- the number of the condition of its row
number_here : (c : In-Some) → number_in (get_or c.args.parts.now.rows.items (c.args.number - 1) None) ≡ Some c.in-Some.condition
number_here c =
    let p = c.args.parts.now in
    let row = c.index.ensures ∙ get_or_default p.rows.items (c.args.number - 1) c.index.result.now None (row_within p (c.args.number - 1) c.requires.session c.requires.stands) in
    ap number_in (sym row) ∙ sym c.number_in.ensures ∙ c.in-Some.is

pub index-requires : goal.index-requires
index-requires c =
    let within = row_within c.args.parts.now (c.args.number - 1) c.requires.session c.requires.stands in
    omega (arith, within, c.args.parts.now.rows.ok.0)

pub returns-in_default-clause-standing : goal.returns-in_default-clause-standing
returns-in_default-clause-standing c = c.in_ok-standing.ensures ∙ looked_up (goal.at.returns-in_default-clause-standing c).After-index-entry

pub returns-in-Some-standing_under-clause-standing : goal.returns-in-Some-standing_under-clause-standing
returns-in-Some-standing_under-clause-standing c =
    c.requires.found c.in-Some.condition c.in-Some-standing_under.standing (c.args.number - 1)
    (subst (λ found. IsFound found c.in-Some.condition c.in-Some-standing_under.standing) c.deref.ensures.value c.in-Some-standing_under.ensures)
    (number_here (goal.at.returns-in-Some-standing_under-clause-standing c).In-Some)

pub returns-clause-standing : goal.returns-clause-standing
returns-clause-standing c = c.in_ok-standing-2.ensures ∙ looked_up (goal.at.returns-clause-standing c).After-index-entry

pub returns-clause-found : goal.returns-clause-found
returns-clause-found c =
    let p = c.args.parts.now in
    found_kept p.conditions.count p.entries.items p.rows.items c.args.environment.now c.args.found.now.items c.keep_standing.new.found.items
    (c.args.number - 1) c.in-Some.condition c.in_ok-standing-2.standing c.requires.session.conditions c.requires.found
    (number_here (goal.at.returns-clause-found c).In-Some)
    (c.in_ok-standing-2.ensures ∙ looked_up (goal.at.returns-clause-found c).After-index-entry)
    c.keep_standing.ensures
