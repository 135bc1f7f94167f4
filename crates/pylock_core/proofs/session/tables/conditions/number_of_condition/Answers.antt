use Rattle.std.proofs.Common.{◌≡◌, ◌+◌, Some, subst, sym, arith}
use Rattle.pylock_core.specs.Inner.Parts.{NumberFits}
use Rattle.pylock_core.proofs.Lemmas.Tables.Conditions.{given_fits, shared_fits}
use Rattle.pylock_core.proofs.session.tables.conditions.number_of_condition.Goals as goal

pub returns-in-Some : goal.returns-in-Some
returns-in-Some c = shared_fits c.args.conditions.now.count c.args.entries.now c.args.rows.now c.args.entry.now c.in-Some.shared c.requires c.in-Some.ensures

pub returns : goal.returns
returns c = let more : c.in_ok-conditions.field-0 ≡ c.args.conditions.now.count + 1 = grind arith in
    subst (λ count. NumberFits count c.args.entries.now c.args.rows.now c.args.entry.now (Some c.args.conditions.now.count)) (sym more)
    (given_fits c.args.conditions.now.count c.args.entries.now c.args.rows.now c.args.entry.now c.requires)
