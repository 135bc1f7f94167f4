use Rattle.std.proofs.Common.{◌∙◌, Ok, ap, sym}
use Rattle.pywheel_core.proofs.ReadTableLemmas.{found_read, gains_read}
use Rattle.pylock_readers.proofs.interner.ConditionTable.read.Goals as goal

pub returns-in-Some : goal.returns-in-Some
returns-in-Some g c =
    ap g.T.Condition.form (sym c.as_str.ensures.value)
    ∙ found_read g.T.Condition.form g.T.Condition.meaning c.as_str.result.now c.in-Some.known.now c.self.inside.table.entries c.self.invariant (sym c.in-Some.ensures.value)
    ∙ ap Ok (sym (g.met.T.Condition.same_meaning c.in-Some.known.now c.in_ok-clone.field-0 c.in_ok-clone.ensures.cases))

pub invariant_of-self-2 : goal.invariant_of-self-2
invariant_of-self-2 g c =
    rw c.in_ok-insert.ensures.entries
    (gains_read g.T.Condition.form g.T.Condition.meaning c.args.text c.in_ok-clone-2.field-0 c.self.inside.table.entries c.self.invariant
    (ap g.T.Condition.form (sym c.as_str-2.ensures.value) ∙ c.in_ok-fresh.ensures
    ∙ ap Ok (sym (g.met.T.Condition.same_meaning c.in_ok-fresh.fresh c.in_ok-clone-2.field-0 c.in_ok-clone-2.ensures.cases))))
