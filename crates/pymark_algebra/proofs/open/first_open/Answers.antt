use Rattle.std.proofs.Common.{◌<◌, ◌≤◌, List, arith, length, subst, sym, take}
use Rattle.std.specs.Global.{Global}
use Rattle.std.specs.declared.vec.Vec.{Vec}
use Rattle.std.proofs.lemmas.List.{take_all}
use Rattle.std.proofs.lemmas.List.Elements.{All-more, All-same}
use Rattle.pymark_clauses.specs.declared.clauses.Literal.{Literal}
use Rattle.pymark_algebra.specs.Refuted.{IsRefutedUnder}
use Rattle.pymark_algebra.specs.declared.answer.PythonCondition.{PythonCondition}
use Rattle.pymark_algebra.proofs.ClauseLemmas.{are_refuted}
use Rattle.pymark_algebra.proofs.open.first_open.Goals as goal

abbrev Refuted : List PythonCondition → Vec Literal Global → Type 0
Refuted pythons clause = IsRefutedUnder pythons clause.items

pub loop-index-preserved : goal.loop-index-preserved
loop-index-preserved c =
    let clause = c.index-clauses-index.result in
    let below : c.loop-index.index < length c.args.clauses.now = omega arith in
    All-more (Refuted c.args.pythons.now) c.args.clauses.now c.loop-index.index clause below c.loop-index.invariant
    (subst (Refuted c.args.pythons.now) c.index-clauses-index.is (subst (IsRefutedUnder c.args.pythons.now) c.deref.ensures.value (c.in_ok-is_refuted.ensures c.if-not-branch.false)))

pub returns-clause-none : goal.returns-clause-none
returns-clause-none c = λ _.
    let within : length c.args.clauses.now ≤ c.loop-index.index = omega arith in
    are_refuted c.args.pythons.now c.args.clauses.now
    (All-same (Refuted c.args.pythons.now) c.args.clauses.now (take c.loop-index.index c.args.clauses.now) (sym (take_all c.loop-index.index c.args.clauses.now within)) c.loop-index.invariant)
