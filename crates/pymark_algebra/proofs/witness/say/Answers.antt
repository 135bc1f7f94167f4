use Rattle.std.proofs.Common.{◌<◌, ◌≤◌, arith, length, subst, sym, take}
use Rattle.std.proofs.lemmas.List.{take_all}
use Rattle.std.proofs.lemmas.List.Elements.{All-more, All-same}
use Rattle.pymark_core.specs.Environment.{EnvironmentValue}
use Rattle.pymark_algebra.specs.Questions.{PythonSays}
use Rattle.pymark_algebra.specs.declared.answer.PythonCondition.{PythonCondition}
use Rattle.pymark_algebra.proofs.witness.say.Goals as goal

abbrev Says : EnvironmentValue → PythonCondition → Type 0
Says environment python = PythonSays environment python.specifier.now python.wanted

pub loop-python-preserved : goal.loop-python-preserved
loop-python-preserved c =
    let python = c.python-item.result in
    let below : c.loop-python.python-index < length c.args.pythons.now = omega arith in
    All-more (Says c.args.environment.now) c.args.pythons.now c.loop-python.python-index python below c.loop-python.invariant
    (subst (Says c.args.environment.now) c.python-item.is (c.says.ensures c.if-not-says.false))

pub returns : goal.returns
returns c = λ _.
    let within : length c.args.pythons.now ≤ c.loop-python.python-index = omega arith in
    All-same (Says c.args.environment.now) c.args.pythons.now (take c.loop-python.python-index c.args.pythons.now)
    (sym (take_all c.loop-python.python-index c.args.pythons.now within)) c.loop-python.invariant
