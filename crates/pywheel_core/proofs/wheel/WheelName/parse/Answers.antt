use Rattle.pywheel_core.proofs.Lemmas.Wheel.Grammar.{given_no_wheel, given_wheel}
use Rattle.pywheel_core.proofs.wheel.WheelName.parse.Goals as goal

pub returns-clause-ok : goal.returns-clause-ok
returns-clause-ok c = given_wheel c.args.text.now c.read_wheel.result c.read_wheel.ensures

pub returns-clause-refused : goal.returns-clause-refused
returns-clause-refused c = given_no_wheel c.args.text.now c.read_wheel.result c.read_wheel.ensures
