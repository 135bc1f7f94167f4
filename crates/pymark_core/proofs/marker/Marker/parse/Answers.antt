use Rattle.pymark_core.proofs.Lemmas.Marker.Reading.Answers.{given_misuse, given_syntax}
use Rattle.pymark_core.proofs.marker.Marker.parse.Goals as goal

pub returns-clause-syntax : goal.returns-clause-syntax
returns-clause-syntax c = given_syntax c.args.text.now c.read_marker.result c.read_marker.ensures

pub returns-clause-misuse : goal.returns-clause-misuse
returns-clause-misuse c = given_misuse c.args.text.now c.read_marker.result c.read_marker.ensures
