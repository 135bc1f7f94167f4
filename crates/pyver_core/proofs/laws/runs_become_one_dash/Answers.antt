use Rattle.pyver_core.proofs.Lemmas.Name.Runs.{normal_name-empty, normal_name-other, normal_name-run}
use Rattle.pyver_core.proofs.laws.runs_become_one_dash.Goals as goal

pub returns : goal.returns
returns c = record { empty = normal_name-empty; run = normal_name-run; other = normal_name-other }
