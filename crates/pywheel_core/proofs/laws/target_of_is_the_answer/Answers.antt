use Rattle.pywheel_core.proofs.Lemmas.Target.TargetText.{platform_refused, python_refused, target_made, target_says}
use Rattle.pywheel_core.proofs.laws.target_of_is_the_answer.Goals as goal

pub returns : goal.returns
returns c = record {
  sound = target_says;
  complete = target_made;
  no_python = python_refused;
  no_platform = platform_refused;
}
