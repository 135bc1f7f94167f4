use Rattle.pyver_core.proofs.Lemmas.Version.OrderKey.{number_key-long, number_key-short}
use Rattle.pyver_core.proofs.laws.number_keys_have_two_forms.Goals as goal

pub returns : goal.returns
returns c = record { short = number_key-short; long = number_key-long }
