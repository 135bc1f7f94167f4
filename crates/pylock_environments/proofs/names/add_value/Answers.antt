use Rattle.std.proofs.Common.{arith}
use Rattle.std.proofs.lemmas.Grind.{text_groups}
use Rattle.pylock_environments.proofs.names.add_value.Goals as goal

pub returns : goal.returns
returns g c = grind (arith, text_groups)
