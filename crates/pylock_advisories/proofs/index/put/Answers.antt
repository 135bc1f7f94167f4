use Rattle.std.proofs.Common.{arith}
use Rattle.std.proofs.lemmas.Grind.{text_groups}
use Rattle.pylock_advisories.proofs.index.put.Goals as goal

pub returns : goal.returns
returns g c = λ other. grind (arith, text_groups)
