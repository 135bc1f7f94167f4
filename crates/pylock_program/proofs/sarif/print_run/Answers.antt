use Rattle.std.proofs.Common.{refl, rules}
use Rattle.pylock_program.proofs.OpeningLemmas.{nothing_written}
use Rattle.pylock_program.proofs.sarif.print_run.Goals as goal

pub returns-in_err-document : goal.returns-in_err-document
returns-in_err-document g c = nothing_written _ _ _ _ (search rules) refl
