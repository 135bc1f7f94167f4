use Rattle.std.proofs.Common.{rules, refl}
use Rattle.pylock_program.proofs.OpeningLemmas.{nothing_written}
use Rattle.pylock_program.proofs.files.write_sources.Goals as goal

pub returns-in_err-push_listed-in-Shown : goal.returns-in_err-push_listed-in-Shown
returns-in_err-push_listed-in-Shown g c = nothing_written _ _ _ _ (search rules) refl
