use Rattle.std.proofs.Common.{rules, refl}
use Rattle.pylock_program.proofs.OpeningLemmas.{nothing_written}
use Rattle.pylock_program.proofs.matrix.picked.write_picked.Goals as goal

pub returns-in_err-push_picked_in-in-Shown : goal.returns-in_err-push_picked_in-in-Shown
returns-in_err-push_picked_in-in-Shown g c = nothing_written _ _ _ _ (search rules) refl
