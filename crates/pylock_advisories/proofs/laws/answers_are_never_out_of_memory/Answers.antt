use Rattle.pylock_advisories.proofs.NeverMemory.{advisory_fine, file_fine}
use Rattle.pylock_advisories.proofs.laws.answers_are_never_out_of_memory.Goals as goal

pub returns : goal.returns
returns c = record { advisory = advisory_fine; file = file_fine }
