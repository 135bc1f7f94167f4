use Rattle.pyver_core.proofs.Lemmas.Set.Reading.Complete.{operand_complete}
use Rattle.pyver_core.proofs.Lemmas.Set.Reading.Sound.{operand_sound}
use Rattle.pyver_core.proofs.laws.operand_of_is_complete.Goals as goal

pub returns : goal.returns
returns c = record { sound = operand_sound; complete = λ text s. operand_complete s text }
