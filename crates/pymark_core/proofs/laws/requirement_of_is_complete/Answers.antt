use Rattle.pymark_core.proofs.Lemmas.Requirement.Complete.{requirement_complete}
use Rattle.pymark_core.proofs.Lemmas.Requirement.Sound.{requirement_sound}
use Rattle.pymark_core.proofs.laws.requirement_of_is_complete.Goals as goal

pub returns : goal.returns
returns c = record { sound = requirement_sound; complete = requirement_complete }
