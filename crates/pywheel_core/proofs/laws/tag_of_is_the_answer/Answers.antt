use Rattle.pywheel_core.proofs.Lemmas.Tag.Listing.{tag_made, tag_says}
use Rattle.pywheel_core.proofs.laws.tag_of_is_the_answer.Goals as goal

pub returns : goal.returns
returns c = record { sound = tag_says; complete = tag_made }
