use Rattle.std.proofs.Common.{Ok}
use Rattle.pymark_core.proofs.Lemmas.Marker.Reading.Answers.{marker_says, marker_whole}
use Rattle.pymark_core.proofs.laws.marker_of_is_complete.Goals as goal

pub returns-clause-sound : goal.returns-clause-sound
returns-clause-sound c text m e = marker_says text (Ok m) e

pub returns-clause-complete : goal.returns-clause-complete
returns-clause-complete c text tree is flat fits = marker_whole text tree is flat fits
