use Rattle.pyver_core.proofs.Lemmas.Version.Reading.Complete.Whole.{version_complete}
use Rattle.pyver_core.proofs.laws.version_of_is_complete.Goals as goal

pub returns : goal.returns
returns c = version_complete
