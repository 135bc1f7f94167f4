use Rattle.pyver_core.proofs.Lemmas.Version.Reading.Complete.Whole.{one_spelling_at}
use Rattle.pyver_core.proofs.Lemmas.Version.FromParts.{normal_spells}
use Rattle.pyver_core.proofs.laws.one_spelling.Goals as goal

pub returns : goal.returns
returns c = record { once = one_spelling_at; normal_form = normal_spells }
