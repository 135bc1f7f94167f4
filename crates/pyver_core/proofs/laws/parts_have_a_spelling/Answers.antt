use Rattle.pyver_core.proofs.Lemmas.Version.FromParts.{from_spells, spelt_from}
use Rattle.pyver_core.proofs.laws.parts_have_a_spelling.Goals as goal

pub returns : goal.returns
returns c = record { made = from_spells; spelt = spelt_from }
