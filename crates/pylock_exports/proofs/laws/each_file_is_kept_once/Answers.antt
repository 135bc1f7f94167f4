use Rattle.pylock_exports.proofs.OnceLemmas.{kept_are_sources}
use Rattle.pylock_exports.proofs.laws.each_file_is_kept_once.Goals as goal

pub returns-clause-sources : goal.returns-clause-sources
returns-clause-sources c = kept_are_sources
