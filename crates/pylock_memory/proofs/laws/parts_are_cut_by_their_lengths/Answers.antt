use Rattle.pylock_memory.proofs.PartsLemmas.{are_parts, parts_are_cut}
use Rattle.pylock_memory.proofs.laws.parts_are_cut_by_their_lengths.Goals as goal

pub returns-clause-are : goal.returns-clause-are
returns-clause-are c = are_parts

pub returns-clause-cut : goal.returns-clause-cut
returns-clause-cut c = parts_are_cut
