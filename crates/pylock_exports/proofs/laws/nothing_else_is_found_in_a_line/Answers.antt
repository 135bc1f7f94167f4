use Rattle.pylock_exports.proofs.PipLemmas.{plain_hashed, plain_local}
use Rattle.pylock_exports.proofs.laws.nothing_else_is_found_in_a_line.Goals as goal

pub returns-clause-hashed : goal.returns-clause-hashed
returns-clause-hashed c = plain_hashed

pub returns-clause-local : goal.returns-clause-local
returns-clause-local c = plain_local
