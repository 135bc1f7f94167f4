use Rattle.pylock_core.proofs.Lemmas.Tables.Names.{policies_set}
use Rattle.pylock_core.proofs.session.tables.names.set_policy.Goals as goal

pub returns-clause-policies : goal.returns-clause-policies
returns-clause-policies c = λ name has. policies_set c.args.names.now c.args.number c.args.policy name c.requires.is c.requires.within has
