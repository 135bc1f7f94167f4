use Rattle.std.proofs.Common.{◌∙◌, sym}
use Rattle.pylock_core.proofs.session.tables.names.set_policy_of.Goals as goal

pub set_policy-requires-clause-within : goal.set_policy-requires-clause-within
set_policy-requires-clause-within c = c.requires.is.numbering.below c.args.name.now c.in-Some.number (sym c.known_number.ensures ∙ c.in-Some.is)
