-- The record is that of the environment that the slot keeps.
use Rattle.std.proofs.Common.{rules}
use Rattle.pylock_c.proofs.environments.record_in.Goals as goal

pub returns : goal.returns
returns c = (c.in_ok-environment_in.field-0.now, Prim.search rules, c.in_ok-environment_record.ensures)
