-- The command is there without being read.
use Rattle.std.proofs.Common.{rules, refl}
use Rattle.std.specs.Prelude.{Ok}
use Rattle.pylock_core.specs.declared.edit.Edit.TheVariants as edit
use Rattle.pylock_run.specs.declared.line.commands.Command.TheVariants as command
use Rattle.pylock_c.proofs.sessions.pylock_session_del.Goals as goal

pub returns : goal.returns
returns c = let t = c.obey_slot.ensures (Ok (command.Edit (edit.Del c.args.number))) refl in (t.0, t.1, Prim.search rules, t.3)
