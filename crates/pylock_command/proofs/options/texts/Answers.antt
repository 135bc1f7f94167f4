use Rattle.clap.specs.Words.{found_of}
use Rattle.pylock_command.proofs.PlanOptionLemmas.{texts-told}
use Rattle.pylock_command.proofs.options.texts.Goals as goal

pub returns : goal.returns
returns c = texts-told (found_of c.args.found.now) c.args.name.now c.get_strs.result c.unwrap_or_default.result c.unwrap_or_default.ensures c.get_strs.ensures
