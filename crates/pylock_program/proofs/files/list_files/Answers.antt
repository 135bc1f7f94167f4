use Rattle.std.proofs.Common.{Err, inr, refl}
use Rattle.pylock_program.specs.declared.failure.Failure.TheVariants.{Memory}
use Rattle.pylock_program.proofs.files.list_files.Goals as goal

-- memory ran out before a file was read
pub returns-in_default : goal.returns-in_default
returns-in_default g c = record {
  read = Err Memory;
  between = g.R.Source.value c.args.host.now.reader;
  given = inr refl;
  leads = (refl, refl, refl);
}
