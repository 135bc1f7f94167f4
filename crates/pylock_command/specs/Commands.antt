-- A command that is being made, unless memory ran out, in clap's terms.
use Rattle.std.specs.Prelude.{◌≡◌, false, IfOk, Result}
use Rattle.std.specs.declared.alloc.AllocError.{AllocError}
use Rattle.clap.specs.Words.{App, app_of}
use Rattle.clap.specs.declared.builder.command.Command.{Command}
use Rattle.clap.specs.declared.builder.command.Command.TheViews.{out-Command}

-- the command is this one
abbrev pub IsCommand : App → Result Command AllocError → Type 0
IsCommand app command = IfOk command (λ c. app_of c ≡ app)

-- the command has no argument that holds in its subcommands too
abbrev pub IsLocal : Result Command AllocError → Type 0
IsLocal command = IfOk command (λ c. (out-Command c).has_globals ≡ false)

-- what this step makes of the command, whichever it is
abbrev pub Adds : (App → App) → Result Command AllocError → Result Command AllocError → Type 0
Adds step old new = (app : App) → IsCommand app old → IsCommand (step app) new
