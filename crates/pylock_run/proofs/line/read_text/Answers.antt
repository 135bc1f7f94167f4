use Rattle.std.proofs.Common.{◌≡◌, false, cond, ap, sym, subst, lit<, None, Some}
use Rattle.std.specs.List.{list_any, before_first, after_first}
use Rattle.std.proofs.lemmas.Str.Pattern.{split_once_first}
use Rattle.pytext.specs.Agreement.{Gives}
use Rattle.pylock_run.specs.Line.{text_command}
use Rattle.pylock_run.specs.Line.Argument.{is_space}
use Rattle.pylock_run.specs.Line.Commands.{command_after}
use Rattle.pylock_run.specs.declared.line.refusal.LineRefusal.TheVariants.{Memory}
use Rattle.pylock_run.proofs.LineLemmas.{no_space}
use Rattle.pylock_run.proofs.line.read_text.Goals as goal

pub returns-in-None : goal.returns-in-None
returns-in-None c =
    let text = c.args.text.now in
    let none : list_any is_space text ≡ false = no_space text (split_once_first 32 text None c.in-None.ensures.cases (lit< tt)) in
    let whole : text_command text ≡ command_after text None =
    ap (λ t. cond t (command_after (before_first is_space text) (Some (after_first is_space text))) (command_after text None)) none in
    subst (Gives Memory (λ command. command) c.read_command-in-None.result) (sym whole) c.read_command-in-None.ensures
