use Rattle.std.proofs.Common.{◌≡◌, false, cond, ap, lit<, None}
use Rattle.std.specs.Prelude.{Ok, Err}
use Rattle.std.specs.List.{list_any, before_first, after_first}
use Rattle.std.proofs.lemmas.Str.Pattern.{split_once_first}
use Rattle.pylock_run.specs.Line.Argument.{is_space}
use Rattle.pylock_run.specs.declared.line.refusal.LineRefusal.TheVariants.{Argument}
use Rattle.pylock_run.proofs.LineLemmas.{no_space}
use Rattle.pylock_run.proofs.line.argument.split_at_space.Goals as goal

pub returns-in-None : goal.returns-in-None
returns-in-None c = λ _.
    let text = c.args.text.now in
    let none : list_any is_space text ≡ false = no_space text (split_once_first 32 text None c.in-None.ensures.cases (lit< tt)) in
    ap (λ t. cond t (Ok (before_first is_space text, after_first is_space text)) (Err Argument)) none
