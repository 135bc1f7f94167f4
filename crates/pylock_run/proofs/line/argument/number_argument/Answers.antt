use Rattle.std.proofs.Common.{◌≡◌, true, cond, ap, sym, ◌∙◌}
use Rattle.std.specs.Prelude.{Ok, Err}
use Rattle.std.specs.Str.Parse.{digits_value}
use Rattle.pylock_run.specs.Line.Argument.{is_entry_number}
use Rattle.pylock_run.specs.declared.line.refusal.LineRefusal.TheVariants.{Argument}
use Rattle.pylock_run.proofs.LineLemmas.{parses_entry_number}
use Rattle.pylock_run.proofs.line.argument.number_argument.Goals as goal

pub returns-in-Ok : goal.returns-in-Ok
returns-in-Ok c =
    let text = c.args.text.now in
    let number : is_entry_number text ≡ true = cc in
    let parsed = parses_entry_number text c.parse.result c.parse.ensures.value.0 number in
    let same : digits_value 10 text ≡ c.in-Ok.number = cc (sym parsed ∙ c.in-Ok.is) in
    ap (λ t. cond t (Ok (digits_value 10 text)) (Err Argument)) number ∙ ap Ok same

pub returns-in-Err : goal.returns-in-Err
returns-in-Err c =
    let number : is_entry_number c.args.text.now ≡ true = cc in
    let parsed = parses_entry_number c.args.text.now c.parse.result c.parse.ensures.value.0 number in
    cc (sym parsed ∙ c.in-Err.is)
