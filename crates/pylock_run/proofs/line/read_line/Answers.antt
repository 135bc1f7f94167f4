use Rattle.std.proofs.Common.{◌≡◌, ◌∙◌, sym, ap, subst}
use Rattle.std.specs.Str.{IsUtf8}
use Rattle.pytext.specs.Agreement.{Gives}
use Rattle.pylock_run.specs.Line.{text_command, without_cr}
use Rattle.pylock_run.specs.declared.line.refusal.LineRefusal.TheVariants.{Memory}
use Rattle.pylock_run.proofs.LineLemmas.{command_of_text, command_of_not_text}
use Rattle.pylock_run.proofs.line.read_line.Goals as goal

pub returns-in-Ok : goal.returns-in-Ok
returns-in-Ok c =
    let text : c.in-Ok.text.now ≡ without_cr c.args.line.now = c.in-Ok.ensures.cases.0 ∙ c.without_cr.ensures in
    let utf8 : IsUtf8 (without_cr c.args.line.now) = subst IsUtf8 c.without_cr.ensures c.in-Ok.ensures.cases.1 in
    subst (Gives Memory (λ command. command) c.read_text.result)
    (ap text_command text ∙ sym (command_of_text c.args.line.now c.if-line-gt-LINE_LIMIT.false utf8)) c.read_text.ensures

pub returns-in-Err : goal.returns-in-Err
returns-in-Err c =
    λ _. command_of_not_text c.args.line.now c.if-line-gt-LINE_LIMIT.false (λ utf8. c.in-Err.ensures.cases.0 (subst IsUtf8 (sym c.without_cr.ensures) utf8))
