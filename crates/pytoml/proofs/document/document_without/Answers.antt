use Rattle.std.proofs.Common.{Some, ◌∙◌, ap}
use Rattle.std.proofs.lemmas.Result.{IfOk-weaker}
use Rattle.toml.proofs.Turns.{document_some}
use Rattle.pytoml.proofs.document.document_without.Goals as goal

pub returns : goal.returns
returns g c =
    let (doc, stands, made) = c.in_ok-add_lines.ensures in
    IfOk-weaker c.finish.result _ _ (λ read closed. (closed.0, closed.1, document_some c.args.s.now doc made ∙ ap Some closed.2, closed.3)) (c.finish.ensures doc stands)
