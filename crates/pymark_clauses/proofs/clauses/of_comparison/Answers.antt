use Rattle.std.proofs.Common.{[], ◌∷◌, ◌++◌, ap, ◌∙◌}
use Rattle.pymark_clauses.proofs.ClauseLemmas.{literal_tells}
use Rattle.pymark_clauses.specs.declared.clauses.Literal.{Literal}
use Rattle.pymark_clauses.proofs.clauses.of_comparison.Goals as goal

pub returns : goal.returns
returns c = λ e value is.
    let literal : Literal = record { comparison = c.args.comparison; wanted = c.args.wanted } in
    literal_tells e value literal c.push.new.self c.push-2.new.self.items is
    (c.in_ok-push.ensures.items ∙ ap (λ items. items ++ literal ∷ []) c.new-clause.ensures.items)
    (c.in_ok-push-2.ensures.items ∙ ap (λ items. items ++ c.push.new.self ∷ []) c.new-clauses.ensures.items)
