use Rattle.std.proofs.Common.{[], ◌∷◌, ◌++◌, ap, ◌∙◌}
use Rattle.pymark_clauses.proofs.ClauseLemmas.{always_tells, never_tells}
use Rattle.pymark_clauses.proofs.clauses.of_constant.Goals as goal
use Rattle.pymark_clauses.proofs.clauses.of_constant.Goals.{then-is_wanted+in_ok-push, else-is_wanted}

pub returns : goal.returns
returns c = λ e wanted value is.
    elim c.if-is_wanted.branch [
      | then-is_wanted+in_ok-push w ↦ always_tells e wanted value w.new.result c.if-is_wanted.clauses.items (is.1 w.if-is_wanted.true) w.new.ensures.items
          (ap (λ v. v.items) w.clauses-is ∙ w.in_ok-push.ensures.items ∙ ap (λ items. items ++ w.new.result ∷ []) c.new-clauses.ensures.items)
      | else-is_wanted w ↦ never_tells e wanted value c.if-is_wanted.clauses.items (λ same. cc (is.0 same, w.if-is_wanted.false)) (ap (λ v. v.items) w.clauses-is ∙ c.new-clauses.ensures.items)
    ]
