use Rattle.std.proofs.Common.{◌≡◌, ◌++◌, ◌∷◌, [], ap, sym, ◌∙◌}
use Rattle.pytoml.proofs.Levels.{kept_last}
use Rattle.pytoml.proofs.draft.Draft.close_last.Goals as goal

pub returns-clause-kept : goal.returns-clause-kept
returns-clause-kept c = λ rings inner h.
    let split : c.args.self.now.levels.items ≡ c.pop.new.self.items ++ c.in-Some.level ∷ [] = c.in-Some.ensures.items in
    kept_last c.args.self.now c.put_away.new.self c.put_away.result c.in-Some.level rings inner h
    (split ∙ ap (λ v. v.items ++ c.in-Some.level ∷ []) (sym c.put_away.ensures.levels)) c.put_away.ensures.closed
