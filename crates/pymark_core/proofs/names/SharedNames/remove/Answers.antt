use Rattle.std.proofs.Common.{◌≡◌, ◌∙◌, ap, false, option_map, sym, unwrap_or}
use Rattle.std.specs.FinSet as set
use Rattle.pymark_core.proofs.Lemmas.Environment.Names.{remove_stays, empty_contains}
use Rattle.pymark_core.proofs.names.SharedNames.remove.Goals as goal
use Rattle.pymark_core.proofs.names.SharedNames.remove.Goals.{In_default}

-- where there is no set, no name is in
none_in : (c : In_default) → false ≡ set.contains c.args.self.now c.args.name.now
none_in c =
    empty_contains c.args.name.now
    ∙ ap (λ s. set.contains s c.args.name.now)
    (ap (λ n. unwrap_or (option_map (λ names. names.value) n) set.empty) (sym c.in_default.is) ∙ c.self.view_is)

pub returns-in_default-clause-set : goal.returns-in_default-clause-set
returns-in_default-clause-set c = c.self.view_is ∙ remove_stays _ _ (sym (none_in (goal.at.returns-in_default-clause-set c).In_default))

pub returns-in_default-clause-dropped : goal.returns-in_default-clause-dropped
returns-in_default-clause-dropped c = none_in (goal.at.returns-in_default-clause-dropped c).In_default
