use Rattle.std.proofs.Common.{◌∙◌, ap, option_map, sym, unwrap_or}
use Rattle.std.specs.FinSet as set
use Rattle.pymark_core.proofs.Lemmas.Environment.Names.{empty_contains}
use Rattle.pymark_core.proofs.names.SharedNames.has.Goals as goal

pub returns-in-None-clause-has : goal.returns-in-None-clause-has
returns-in-None-clause-has c =
    empty_contains c.args.name.now
    ∙ ap (λ s. set.contains s c.args.name.now)
    (ap (λ n. unwrap_or (option_map (λ names. names.value) n) set.empty) (sym c.in-None.is) ∙ c.self.view_is)
