use Rattle.std.proofs.Common.{◌∙◌, ap, sym}
use Rattle.std.specs.FinSet.{contains}
use Rattle.pymark_core.proofs.Lemmas.Environment.Names.{contains-seen}
use Rattle.pymark_core.proofs.names.NameSet.has.Goals as goal

pub returns-clause-has : goal.returns-clause-has
returns-clause-has c =
    c.contains.ensures ∙ sym (contains-seen _ c.args.name.now)
    ∙ ap (λ s. contains s c.args.name.now) c.self.view_is

pub returns-clause-normal : goal.returns-clause-normal
returns-clause-normal c = λ there.
    c.self.invariant c.args.name.now
    (contains-seen _ c.args.name.now ∙ sym c.contains.ensures ∙ there)
