use Rattle.std.proofs.Common.{◌∙◌, List, length, ap, sym}
use Rattle.std.specs.Bool.{◌==◌}
use Rattle.std.specs.Option.{is_some}
use Rattle.pyver_core.specs.declared.version.part.LocalPart.{LocalPart}
use Rattle.pymark_algebra.proofs.PythonLemmas.{alone}
use Rattle.pymark_algebra.proofs.coherent.is_alone.Goals as goal

pub returns : goal.returns
returns c = λ is. alone c.args.version.now (sym c.epoch.ensures ∙ c.if-epoch-ne0.false)
    (ap is_some (sym c.pre.ensures) ∙ sym c.if-is_some.ensures) (ap is_some (sym c.post.ensures) ∙ sym c.if-is_some-2.ensures)
    (ap is_some (sym c.dev.ensures) ∙ sym c.if-is_some-3.ensures)
    (ap (λ (l : List LocalPart). length l == 0) (sym c.local.ensures) ∙ sym c.is_empty.ensures ∙ is)
