use Rattle.std.proofs.Common.{◌≡◌, ◌∙◌, Bor, ap, sym, true}
use Rattle.std.specs.List.{list_any}
use Rattle.pymark_core.proofs.Lemmas.Marker.Depth.{any_map}
use Rattle.pymark_core.specs.Marker.Asked.{comparison_reads_extra, reads_extra}
use Rattle.pymark_core.specs.declared.comparison.Comparison.{Comparison}
use Rattle.pymark_algebra.proofs.ExtraLemmas.{has_no_value}
use Rattle.pymark_algebra.proofs.valueless.is_valueless.Goals as goal

pub returns : goal.returns
returns c = λ is e b has.
    let reads : reads_extra c.args.marker.now.tree ≡ true =
    ap (list_any comparison_reads_extra) (sym c.in_ok-comparisons.ensures)
    ∙ any_map (λ (x : Bor Comparison). x.now) comparison_reads_extra c.in_ok-comparisons.comparisons.items
    ∙ ap (list_any (λ (x : Bor Comparison). comparison_reads_extra x.now)) (sym c.deref.ensures.value)
    ∙ sym c.have_extra.ensures ∙ is in
    has_no_value e c.args.marker.now.tree b reads has
