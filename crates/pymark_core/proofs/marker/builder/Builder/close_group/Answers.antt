use Rattle.std.proofs.Common.{ap, ◌∙◌}
use Rattle.std.specs.Prelude.{ok_or}
use Rattle.pymark_core.proofs.Lemmas.Building.Steps.{state_after_closing_is}
use Rattle.pymark_core.specs.Marker.Reading.{frame_tree}
use Rattle.pymark_core.specs.Inner.Building.{frame_view}
use Rattle.pymark_core.specs.Marker.View.{atom_view}
use Rattle.pymark_core.specs.declared.marker.error.MarkerError.TheVariants.{Syntax}
use Rattle.pymark_core.proofs.marker.builder.Builder.close_group.Goals as goal

pub returns : goal.returns
returns c =
    let inside = c.tree.ensures ∙ ap (λ f. frame_tree (frame_view f) (atom_view c.args.atom)) c.replace-inner.ensures.value in
    ap (λ o. ok_or o Syntax)
    (state_after_closing_is c.args.self.now.outer.items c.pop.new.self.items c.in-Some.frame c.args.self.now.inner c.replace-inner.new.dest c.args.atom c.tree.result c.in_ok-group.group c.in-Some.ensures.items c.replace-inner.ensures.after inside c.in_ok-group.ensures.ok)
