use Rattle.std.proofs.Common.{subst, List, sym}
use Rattle.pymark_core.proofs.Lemmas.Building.Steps.{comparison_ended_by_right}
use Rattle.pymark_core.proofs.Lemmas.Building.Notes.{notes_gain_one}
use Rattle.pymark_core.specs.Inner.Building.{NotesGain}
use Rattle.pymark_core.specs.Marker.Comparison.{ComparisonValue}
use Rattle.pymark_core.specs.Inner.LentToken.{token_view}
use Rattle.pymark_core.proofs.marker.builder.right_operand.Goals as goal

pub returns-clause-notes : goal.returns-clause-notes
returns-clause-notes c =
    let value : ComparisonValue = record { left = c.args.left; comparator = c.args.comparator; right = c.in_ok-right.right } in
    let is = comparison_ended_by_right c.args.left c.args.comparator (token_view c.args.token) c.in_ok-right.right c.in_ok-right.ensures in
    subst (λ (cs : List ComparisonValue). NotesGain c.args.notes.now c.add.new.self cs) (sym is)
    (notes_gain_one c.args.notes.now c.add.new.self value c.add.ensures.reads c.add.ensures.misuse)
