use Rattle.std.proofs.Common.{◌∙◌, sym}
use Rattle.pylock_core.proofs.Lemmas.Judging.Verdict.{faulty_here}
use Rattle.pylock_environments.proofs.standing.environments_check.Goals as goal

pub returns-in-Faulty : goal.returns-in-Faulty
returns-in-Faulty c =
    faulty_here c.args.markers.now c.args.environment.now c.loop-marker.marker-index c.marker-item.result c.in-Faulty.code c.loop-marker-test.true c.marker-item.is
    (sym c.in_ok-marker_standing.ensures ∙ c.in-Faulty.is) c.loop-marker.invariant
