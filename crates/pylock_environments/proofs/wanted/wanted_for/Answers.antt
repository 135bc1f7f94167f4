use Rattle.std.proofs.Common.{◌∙◌, ap}
use Rattle.pylock_core.specs.Session.Steps.{environments_check, python_check}
use Rattle.pylock_environments.proofs.WantedLemmas.{neither}
use Rattle.pylock_environments.proofs.wanted.wanted_for.Goals as goal

pub returns : goal.returns
returns c = λ e admitted marked sought.
    let head = c.args.lock.now.head.now in
    let checks = neither (python_check head.requires_python e) (environments_check head.environments e) admitted in
    c.in_ok-add_sought.ensures e
    (c.in_ok-add_marker.ensures e
    (c.in_ok-add_set.ensures e (c.new-wanted.ensures e) (ap (λ set. python_check set e) c.requires_python.ensures ∙ checks.0)) marked) sought
