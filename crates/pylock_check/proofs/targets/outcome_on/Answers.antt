use Rattle.pylock_matrix.proofs.MovingLemmas.{has_after}
use Rattle.pylock_check.proofs.targets.outcome_on.Goals as goal

pub returns-clause-moved : goal.returns-clause-moved
returns-clause-moved c = λ has.
    has_after c.outcome_in.result c.args.target.now c.args.settings.now c.args.session.now.state c.move_to.new.session.state
    (c.in_ok-move_to.ensures.moved has)
