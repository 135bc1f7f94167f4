use Rattle.pylock_matrix.proofs.MovingLemmas.{moved, stayed}
use Rattle.pylock_matrix.proofs.moving.move_to.Goals as goal

pub returns-clause-moved : goal.returns-clause-moved
returns-clause-moved c = λ has.
    moved c.make.result c.args.target.now c.args.settings.now c.args.session.now.state c.set_variables.new.session.state c.make.new.session.state c.in_ok-wanted.wanted c.in_ok-wanted.tags
    c.in_ok-wanted.ensures c.in_ok-set_variables.ensures.set has c.make.ensures.ok

pub returns-clause-stays : goal.returns-clause-stays
returns-clause-stays c =
    stayed c.make.result c.in_ok-wanted.tags c.args.session.now.state c.set_variables.new.session c.make.new.session
    c.set_variables.ensures.stays c.make.ensures.ok c.make.ensures.err
