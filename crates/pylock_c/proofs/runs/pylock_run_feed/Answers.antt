-- The form is the one that was asked for.
use Rattle.std.proofs.Common.{rules, subst}
use Rattle.pylock_command.specs.declared.form.Form.{Form}
use Rattle.pylock_slots.specs.Runs.{Feeds}
use Rattle.pylock_slots.specs.Slot.{object}
use Rattle.pylock_c.proofs.runs.pylock_run_feed.Goals as goal

pub returns-clause-fed : goal.returns-clause-fed
returns-clause-fed c = λ ok.
    subst (λ (f : Form). Feeds f c.args.piece.now (object c.args.run.now) (object c.feed_run_in.new.run) (object c.feed_run_in.new.output)) c.form_of.ensures
    (c.feed_run_in.ensures.fed (Prim.search rules))
