use Rattle.std.proofs.Common.{◌≡◌, drop}
use Rattle.pylock_program.specs.PlanOptions.{after_options}
use Rattle.pylock_program.proofs.options.make_options.Given as goal

-- the options that are left lead on from the state so far
abbrev pub invariant-loop-option : goal.invariant-loop-option
invariant-loop-option l = after_options l.options l.initial.session.state ≡ after_options (drop l.option-index l.options) l.session.state
