use Rattle.std.proofs.Common.{◌≡◌, take}
use Rattle.pylock_program.specs.Matrix.{asked_settings}
use Rattle.pylock_program.proofs.matrix.settings_of.Given as goal

-- the settings so far
abbrev pub invariant-loop-option : goal.invariant-loop-option
invariant-loop-option l = l.settings.items ≡ asked_settings (take l.option-index l.options)
