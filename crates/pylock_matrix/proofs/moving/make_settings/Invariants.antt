use Rattle.std.proofs.Common.{◌≡◌, drop}
use Rattle.pylock_matrix.specs.Moving.{with_settings}
use Rattle.pylock_matrix.proofs.moving.make_settings.Given as goal

-- the settings that are left make the rest
abbrev pub invariant-loop-setting : goal.invariant-loop-setting
invariant-loop-setting l = with_settings (drop l.setting-index l.settings) l.environment ≡ with_settings l.settings l.fn.environment
