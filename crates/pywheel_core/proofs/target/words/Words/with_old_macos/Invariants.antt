use Rattle.std.proofs.Common.{◌≡◌, ◌+◌, ◌++◌, map}
use Rattle.std.specs.List.{flat_map}
use Rattle.pywheel_core.specs.Target.Platforms.{mac_names}
use Rattle.pywheel_core.specs.Target.Platforms.{down}
use Rattle.pywheel_core.proofs.target.words.Words.with_old_macos.Given as goal

abbrev pub invariant-loop-minor : goal.invariant-loop-minor
invariant-loop-minor l = l.words ++ flat_map (mac_names l.arch 10) (down 4 l.minor) ≡ l.fn.self ++ flat_map (mac_names l.arch 10) (down 4 l.end)
