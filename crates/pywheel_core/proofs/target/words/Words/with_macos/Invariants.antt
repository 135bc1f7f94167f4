use Rattle.std.proofs.Common.{◌≡◌, ◌+◌, ◌++◌, map}
use Rattle.std.specs.List.{flat_map}
use Rattle.pywheel_core.specs.Target.Platforms.{mac_names}
use Rattle.pywheel_core.specs.Target.Platforms.{down}
use Rattle.pywheel_core.proofs.target.words.Words.with_macos.Given as goal

abbrev pub invariant-loop-version : goal.invariant-loop-version
invariant-loop-version l = l.words ++ flat_map (λ version. mac_names l.arch version 0) (down 11 l.version) ≡ l.fn.self ++ flat_map (λ version. mac_names l.arch version 0) (down 11 (l.major + 1))
