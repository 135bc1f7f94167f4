use Rattle.std.proofs.Common.{◌≡◌, ◌++◌, map, take}
use Rattle.pywheel_core.specs.Target.Platforms.{mac_name}
use Rattle.pywheel_core.proofs.target.words.Words.with_mac_version.Given as goal

abbrev pub invariant-loop-format : goal.invariant-loop-format
invariant-loop-format l = l.words ≡ l.fn.self ++ map (λ format. mac_name l.major l.minor format.now) (take l.format-index l.format-items)
