use Rattle.std.proofs.Common.{◌≡◌, ◌+◌, ◌++◌, map}
use Rattle.std.specs.List.{flat_map}
use Rattle.pywheel_core.specs.Target.Platforms.{musl_name}
use Rattle.pywheel_core.specs.Target.Platforms.{down}
use Rattle.pywheel_core.proofs.target.words.Words.with_musllinux.Given as goal

abbrev pub invariant-loop-musl : goal.invariant-loop-musl
invariant-loop-musl l = l.words ++ map (musl_name l.arch) (down 0 l.musl) ≡ l.fn.self ++ map (musl_name l.arch) (down 0 (l.minor + 1))
