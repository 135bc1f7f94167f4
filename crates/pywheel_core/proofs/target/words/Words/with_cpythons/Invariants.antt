use Rattle.std.proofs.Common.{◌≡◌, ◌+◌, ◌++◌, map}
use Rattle.std.specs.List.{flat_map}
use Rattle.pywheel_core.specs.Target.Tags.{cpython_name}
use Rattle.pywheel_core.specs.Target.Platforms.{down}
use Rattle.pywheel_core.proofs.target.words.Words.with_cpythons.Given as goal

abbrev pub invariant-loop-older : goal.invariant-loop-older
invariant-loop-older l = l.words ++ map cpython_name (down 2 l.older) ≡ l.fn.self ++ map cpython_name (down 2 l.minor)
