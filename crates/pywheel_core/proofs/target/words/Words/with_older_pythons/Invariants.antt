use Rattle.std.proofs.Common.{◌≡◌, ◌+◌, ◌++◌, map}
use Rattle.std.specs.List.{flat_map}
use Rattle.pywheel_core.specs.Target.Tags.{python_name}
use Rattle.pywheel_core.specs.Target.Platforms.{down}
use Rattle.pywheel_core.proofs.target.words.Words.with_older_pythons.Given as goal

abbrev pub invariant-loop-older : goal.invariant-loop-older
invariant-loop-older l = l.words ++ map python_name (down 0 l.older) ≡ l.fn.self ++ map python_name (down 0 l.minor)
