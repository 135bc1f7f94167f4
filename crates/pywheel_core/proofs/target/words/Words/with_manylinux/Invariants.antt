use Rattle.std.proofs.Common.{◌≡◌, ◌+◌, ◌++◌, map}
use Rattle.std.specs.List.{flat_map}
use Rattle.pywheel_core.specs.Target.Platforms.{glibc_names}
use Rattle.pywheel_core.specs.Target.Value.{glibc_floor}
use Rattle.pywheel_core.specs.Target.Platforms.{down}
use Rattle.pywheel_core.proofs.target.words.Words.with_manylinux.Given as goal

abbrev pub invariant-loop-glibc : goal.invariant-loop-glibc
invariant-loop-glibc l = l.words ++ flat_map (glibc_names l.arch) (down (glibc_floor l.arch) l.glibc) ≡ l.fn.self ++ flat_map (glibc_names l.arch) (down (glibc_floor l.arch) (l.minor + 1))
