-- What is told of a union.
use Rattle.std.specs.Prelude.{◌≡◌, List, Result, Ok, Err, ⊤}
use Rattle.std.specs.Global.{Global}
use Rattle.std.specs.declared.vec.Vec.{Vec}
use Rattle.pylock_union.specs.Listed.{LockSourceValue, all_lent}
use Rattle.pylock_union.specs.declared.listed.LockSource.{LockSource}
use Rattle.pylock_union.specs.declared.union.UnionError.{UnionError}
use Rattle.pylock_union.specs.declared.union.UnionError.TheVariants.{Differ, Memory}

-- the call gives the union, or the two sources that differ, unless memory was refused
abbrev pub IsUnion : Result (Vec LockSource Global) UnionError
    → Result (List LockSourceValue) (LockSourceValue × LockSourceValue) → Type 0
IsUnion (Ok list) united = united ≡ Ok (all_lent list.items)
IsUnion (Err (Differ clash)) united = united ≡ Err clash
IsUnion (Err Memory) united = ⊤
