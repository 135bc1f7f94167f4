use Rattle.std.proofs.Common.{◌≡◌, false}
use Rattle.pymark_core.specs.Inner.Passed.{BeginsNowhere}
use Rattle.pymark_core.proofs.substring.may_begin.Given as goal

-- the part begins at none of the places so far
abbrev pub invariant-loop-place : goal.invariant-loop-place
invariant-loop-place l = l.may ≡ false → BeginsNowhere l.part l.whole l.from l.place
