-- Where a text may be cut behind what `===` takes.
use Rattle.std.proofs.Common.{◌≡◌, ℕ, ◌<◌, false, List, arith}
use Rattle.std.specs.List.{prefix_len}
use Rattle.std.specs.Str.{IsCharBoundary}
use Rattle.std.proofs.lemmas.Bool.Decides.{nat_tests}
use Rattle.pytext.proofs.BoundaryLemmas.{boundary_before}
use Rattle.pyver_core.specs.Set.Grammar.{is_arbitrary_byte}

other-ascii : (b : ℕ) → is_arbitrary_byte b ≡ false → b < 128
other-ascii b other = grind (arith, nat_tests)

pub boundary_behind_arbitrary : (bs : List ℕ) → IsCharBoundary bs (prefix_len is_arbitrary_byte bs)
boundary_behind_arbitrary bs = boundary_before is_arbitrary_byte other-ascii bs
