use Rattle.std.proofs.Common.{arith}
use Rattle.std.proofs.lemmas.Simd.{zip2_splat}
use Rattle.pytoml.specs.Text.{is_stop}
use Rattle.pytoml.proofs.Lanes.{hit, below, either, masked}
use Rattle.pytoml.proofs.text.stops.Goals as goal

pub returns : goal.returns
returns c =
    let v = c.args.lanes in
    let long = c.fits-lanes.0 in
    let quotes = zip2_splat hit v 16 34 long in
    let backslashes = zip2_splat hit v 16 92 long in
    let deletes = zip2_splat hit v 16 127 long in
    let controls = zip2_splat below v 16 32 long in
    masked _ is_stop v _ (omega arith) c.fits-lanes.1 (either _ _ v (either _ _ v (either _ _ v quotes backslashes) deletes) controls) tt
