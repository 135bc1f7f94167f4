-- Both trees are what reading the tokens gives.
use Rattle.pymark_core.specs.Marker.RoundTrip.{tree_read_back}
use Rattle.pymark_core.proofs.laws.one_tree.Goals as goal

pub returns : goal.returns
returns c text a b p q =
    let x = tree_read_back a in
    let y = tree_read_back b in
    cc
