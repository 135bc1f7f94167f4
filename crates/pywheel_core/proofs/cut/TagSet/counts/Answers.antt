use Rattle.std.proofs.Common.{◌≡◌, ◌∙◌, ◌*◌, ℕ, List, ap, length, arith}
use Rattle.pywheel_core.specs.Inner.Lent.{set_of}
use Rattle.pywheel_core.specs.Tag.{pieces}
use Rattle.pywheel_core.proofs.Lemmas.Tag.Pieces.{product_le}
use Rattle.pywheel_core.proofs.cut.TagSet.counts.Goals as goal

pub returns-in_err-pairs : goal.returns-in_err-pairs
returns-in_err-pairs c =
    let set = set_of c.args.self.now in
    let pairs = length (pieces set.1) * length (pieces set.2) in
    let count : List ℕ → ℕ = λ t. length (pieces t) in
    let same : c.in_ok-abi.abi * c.in_ok-platform.platform ≡ pairs =
    λ i. (c.in_ok-abi.ensures.1 ∙ ap count c.as_bytes-2.ensures.value) i * (c.in_ok-platform.ensures.1 ∙ ap count c.as_bytes-3.ensures.value) i in
    let least = product_le set.0 pairs in
    rw c.from_residual-in_err-pairs.ensures (λ small. c.in_err-pairs.ensures (let few = small.1 in omega (arith, same, least, few)))
