use Rattle.std.proofs.Common.{arith, refl}
use Rattle.std.proofs.lemmas.Iterator.Splits.{YieldsList-from_str_split}
use Rattle.pywheel_core.specs.Tag.{pieces}
use Rattle.pylock_values.specs.Tags.{abi_fields}
use Rattle.pylock_values.proofs.TagsLemmas.{pushed_all, pushed_piece}
use Rattle.pylock_values.proofs.tags.push_abis.Goals as goal

pub loop-abi-init : goal.loop-abi-init
loop-abi-init c =
    let yields = YieldsList-from_str_split 46 c.args.abis.now (omega arith) c.split-abi-items.ensures.text c.split-abi-items.ensures.has_more c.split-abi-items.ensures.pattern in
    (pieces c.args.abis.now, rw c.into_iter-abi-iterator.ensures.into_iter_gives yields, refl)

pub loop-abi-preserved : goal.loop-abi-preserved
loop-abi-preserved c =
    pushed_piece (abi_fields c.args.python.now (pieces c.args.platforms.now)) (pieces c.args.abis.now) c.loop-abi.abi-iterator c.next.new.self c.in-Some.abi c.args.out.now.items c.loop-abi.out.items _
    c.in-Some.ensures.steps c.loop-abi.invariant c.in_ok-push_platforms.ensures

pub returns : goal.returns
returns c =
    pushed_all (abi_fields c.args.python.now (pieces c.args.platforms.now)) (pieces c.args.abis.now) c.loop-abi.abi-iterator c.next.new.self c.args.out.now.items c.loop-abi.out.items
    c.in-None.ensures.steps c.loop-abi.invariant
