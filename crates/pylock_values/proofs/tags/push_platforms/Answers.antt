use Rattle.std.proofs.Common.{arith, refl}
use Rattle.std.proofs.lemmas.Iterator.Splits.{YieldsList-from_str_split}
use Rattle.pywheel_core.specs.Tag.{pieces}
use Rattle.pylock_values.specs.Tags.{platform_field}
use Rattle.pylock_values.proofs.TagsLemmas.{pushed_all, pushed_piece}
use Rattle.pylock_values.proofs.tags.push_platforms.Goals as goal

pub loop-platform-init : goal.loop-platform-init
loop-platform-init c =
    let yields = YieldsList-from_str_split 46 c.args.platforms.now (omega arith) c.split-platform-items.ensures.text c.split-platform-items.ensures.has_more c.split-platform-items.ensures.pattern in
    (pieces c.args.platforms.now, rw c.into_iter-platform-iterator.ensures.into_iter_gives yields, refl)

pub loop-platform-preserved : goal.loop-platform-preserved
loop-platform-preserved c =
    pushed_piece (platform_field c.args.python.now c.args.abi.now) (pieces c.args.platforms.now) c.loop-platform.platform-iterator c.next.new.self c.in-Some.platform c.args.out.now.items c.loop-platform.out.items _
    c.in-Some.ensures.steps c.loop-platform.invariant c.in_ok-push_parts.ensures

pub returns : goal.returns
returns c =
    pushed_all (platform_field c.args.python.now c.args.abi.now) (pieces c.args.platforms.now) c.loop-platform.platform-iterator c.next.new.self c.args.out.now.items c.loop-platform.out.items
    c.in-None.ensures.steps c.loop-platform.invariant
