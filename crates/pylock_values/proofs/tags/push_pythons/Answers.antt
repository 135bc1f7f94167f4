use Rattle.std.proofs.Common.{arith, refl}
use Rattle.std.proofs.lemmas.Iterator.Splits.{YieldsList-from_str_split}
use Rattle.pywheel_core.specs.Tag.{pieces}
use Rattle.pylock_values.specs.Tags.{python_fields}
use Rattle.pylock_values.proofs.TagsLemmas.{pushed_all, pushed_piece}
use Rattle.pylock_values.proofs.tags.push_pythons.Goals as goal

pub loop-python-init : goal.loop-python-init
loop-python-init c =
    let yields = YieldsList-from_str_split 46 c.args.pythons.now (omega arith) c.split-python-items.ensures.text c.split-python-items.ensures.has_more c.split-python-items.ensures.pattern in
    (pieces c.args.pythons.now, rw c.into_iter-python-iterator.ensures.into_iter_gives yields, refl)

pub loop-python-preserved : goal.loop-python-preserved
loop-python-preserved c =
    pushed_piece (python_fields (pieces c.args.abis.now) (pieces c.args.platforms.now)) (pieces c.args.pythons.now) c.loop-python.python-iterator c.next.new.self c.in-Some.python c.args.out.now.items c.loop-python.out.items _
    c.in-Some.ensures.steps c.loop-python.invariant c.in_ok-push_abis.ensures

pub returns : goal.returns
returns c =
    pushed_all (python_fields (pieces c.args.abis.now) (pieces c.args.platforms.now)) (pieces c.args.pythons.now) c.loop-python.python-iterator c.next.new.self c.args.out.now.items c.loop-python.out.items
    c.in-None.ensures.steps c.loop-python.invariant
