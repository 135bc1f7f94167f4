use Rattle.std.specs.Rc.{rc_str_bytes}
use Rattle.pywheel_core.specs.Inner.Lent.{set_of}
use Rattle.pywheel_core.proofs.Lemmas.Tag.Lowering.{set_read, set_refused}
use Rattle.pywheel_core.proofs.tag_set.read_tag_set.Goals as goal

pub returns-in_default : goal.returns-in_default
returns-in_default c = λ _. set_refused c.args.text.now (set_of c.args.set.now) c.requires c.in_default.ensures

pub returns : goal.returns
returns c = set_read c.args.text.now (rc_str_bytes c.in_ok-lower.lower) (set_of c.args.set.now) c.in_ok-tags.tags.items
    c.in_ok-lower.ensures c.requires c.in-Some.ensures.0 c.in_ok-tags.ensures
