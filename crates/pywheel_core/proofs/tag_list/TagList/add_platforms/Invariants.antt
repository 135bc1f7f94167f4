use Rattle.std.proofs.Common.{◌≡◌, fold, map, take}
use Rattle.std.specs.Rc.{rc_str_bytes}
use Rattle.pywheel_core.specs.Spans.{tag_at}
use Rattle.pywheel_core.specs.Tag.{with_tag}
use Rattle.pywheel_core.proofs.tag_list.TagList.add_platforms.Given as goal

abbrev pub invariant-loop-platform : goal.invariant-loop-platform
invariant-loop-platform l = l.self ≡ fold with_tag l.initial.self (map (λ platform. tag_at (rc_str_bytes l.text) l.python l.abi platform) (take l.platform-index l.platforms))
