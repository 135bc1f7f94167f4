use Rattle.std.proofs.Common.{◌≡◌, fold, map, take}
use Rattle.std.specs.List.{flat_map}
use Rattle.std.specs.Rc.{rc_str_bytes}
use Rattle.pywheel_core.specs.Spans.{tag_at}
use Rattle.pywheel_core.specs.Tag.{with_tag}
use Rattle.pywheel_core.proofs.tag_list.TagList.add_abis.Given as goal

abbrev pub invariant-loop-abi : goal.invariant-loop-abi
invariant-loop-abi l = l.self ≡ fold with_tag l.initial.self (flat_map (λ abi. map (λ platform. tag_at (rc_str_bytes l.text) l.python abi platform) l.platforms) (take l.abi-index l.abis))
