use Rattle.std.proofs.Common.{◌≡◌, fold, map, take}
use Rattle.std.specs.List.{flat_map}
use Rattle.std.specs.Rc.{rc_str_bytes}
use Rattle.pywheel_core.specs.Spans.{tag_at}
use Rattle.pywheel_core.specs.Tag.{with_tag}
use Rattle.pywheel_core.proofs.tag_list.TagList.add_triples.Given as goal

abbrev pub invariant-loop-python : goal.invariant-loop-python
invariant-loop-python l = l.self ≡ fold with_tag l.initial.self (flat_map (λ python. flat_map (λ abi. map (λ platform. tag_at (rc_str_bytes l.text) python abi platform) l.platforms) l.abis) (take l.python-index l.pythons))
