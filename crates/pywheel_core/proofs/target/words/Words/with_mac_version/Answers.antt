use Rattle.std.proofs.Common.{◌≡◌, ◌++◌, ◌∙◌, ap, arith, map, sym}
use Rattle.std.proofs.lemmas.List.{take_all}
use Rattle.std.proofs.lemmas.Simd.{map-map}
use Rattle.pywheel_core.specs.Target.Platforms.{mac_name}
use Rattle.pywheel_core.proofs.target.words.Words.with_mac_version.Goals as goal

pub returns : goal.returns
returns c =
    let names = mac_name c.args.major c.args.minor in
    c.loop-format.invariant ∙ ap (λ formats. c.args.self ++ map (λ format. names format.now) formats) (take_all c.loop-format.format-index c.formats-format-items.result.now (omega arith))
    ∙ ap (λ t. c.args.self ++ t) (sym (map-map names (λ format. format.now) c.formats-format-items.result.now) ∙ ap (map names) c.formats-format-items.ensures)
