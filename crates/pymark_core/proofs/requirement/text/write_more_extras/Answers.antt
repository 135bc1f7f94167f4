use Rattle.std.proofs.Common.{◌≤◌, ◌∙◌, ap, arith, length, subst, sym}
use Rattle.std.proofs.lemmas.List.{take_all}
use Rattle.std.proofs.lemmas.List.Folds.{flat_map-map}
use Rattle.std.specs.Fmt.{HasWritten}
use Rattle.std.specs.List.{flat_map}
use Rattle.std.specs.Prelude.{string_bytes}
use Rattle.pymark_core.specs.Requirement.Text.{comma_extra}
use Rattle.pymark_core.proofs.requirement.text.write_more_extras.Goals as goal

pub returns : goal.returns
returns g c =
    let extras = c.args.extras.now in
    let all : length extras ≤ c.loop-extra.extra-index = omega arith in
    λ plain _. subst (λ text. HasWritten g.W.Write.write_str_gives c.args.f.now text c.loop-extra.f)
    (ap (λ passed. flat_map (λ extra. comma_extra (string_bytes extra)) passed) (take_all c.loop-extra.extra-index extras all)
    ∙ sym (flat_map-map comma_extra string_bytes extras))
    (c.loop-extra.invariant plain)
