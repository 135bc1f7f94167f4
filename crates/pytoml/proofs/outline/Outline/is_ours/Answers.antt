use Rattle.std.proofs.Common.{◌∙◌, sym, ap₂}
use Rattle.std.specs.Str.{bytes_eq}
use Rattle.std.proofs.lemmas.Map.Text.{is_eq-slice_cmp}
use Rattle.toml_parser.specs.Reading.{key_view}
use Rattle.pytoml.specs.Outline.{first_part}
use Rattle.pytoml.proofs.outline.Outline.is_ours.Goals as goal

pub returns : goal.returns
returns g c =
    c.eq.ensures ∙ ap₂ bytes_eq c.first_part.ensures c.key.ensures ∙ sym (is_eq-slice_cmp (first_part (key_view c.args.key.now)) g.E.Elements.key)
