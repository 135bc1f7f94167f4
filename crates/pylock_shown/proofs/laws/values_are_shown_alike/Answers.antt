use Rattle.std.proofs.Common.{◌∙◌, ◌∷◌, ap, sym}
use Rattle.pylock_shown.proofs.PlaceLaws.{three}
use Rattle.pylock_shown.proofs.QueryLaws.{value_is_hidden}
use Rattle.pylock_shown.specs.Hidden.{hidden}
use Rattle.pylock_shown.proofs.laws.values_are_shown_alike.Goals as goal

pub returns : goal.returns
returns c = λ place query first second rest no_place no_query no_first no_second ends.
    ap hidden (three place (63 ∷ query) (61 ∷ first) rest)
    ∙ value_is_hidden place query first second rest no_place no_query no_first no_second ends
    ∙ ap hidden (sym (three place (63 ∷ query) (61 ∷ second) rest))
