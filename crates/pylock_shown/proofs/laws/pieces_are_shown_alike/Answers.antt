use Rattle.std.proofs.Common.{◌∙◌, ◌∷◌, ap, sym}
use Rattle.pylock_shown.proofs.PlaceLaws.{three}
use Rattle.pylock_shown.proofs.QueryLaws.{piece_is_hidden}
use Rattle.pylock_shown.specs.Hidden.{hidden}
use Rattle.pylock_shown.proofs.laws.pieces_are_shown_alike.Goals as goal

pub returns : goal.returns
returns c = λ place query first second rest no_place no_query begins no_first no_second ends.
    ap hidden (three place (63 ∷ query) first rest)
    ∙ piece_is_hidden place query first second rest no_place no_query begins no_first no_second ends
    ∙ ap hidden (sym (three place (63 ∷ query) second rest))
