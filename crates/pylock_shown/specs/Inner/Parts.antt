-- What a text is cut into first.
use Rattle.std.specs.Prelude.{ℕ, suc, List, [], ◌∷◌, map, if◌then◌else◌}
use Rattle.std.specs.List.{join_with_byte}
use Rattle.pywheel_core.specs.Texts.{pieces_at}
use Rattle.pylock_shown.specs.Hidden.{hidden_piece, is_slash}

-- how many bytes stand up to the first slash, with it: all, where there is none
abbrev pub front_len : List ℕ → ℕ
front_len [] = 0
front_len (b ∷ rest) = suc (if is_slash b then 0 else front_len rest)

-- what stands between two `&`
abbrev pub query_part : List ℕ → List ℕ
query_part part = join_with_byte 59 (map hidden_piece (pieces_at 59 part))
