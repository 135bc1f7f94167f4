-- Who a URL names, one byte after another.
use Rattle.std.specs.Prelude.{ℕ, Bool, ◌==◌, ◌||◌, List, [], ◌∷◌, if◌then◌else◌}
use Rattle.pylock_places.specs.Url.{ends_authority}

-- whether a user counts who stands before the last `@` before what ends the name of the machine,
-- from what is known before this text: whether one counts as it is, since a `:` stood or any
-- counts, and whether one who counts stood before an `@`
abbrev pub user_after : Bool → Bool → List ℕ → Bool
user_after counts found [] = found
user_after counts found (b ∷ rest) =
    if ends_authority b then found
    else user_after (counts || b == 58) (if b == 64 then counts else found) rest
