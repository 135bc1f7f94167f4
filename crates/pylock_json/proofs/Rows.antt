-- Members that are put one after another.
use Rattle.std.proofs.Common.{◌≡◌, List, [], ◌∷◌, ◌++◌, refl}
use Rattle.serde_json.specs.Data.{Members}
use Rattle.pylock_json.specs.Json.{Row, with_row, with_rows}

-- rows after rows are put after them
pub with_rows_behind : (before after : List Row) (ms : Members)
    → with_rows (before ++ after) ms ≡ with_rows after (with_rows before ms)
with_rows_behind [] after ms = refl
with_rows_behind (row ∷ before) after ms =
    with_rows_behind before after (with_row row ms)
