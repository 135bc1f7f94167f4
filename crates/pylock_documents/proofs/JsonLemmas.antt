-- Members that are put in parts.
use Rattle.std.proofs.Common.{◌≡◌, ◌∙◌, ◌++◌, List, ap, sym}
use Rattle.serde_json.specs.Data.{Members}
use Rattle.pylock_json.proofs.Rows.{with_rows_behind}
use Rattle.pylock_json.specs.Json.{Row, with_rows}

-- rows that are put after others are put with them
pub put_behind : (before after : List Row) (old middle new : Members) → middle ≡ with_rows before old
    → new ≡ with_rows after middle → new ≡ with_rows (before ++ after) old
put_behind before after old middle new first second =
    second ∙ ap (λ ms. with_rows after ms) first ∙ sym (with_rows_behind before after old)
