-- What `matrix` prints with `--files`: a line for each source that picks name.
use Rattle.std.specs.Prelude.{ℕ, ◌++◌, List, codes, decimal, length}
use Rattle.std.specs.List.{flat_map}
use Rattle.pylock_core.specs.Session.State.{State}
use Rattle.pylock_core.specs.declared.answer.Pick.{Pick}
use Rattle.pylock_run.specs.Text.Plan.{pick_text}

-- `files K` and K lines, of the sources that picks name
abbrev pub picked_text : State → List Pick → List ℕ
picked_text state picks =
    codes "files " ++ decimal (length picks) ++ codes "\n" ++ flat_map (pick_text state) picks
