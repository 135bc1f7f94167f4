-- What changed from one lock to another: a line for each change, of fields that are safe to show.
use Rattle.std.specs.Prelude.{ℕ, ◌++◌, List, [], ◌∷◌, codes, decimal, length}
use Rattle.std.specs.List.{flat_map}
use Rattle.pylock_diff.specs.Change.{ChangeValue, change_word}
use Rattle.pylock_run.specs.Text.Field.{line_of}
use Rattle.pylock_program.specs.Text.Safe.{safe_field}

abbrev pub change_line : ChangeValue → List ℕ
change_line change =
    line_of (change_word change.kind)
    (safe_field change.name ∷ safe_field change.from ∷ safe_field change.to ∷ [])

-- `changes K`, and K lines
abbrev pub changes_text : List ChangeValue → List ℕ
changes_text changes =
    codes "changes " ++ decimal (length changes) ++ codes "\n" ++ flat_map change_line changes
