-- What is printed of the files of several locks, and of two sources that differ.
use Rattle.std.specs.Prelude.{ℕ, Bool, ◌++◌, List, [], ◌∷◌, if◌then◌else◌, Some, codes, decimal}
use Rattle.std.specs.Prelude.{length, unwrap_or}
use Rattle.std.specs.List.{flat_map}
use Rattle.pylock_readers.specs.Entry.{place_of}
use Rattle.pylock_core.specs.Session.Picks.{SourceValue, source_file_name, source_location}
use Rattle.pylock_run.specs.Text.Field.{field, line_of}
use Rattle.pylock_run.specs.Text.Plan.{source_fields, source_line}
use Rattle.pylock_shown.specs.Hidden.{hidden}
use Rattle.pylock_union.specs.Listed.{LockSourceValue}

-- the line that a source has in `files` of its own lock; with its lock, that lock's number stands
-- behind it
abbrev pub listed_line : (tells_lock : Bool) → LockSourceValue → List ℕ
listed_line tells_lock one =
    source_line one.number one.entry
    (source_fields one.source ++ (if tells_lock then decimal one.lock ∷ [] else []))

-- `files K` and K lines
abbrev pub listed_text : (tells_lock : Bool) → List LockSourceValue → List ℕ
listed_text tells_lock list =
    codes "files " ++ decimal (length list) ++ codes "\n"
    ++ flat_map (listed_line tells_lock) list

-- ---- what differs

-- its file name, or the place of what has none, as it is shown
abbrev pub called : SourceValue → List ℕ
called source = hidden (unwrap_or (source_file_name source) (place_of (source_location source)))

-- the words of a refusal: the lock and the entry of the earlier source and of the later, and the
-- file
abbrev pub clash_words : (earlier later : LockSourceValue) → List (List ℕ)
clash_words earlier later =
    codes "files" ∷ decimal earlier.lock ∷ decimal earlier.number ∷ decimal later.lock
    ∷ decimal later.number ∷ called later.source ∷ []

-- the same as fields, of which the file is a text
abbrev pub clash_fields : (earlier later : LockSourceValue) → List (List ℕ)
clash_fields earlier later =
    codes "files" ∷ decimal earlier.lock ∷ decimal earlier.number ∷ decimal later.lock
    ∷ decimal later.number ∷ field (Some (called later.source)) ∷ []

abbrev pub clash_text : (earlier later : LockSourceValue) → List ℕ
clash_text earlier later = line_of (codes "refused") (clash_fields earlier later)
