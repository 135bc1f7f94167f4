-- The advisories of a file: one JSON object, an array of them, or one on each line.
use Rattle.std.specs.Prelude.{◌++◌, ℕ, ◌+◌, ◌||◌, ◌==◌, Bool, not, List, [], ◌∷◌, filter, Option}
use Rattle.std.specs.Prelude.{Some, None, if◌then◌else◌, ok_or, option_and_then, Result, Ok, Err}
use Rattle.std.specs.List.{list_all, slice_split}
use Rattle.std.specs.Str.{is_utf8}
use Rattle.serde_json.specs.Data.{Data, Items, no_items, item}
use Rattle.serde_json.specs.Find.{as_array}
use Rattle.serde_json.specs.Read.{read}
use Rattle.pytext.specs.Results.{◌>>=◌}
use Rattle.pylock_advisories.specs.Advisory.{AdvisoryValue}
use Rattle.pylock_advisories.specs.Reading.{advisory_in}
use Rattle.pylock_advisories.specs.declared.error.AdvisoriesError.{AdvisoriesError}
use Rattle.pylock_advisories.specs.declared.error.AdvisoriesError.TheVariants as file
use Rattle.pylock_advisories.specs.declared.error.AdvisoryError.{AdvisoryError}
use Rattle.pylock_advisories.specs.declared.error.AdvisoryError.TheVariants as error

-- the bytes as text, where they are UTF-8
abbrev pub utf8_text : List ℕ → Option (List ℕ)
utf8_text bytes = if is_utf8 bytes then Some bytes else None

-- the JSON value that the bytes are
abbrev pub json_of : List ℕ → Option Data
json_of bytes = option_and_then read (utf8_text bytes)

-- the advisory at a place, counted from 1
abbrev pub at_place : {X : Type 0} → ℕ → Result X AdvisoryError → Result X AdvisoriesError
at_place place (Ok x) = Ok x
at_place place (Err e) = Err (file.Advisory place e)

-- the advisories that values are, the first of them at this place
abbrev pub values_from : ℕ → Items → Result (List AdvisoryValue) AdvisoriesError
values_from place no_items = Ok []
values_from place (item d ds) =
    at_place place (advisory_in d)
    >>= (λ a. values_from (place + 1) ds >>= (λ more. Ok (a ∷ more)))

-- the advisory of a line
abbrev pub line_advisory : List ℕ → Result AdvisoryValue AdvisoryError
line_advisory line = ok_or (json_of line) error.Json >>= advisory_in

-- the advisories that lines are, the first of them at this place
abbrev pub lines_from : ℕ → List (List ℕ) → Result (List AdvisoryValue) AdvisoriesError
lines_from place [] = Ok []
lines_from place (line ∷ lines) =
    at_place place (line_advisory line)
    >>= (λ a. lines_from (place + 1) lines >>= (λ more. Ok (a ∷ more)))

abbrev pub is_lf : ℕ → Bool
is_lf byte = byte == 10

-- JSON's white space within a line: TAB, CR, space
abbrev pub is_blank : List ℕ → Bool
is_blank line = list_all (λ byte. byte == 9 || (byte == 13 || byte == 32)) line

-- the lines that are not blank
abbrev pub lines_of : List ℕ → List (List ℕ)
lines_of bytes = filter (λ line. not (is_blank line)) (slice_split is_lf bytes)

-- the advisories of a whole JSON value
abbrev pub value_advisories : Data → Option Items → Result (List AdvisoryValue) AdvisoriesError
value_advisories d None = values_from 1 (item d no_items)
value_advisories d (Some items) = values_from 1 items

-- the same where the file is one JSON value, and else of the lines
abbrev pub whole_or_lines : Option Data → List ℕ → Result (List AdvisoryValue) AdvisoriesError
whole_or_lines None bytes = lines_from 1 (lines_of bytes)
whole_or_lines (Some d) bytes = value_advisories d (as_array d)

-- the advisories of a file's bytes
abbrev pub advisories_of : List ℕ → Result (List AdvisoryValue) AdvisoriesError
advisories_of bytes = whole_or_lines (json_of bytes) bytes

-- those that were read before, with these behind them
abbrev pub read_more : List AdvisoryValue → Result (List AdvisoryValue) AdvisoriesError
    → Result (List AdvisoryValue) AdvisoriesError
read_more before (Ok more) = Ok (before ++ more)
read_more before (Err e) = Err e
