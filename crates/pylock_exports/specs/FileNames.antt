-- What the names of files say: of which project they are, and what a tool takes them for.
use Rattle.std.specs.Prelude.{[], ℕ, Bool, false, ◌||◌, ◌-◌, codes, List, ◌∷◌, length, drop, Option}
use Rattle.std.specs.Prelude.{Some, None, option_map, not, ◌==◌, ◌&&◌, if◌then◌else◌}
use Rattle.std.specs.Option.{option_map_or}
use Rattle.std.specs.Result.{result_ok}
use Rattle.std.specs.Str.{bytes_eq, str_eq_ignore_ascii_case}
use Rattle.pyver_core.specs.Name.{normal_name}
use Rattle.pywheel_core.specs.Sdist.{sdist_of}
use Rattle.pywheel_core.specs.Wheel.{wheel_of}
use Rattle.pylock_readers.specs.Entry.FileName.{file_name_of}
use Rattle.pylock_exports.specs.Parts.{Check, parts_of, require}
use Rattle.pylock_exports.specs.declared.refusal.Field.TheVariants as field
use Rattle.pylock_exports.specs.declared.refusal.Reason.TheVariants as reason

-- what the URL ends in before its query, decoded once, else what the path ends in
abbrev pub last_part : (url path : Option (List ℕ)) → Option (List ℕ)
last_part (Some url) path = file_name_of None None (Some url)
last_part None path = file_name_of None path None

-- ---- of which project

-- the project that the file name of a wheel says (PEP 427), in normal form
abbrev pub wheel_project : List ℕ → Option (List ℕ)
wheel_project name = option_map (λ wheel. normal_name wheel.name) (result_ok (wheel_of name))

-- the project that the file name of an sdist says (PEP 625)
abbrev pub sdist_project : List ℕ → Option (List ℕ)
sdist_project name = option_map (λ sdist. sdist.name) (result_ok (sdist_of name))

-- a file name that can be read is of this project
abbrev pub project_check : (name : List ℕ) → (project : Option (List ℕ)) → Check
project_check name None = require field.FileName reason.Unread false
project_check name (Some project) =
    require field.FileName reason.OtherProject (bytes_eq project name)

-- ---- how they end

-- the text ends so, ASCII letter case ignored
abbrev pub ends_in : (ending text : List ℕ) → Bool
ends_in ending text =
    str_eq_ignore_ascii_case (drop (length text - length ending) text) ending

abbrev pub ends_as_wheel : List ℕ → Bool
ends_as_wheel text = ends_in (codes ".whl") text

-- what stands there does
abbrev pub is_wheel_end : Option (List ℕ) → Bool
is_wheel_end last = option_map_or ends_as_wheel last false

-- pip takes a path that ends so for the file that may stand there
abbrev pub ends_as_file : List ℕ → Bool
ends_as_file text =
    ends_as_wheel text || ends_in (codes ".zip") text || ends_in (codes ".tar") text
    || ends_in (codes ".tar.gz") text || ends_in (codes ".tgz") text
    || ends_in (codes ".tar.bz2") text || ends_in (codes ".tbz") text
    || ends_in (codes ".tar.xz") text || ends_in (codes ".txz") text || ends_in (codes ".tlz") text
    || ends_in (codes ".tar.lz") text || ends_in (codes ".tar.lzma") text

-- the part of a path names something: it is neither empty nor `.`
abbrev pub is_step : List ℕ → Bool
is_step part = not (length part == 0) && not (bytes_eq part (codes "."))

-- the last of these parts that names something, else the one before them
abbrev pub last_step_of : List ℕ → List (List ℕ) → List ℕ
last_step_of before [] = before
last_step_of before (part ∷ parts) = last_step_of (if is_step part then part else before) parts

-- the last part of a path that names something, else the one before it
abbrev pub last_step : List ℕ → List ℕ → List ℕ
last_step before path = last_step_of before (parts_of path)
