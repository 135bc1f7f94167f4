-- Which parts make a version: those that a text spells (the law `parts_have_a_spelling`). PEP 440,
-- "Public version identifiers" and "Local version identifiers".
use Rattle.std.specs.Prelude.{ℕ, ◌==◌, ◌&&◌, ◌||◌, not, if◌then◌else◌, Bool, true, length}
use Rattle.std.specs.Prelude.{Result, Ok, Err}
use Rattle.std.specs.Char.{is_ascii_digit, is_ascii_lowercase}
use Rattle.std.specs.List.{list_all}
use Rattle.pyver_core.specs.Version.Parts.{Parts}
use Rattle.pyver_core.specs.declared.version.from_parts.PartsError.{PartsError}
use Rattle.pyver_core.specs.declared.version.from_parts.PartsError.TheVariants.{EmptyRelease}
use Rattle.pyver_core.specs.declared.version.from_parts.PartsError.TheVariants.{LocalSegment}
use Rattle.pyver_core.specs.declared.version.part.LocalPart.{LocalPart}
use Rattle.pyver_core.specs.declared.version.part.LocalPart.TheVariants.{Number, Text}

-- an ASCII digit or a letter in lower case
abbrev pub is_segment_byte : ℕ → Bool
is_segment_byte b = is_ascii_digit b || is_ascii_lowercase b

-- a segment of a local part: a number; or digits and letters in lower case, not all of them digits
abbrev pub is_segment : LocalPart → Bool
is_segment (Number n) = true
is_segment (Text label) = list_all is_segment_byte label && not (list_all is_ascii_digit label)

-- the version with these parts: its release has a number, and each part of its local part is a
-- segment
abbrev pub version_from_parts : Parts → Result Parts PartsError
version_from_parts parts =
    if length parts.release == 0 then Err EmptyRelease
    else (if list_all is_segment parts.local then Ok parts else Err LocalSegment)
