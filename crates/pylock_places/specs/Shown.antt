-- How the place of a source is shown, and what it is called where it is spoken of.
use Rattle.std.specs.Prelude.{ℕ, ◌++◌, codes, List, [], unwrap_or}
use Rattle.std.specs.Option.{option_map_or}
use Rattle.pylock_readers.specs.Entry.{FileValue, LocationValue}
use Rattle.pylock_core.specs.Session.Picks.{SourceValue, source_file, source_location, source_word}
use Rattle.pylock_places.specs.FileName.{shown_file_name}
use Rattle.pylock_shown.specs.Hidden.{hidden}

-- the place of a source: its path, else its URL
abbrev pub shown_place : LocationValue → List ℕ
shown_place location =
    option_map_or hidden location.path (option_map_or hidden location.url [])

-- the file name as it is shown, or the place where it has none
abbrev pub file_label : FileValue → List ℕ
file_label file = unwrap_or (shown_file_name file) (shown_place file.location)

-- that of a wheel or an sdist, and of another source its place
abbrev pub source_label : SourceValue → List ℕ
source_label source =
    option_map_or file_label (source_file source) (shown_place (source_location source))

-- its kind, and what it is called
abbrev pub source_text : SourceValue → List ℕ
source_text source = source_word source ++ codes " " ++ source_label source
