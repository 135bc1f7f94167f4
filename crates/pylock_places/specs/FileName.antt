-- How the file name of an sdist or a wheel is shown. It is found in the texts as they are shown, so
-- that nothing which is hidden there is a part of it: `https://user:password#@h/x` ends its path
-- with `password`.
use Rattle.std.specs.Prelude.{ℕ, List, Option, option_map}
use Rattle.pylock_readers.specs.Entry.{FileValue}
use Rattle.pylock_readers.specs.Entry.FileName.{file_name_of}
use Rattle.pylock_shown.specs.Hidden.{hidden, hidden_name}

-- a file name is shown as what stands behind a slash
abbrev pub shown_file_name : FileValue → Option (List ℕ)
shown_file_name file =
    option_map hidden_name
    (file_name_of (option_map hidden file.name) (option_map hidden file.location.path)
    (option_map hidden file.location.url))
