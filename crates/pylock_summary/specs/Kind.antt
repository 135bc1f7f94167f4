-- Kinds of sources, and which entries have one (PEP 751, `packages`).
use Rattle.std.specs.Prelude.{ℕ, Bool, true, false, not, codes, List, [], ◌∷◌, is_some}
use Rattle.std.specs.Option.{option_map_or}
use Rattle.pylock_readers.specs.Entry.{EntryValue, FileValue}
use Rattle.pylock_summary.specs.declared.kind.SourceKind.{SourceKind}
use Rattle.pylock_summary.specs.declared.kind.SourceKind.TheVariants as kind

abbrev pub kind_word : SourceKind → List ℕ
kind_word kind.Wheel = codes "wheel"
kind_word kind.Sdist = codes "sdist"
kind_word kind.Archive = codes "archive"
kind_word kind.Vcs = codes "vcs"
kind_word kind.Directory = codes "directory"
kind_word kind.Editable = codes "editable"

abbrev pub has_files : List FileValue → Bool
has_files [] = false
has_files (file ∷ files) = true

-- the entry has a source of the kind; a directory that is installed in place is none of the kind
-- `directory`
abbrev pub has_kind : SourceKind → EntryValue → Bool
has_kind kind.Wheel entry = has_files entry.wheels
has_kind kind.Sdist entry = is_some entry.sdist
has_kind kind.Archive entry = is_some entry.archive
has_kind kind.Vcs entry = is_some entry.vcs
has_kind kind.Directory entry =
    option_map_or (λ directory. not directory.editable) entry.directory false
has_kind kind.Editable entry =
    option_map_or (λ directory. directory.editable) entry.directory false
