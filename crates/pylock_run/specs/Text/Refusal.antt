-- The refusal of a line, of a lock and of an environment, as it is printed. Each line ends in LF.
use Rattle.std.specs.Prelude.{ℕ, ◌++◌, List, [], ◌∷◌, codes, decimal, option_map, option_to_list}
use Rattle.std.specs.Option.{option_copied}
use Rattle.pylock_readers.specs.declared.error.EntryError.{EntryError}
use Rattle.pylock_readers.specs.declared.error.EntryError.TheVariants as entry_error
use Rattle.pylock_readers.specs.declared.error.EntryKey.{EntryKey}
use Rattle.pylock_readers.specs.declared.error.EntryKey.TheVariants as entry_key
use Rattle.pylock_readers.specs.declared.error.EnvError.{EnvError}
use Rattle.pylock_readers.specs.declared.error.EnvError.TheVariants as env_error
use Rattle.pylock_readers.specs.declared.error.HeadKey.{HeadKey}
use Rattle.pylock_readers.specs.declared.error.HeadKey.TheVariants as head_key
use Rattle.pylock_readers.specs.declared.error.LockError.{LockError}
use Rattle.pylock_readers.specs.declared.error.LockError.TheVariants as lock_error
use Rattle.pylock_run.specs.declared.line.refusal.LineRefusal.{LineRefusal}
use Rattle.pylock_run.specs.declared.line.refusal.LineRefusal.TheVariants as refusal
use Rattle.pylock_run.specs.declared.report.opening.OpenError.{OpenError}
use Rattle.pylock_run.specs.declared.report.opening.OpenError.TheVariants as open_error
use Rattle.pylock_run.specs.declared.text.refusal.RefusalWords.{RefusalWords}
use Rattle.pylock_run.specs.Text.Field.{line_of}

-- the word of a line's refusal; out of memory is none, and is never printed
abbrev pub line_word : LineRefusal → List ℕ
line_word refusal.Long = codes "long"
line_word refusal.Text = codes "text"
line_word refusal.Command = codes "command"
line_word refusal.Argument = codes "argument"
line_word refusal.Variable = codes "variable"
line_word refusal.Extra = codes "extra"
line_word refusal.Group = codes "group"
line_word refusal.Tag = codes "tag"
line_word refusal.Toml = codes "toml"
line_word refusal.Entry = codes "entry"
line_word refusal.TooMany = codes "too-many"
line_word refusal.NoEntry = codes "no-entry"
line_word refusal.Name = codes "name"
line_word refusal.Memory = codes "memory"

-- the refusal of the line of this number, counted from 1
abbrev pub line_refusal_text : ℕ → LineRefusal → List ℕ
line_refusal_text number refused =
    line_of (codes "refused " ++ decimal number) (line_word refused ∷ [])

abbrev pub head_word : HeadKey → List ℕ
head_word head_key.Environments = codes "environments"
head_word head_key.RequiresPython = codes "requires-python"
head_word head_key.Extras = codes "extras"
head_word head_key.DependencyGroups = codes "dependency-groups"
head_word head_key.DefaultGroups = codes "default-groups"

abbrev pub key_word : EntryKey → List ℕ
key_word entry_key.Version = codes "version"
key_word entry_key.Vcs = codes "vcs"
key_word entry_key.Directory = codes "directory"
key_word entry_key.Archive = codes "archive"
key_word entry_key.Sdist = codes "sdist"
key_word entry_key.Wheels = codes "wheels"

abbrev pub entry_word : EntryError → List ℕ
entry_word entry_error.Toml = codes "toml"
entry_word entry_error.NotTable = codes "not-table"
entry_word entry_error.Name = codes "name"
entry_word (entry_error.Key key) = key_word key
entry_word entry_error.Marker = codes "marker"
entry_word entry_error.RequiresPython = codes "requires-python"
entry_word entry_error.Memory = codes "memory"

-- the words of a refusal, as they are printed
abbrev pub refusal_words : RefusalWords → List (List ℕ)
refusal_words words =
    words.word.now ∷ option_to_list (option_map decimal words.number)
    ++ option_to_list (option_copied words.detail)

-- the words of a lock's refusal; out of memory is no refusal of a lock, and is never printed
abbrev pub lock_words : LockError → List (List ℕ)
lock_words lock_error.NotText = codes "not-text" ∷ []
lock_words lock_error.Toml = codes "toml" ∷ []
lock_words lock_error.LockVersion = codes "lock-version" ∷ []
lock_words lock_error.CreatedBy = codes "created-by" ∷ []
lock_words (lock_error.Head key) = codes "head" ∷ head_word key ∷ []
lock_words lock_error.Packages = codes "packages" ∷ []
lock_words lock_error.TooMany = codes "too-many" ∷ []
lock_words (lock_error.Entry position error) =
    codes "entry" ∷ decimal position ∷ entry_word error ∷ []
lock_words lock_error.Memory = codes "memory" ∷ []

abbrev pub lock_text : LockError → List ℕ
lock_text error = line_of (codes "lock") (lock_words error)

-- the same of one of two locks: which it is stands before the words
abbrev pub side_text : List ℕ → LockError → List ℕ
side_text side error = line_of (codes "lock") (side ∷ lock_words error)

abbrev pub environment_words : EnvError → List (List ℕ)
environment_words env_error.Json = codes "json" ∷ []
environment_words env_error.Shape = codes "shape" ∷ []
environment_words (env_error.Tag position) = codes "tag" ∷ decimal position ∷ []
environment_words env_error.Python = codes "python" ∷ []
environment_words env_error.Platform = codes "platform" ∷ []
environment_words env_error.Memory = codes "memory" ∷ []

abbrev pub environment_text : EnvError → List ℕ
environment_text error = line_of (codes "environment") (environment_words error)

-- what is printed in place of a report; out of memory is no refusal, and is never printed
abbrev pub refusal_text : OpenError → List ℕ
refusal_text (open_error.Lock error) = lock_text error
refusal_text (open_error.Environment error) = environment_text error
refusal_text open_error.Memory = []
