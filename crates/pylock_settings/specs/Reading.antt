-- The reading of the settings from the bytes of a project file (`pyproject.toml`): the table
-- `tool.pylock.audit`. Each step gives a value or a refusal; the first refusal, in the order of the
-- steps, is the file's.
use Rattle.std.specs.Prelude.{ℕ, ◌++◌, Bool, false, List, [], ◌∷◌, Option, Some, None, ok_or}
use Rattle.std.specs.Prelude.{Result, Ok, Err, if◌then◌else◌, ⊤}
use Rattle.std.specs.Str.{is_utf8}
use Rattle.toml.specs.Data.{Data, Items, no_items, item, Members, no_members, member}
use Rattle.toml.specs.Data.{as_array, as_bool, as_str, as_table, get_member}
use Rattle.toml.specs.Parse.{parse_document}
use Rattle.pytext.specs.Results.{◌>>=◌}
use Rattle.pylock_settings.specs.Key.{is_setting, key_name}
use Rattle.pylock_settings.specs.Settings.{SettingsValue}
use Rattle.pylock_settings.specs.declared.error.SettingsError.{SettingsError}
use Rattle.pylock_settings.specs.declared.error.SettingsError.TheVariants as error
use Rattle.pylock_settings.specs.declared.key.SettingsKey.{SettingsKey}
use Rattle.pylock_settings.specs.declared.key.SettingsKey.TheVariants as key

-- the bytes as text, where they are UTF-8
abbrev pub utf8_text : List ℕ → Option (List ℕ)
utf8_text bytes = if is_utf8 bytes then Some bytes else None

-- the value of a key of a table, where it is there
abbrev pub value_at : SettingsKey → Members → Option Data
value_at key table = get_member (key_name key) table

-- ---- the table

-- the table that a value is
abbrev pub table_of : SettingsKey → Option Data → Result Members SettingsError
table_of key None = Ok no_members
table_of key (Some d) = ok_or (as_table d) (error.WrongType key)

-- the table of a key of a table; a key that isn't there is as one with an empty table
abbrev pub table_at : SettingsKey → Members → Result Members SettingsError
table_at key table = table_of key (value_at key table)

-- the table of the settings in a document
unfoldable pub audit_table : Members → Result Members SettingsError
audit_table document = do
  tool ← table_at key.Tool document
  pylock ← table_at key.Pylock tool
  table_at key.Audit pylock

-- ---- its keys

-- each key is that of a setting; of those that aren't the first is refused, in the order of the
-- table, whose keys ascend
abbrev pub known_keys : Members → Result ⊤ SettingsError
known_keys no_members = Ok tt
known_keys (member name d rest) =
    if is_setting name then known_keys rest else Err (error.UnknownKey name)

-- a boolean, false where it isn't there
abbrev pub flag_of : SettingsKey → Option Data → Result Bool SettingsError
flag_of key None = Ok false
flag_of key (Some d) = ok_or (as_bool d) (error.WrongType key)

abbrev pub flag_at : SettingsKey → Members → Result Bool SettingsError
flag_at key table = flag_of key (value_at key table)

-- a text, which may be absent
abbrev pub text_of : SettingsKey → Option Data → Result (Option (List ℕ)) SettingsError
text_of key None = Ok None
text_of key (Some d) = ok_or (as_str d) (error.WrongType key) >>= λ text. Ok (Some text)

abbrev pub text_at : SettingsKey → Members → Result (Option (List ℕ)) SettingsError
text_at key table = text_of key (value_at key table)

-- the texts, and one for each of these elements
abbrev pub with_texts : SettingsKey → List (List ℕ) → Items
    → Result (List (List ℕ)) SettingsError
with_texts key texts no_items = Ok texts
with_texts key texts (item d ds) =
    ok_or (as_str d) (error.WrongType key) >>= (λ text. with_texts key (texts ++ text ∷ []) ds)

-- a list of texts, none where it isn't there
abbrev pub texts_of : SettingsKey → Option Data → Result (List (List ℕ)) SettingsError
texts_of key None = Ok []
texts_of key (Some d) = ok_or (as_array d) (error.WrongType key) >>= with_texts key []

abbrev pub texts_at : SettingsKey → Members → Result (List (List ℕ)) SettingsError
texts_at key table = texts_of key (value_at key table)

-- the settings that a table writes
unfoldable pub settings_in : Members → Result SettingsValue SettingsError
settings_in table = do
  _ ← known_keys table
  environments ← flag_at key.Environments table
  fail_on ← text_at key.FailOn table
  ignored ← texts_at key.Ignore table
  hosts ← texts_at key.Host table
  Ok (record {
    environments = environments;
    fail_on = fail_on;
    ignored = ignored;
    hosts = hosts;
  })

-- ---- the file

-- the settings that the bytes of a project file write
unfoldable pub settings_of : List ℕ → Result SettingsValue SettingsError
settings_of bytes = do
  text ← ok_or (utf8_text bytes) error.NotUtf8
  document ← ok_or (parse_document text) error.Toml
  table ← audit_table document
  settings_in table
