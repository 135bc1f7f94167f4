-- The reading of the settings is never out of memory.
use Rattle.std.proofs.Common.{ℕ, ◌++◌, List, [], ◌∷◌, Option, Some, None, false, ok_or, Result, Err}
use Rattle.toml.specs.Data.{Data, Items, no_items, item, Members, no_members, member, as_array, as_bool, as_str, as_table}
use Rattle.toml.specs.Parse.{parse_document}
use Rattle.pytext.proofs.NeverLemmas.{Never, never_cond, never_err, never_ok, never_or, never_then}
use Rattle.pylock_settings.specs.Key.{is_setting}
use Rattle.pylock_settings.specs.Reading.{audit_table, flag_at, flag_of, known_keys, settings_in, settings_of, table_at, table_of, text_at, text_of, texts_at, texts_of, utf8_text, value_at, with_texts}
use Rattle.pylock_settings.specs.declared.error.SettingsError.{SettingsError}
use Rattle.pylock_settings.specs.declared.error.SettingsError.TheVariants as error
use Rattle.pylock_settings.specs.declared.key.SettingsKey.{SettingsKey}
use Rattle.pylock_settings.specs.declared.key.SettingsKey.TheVariants as key

-- a reading gives no such answer
abbrev Fine : {A : Type 0} → Result A SettingsError → Type 0
Fine r = Never error.Memory r

type_fine : {A : Type 0} (k : SettingsKey) (o : Option A) → Fine (ok_or o (error.WrongType k))
type_fine k o = never_or error.Memory (error.WrongType k) o (λ e. cc e)

table_fine : (k : SettingsKey) (o : Option Data) → Fine (table_of k o)
table_fine k None = never_ok error.Memory no_members
table_fine k (Some d) = type_fine k (as_table d)

audit_fine : (document : Members) → Fine (audit_table document)
unfolding audit_table
audit_fine document =
    never_then error.Memory (table_at key.Tool document) _ (table_fine key.Tool (value_at key.Tool document))
    (λ tool. never_then error.Memory (table_at key.Pylock tool) (table_at key.Audit) (table_fine key.Pylock (value_at key.Pylock tool))
    (λ pylock. table_fine key.Audit (value_at key.Audit pylock)))

known_fine : (ms : Members) → Fine (known_keys ms)
known_fine no_members = never_ok error.Memory tt
known_fine (member name d rest) =
    never_cond error.Memory (is_setting name) (known_keys rest) (Err (error.UnknownKey name)) (known_fine rest)
    (never_err error.Memory (error.UnknownKey name) (λ e. cc e))

flag_fine : (k : SettingsKey) (o : Option Data) → Fine (flag_of k o)
flag_fine k None = never_ok error.Memory false
flag_fine k (Some d) = type_fine k (as_bool d)

text_fine : (k : SettingsKey) (o : Option Data) → Fine (text_of k o)
text_fine k None = never_ok error.Memory None
text_fine k (Some d) = never_then error.Memory (ok_or (as_str d) (error.WrongType k)) _ (type_fine k (as_str d)) (λ text. never_ok error.Memory (Some text))

with_fine : (k : SettingsKey) (texts : List (List ℕ)) (ds : Items) → Fine (with_texts k texts ds)
with_fine k texts no_items = never_ok error.Memory texts
with_fine k texts (item d ds) =
    never_then error.Memory (ok_or (as_str d) (error.WrongType k)) (λ text. with_texts k (texts ++ text ∷ []) ds) (type_fine k (as_str d))
    (λ text. with_fine k (texts ++ text ∷ []) ds)

texts_fine : (k : SettingsKey) (o : Option Data) → Fine (texts_of k o)
texts_fine k None = never_ok error.Memory []
texts_fine k (Some d) =
    never_then error.Memory (ok_or (as_array d) (error.WrongType k)) (with_texts k []) (type_fine k (as_array d)) (with_fine k [])

settings_fine : (table : Members) → Fine (settings_in table)
unfolding settings_in
settings_fine table =
    never_then error.Memory (known_keys table) _ (known_fine table)
    (λ known. never_then error.Memory (flag_at key.Environments table) _ (flag_fine key.Environments (value_at key.Environments table))
    (λ environments. never_then error.Memory (text_at key.FailOn table) _ (text_fine key.FailOn (value_at key.FailOn table))
    (λ fail_on. never_then error.Memory (texts_at key.Ignore table) _ (texts_fine key.Ignore (value_at key.Ignore table))
    (λ ignored. never_then error.Memory (texts_at key.Host table) _ (texts_fine key.Host (value_at key.Host table)) (λ hosts. never_ok error.Memory _)))))

pub never_memory : (bytes : List ℕ) → Never error.Memory (settings_of bytes)
unfolding settings_of
never_memory bytes =
    never_then error.Memory (ok_or (utf8_text bytes) error.NotUtf8) _ (never_or error.Memory error.NotUtf8 (utf8_text bytes) (λ e. cc e))
    (λ text. never_then error.Memory (ok_or (parse_document text) error.Toml) _ (never_or error.Memory error.Toml (parse_document text) (λ e. cc e))
    (λ document. never_then error.Memory (audit_table document) settings_in (audit_fine document) settings_fine))
