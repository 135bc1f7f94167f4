-- The reading of a lock, of an entry or of an environment is never out of memory.
use Rattle.std.proofs.Common.{◌≡◌, ◌∙◌, ℕ, suc, Bool, true, false, List, [], ◌∷◌, Option, Some, None, option_and_then, option_map, codes, nat_lt, ok_or, Result, Ok, Err, ap, sym, refl}
use Rattle.std.proofs.lemmas.Bool.{false≢true}
use Rattle.toml.specs.Data.{Data, Items, no_items, item, get_member, as_table}
use Rattle.toml.specs.Parse.{parse_document, parse_value}
use Rattle.serde_json.specs.Data as json
use Rattle.serde_json.specs.Find as find
use Rattle.serde_json.specs.Read.{read}
use Rattle.pytext.specs.Results.{◌>>=◌}
use Rattle.pytext.proofs.NeverLemmas.{Never, never_cond, never_err, never_ok, never_or, never_then}
use Rattle.pymark_core.specs.Environment.{EnvironmentValue, empty_environment}
use Rattle.pymark_core.specs.Variables.{variable_name, variables}
use Rattle.pymark_core.specs.declared.variable.Var.{Var}
use Rattle.pywheel_core.specs.Tag.{TagValue, tags_of}
use Rattle.pywheel_core.specs.declared.error.TagListError.{TagListError}
use Rattle.pywheel_core.specs.declared.error.TagListError.TheVariants as list
use Rattle.pywheel_core.proofs.NeverMemory.{tags_never_memory}
use Rattle.pylock_readers.specs.Entry.Fields.{items_in, marker_field, name_of, optional_field, list_in, optional_text_in, or_refused, require, set_field, text_in}
use Rattle.pylock_readers.specs.Entry.Reading.{entry_in, entry_of, sources_in, table_in, toml_value}
use Rattle.pylock_readers.specs.Entry.Sources.{archive_of, directory_of, file_of, vcs_of}
use Rattle.pylock_readers.specs.Environment.{env_in, env_of, from_tags, tag_list_of, member_text_in, members_in, tag_items, texts_in, value_of, with_member, with_members, with_text}
use Rattle.pylock_readers.specs.Lock.Head.{head_in, is_lock_version, names_in}
use Rattle.pylock_readers.specs.Lock.Reading.{at_position, item_count, document_of, entries_in, entries_of, lock_in, lock_of, most_entries, capacity_for}
use Rattle.pylock_readers.specs.Text.{utf8_text}
use Rattle.pylock_readers.specs.declared.error.EntryError.{EntryError}
use Rattle.pylock_readers.specs.declared.error.EntryError.TheVariants as entry
use Rattle.pylock_readers.specs.declared.error.EntryKey.TheVariants as key
use Rattle.pylock_readers.specs.declared.error.EnvError.TheVariants as environment
use Rattle.pylock_readers.specs.declared.error.HeadKey.TheVariants as head
use Rattle.pylock_readers.specs.declared.error.LockError.{LockError}
use Rattle.pylock_readers.specs.declared.error.LockError.TheVariants as lock
use Rattle.pylock_readers.specs.declared.field.FieldError.{FieldError}
use Rattle.pylock_readers.specs.declared.field.FieldError.TheVariants as fault

-- a key, and what comes after it
after_key : {A B E : Type 0} (refusal wrong : E) (field : Result A FieldError) (rest : A → Result B E) → (wrong ≡ refusal → ⊥) → ((x : A) → Never refusal (rest x))
    → Never refusal (or_refused wrong field >>= rest)
after_key refusal wrong (Ok x) rest differ then e = then x e
after_key refusal wrong (Err f) rest differ then e = never_err refusal wrong differ e

-- ---- an entry

sources_never_memory : (vcs directory archive sdist wheels : Option Data) → Never entry.Memory (sources_in vcs directory archive sdist wheels)
unfolding sources_in
sources_never_memory vcs directory archive sdist wheels =
    after_key entry.Memory (entry.Key key.Vcs) (optional_field vcs_of vcs) _ (λ e. cc e)
    (λ v. after_key entry.Memory (entry.Key key.Directory) (optional_field directory_of directory) _ (λ e. cc e)
    (λ d. after_key entry.Memory (entry.Key key.Archive) (optional_field archive_of archive) _ (λ e. cc e)
    (λ a. after_key entry.Memory (entry.Key key.Sdist) (optional_field file_of sdist) _ (λ e. cc e)
    (λ s. after_key entry.Memory (entry.Key key.Wheels) (list_in file_of wheels) _ (λ e. cc e) (λ w e. cc e)))))

entry_never_memory : (d : Data) → Never entry.Memory (entry_in d)
unfolding entry_in
entry_never_memory d =
    never_then entry.Memory (table_in d) _ (never_or entry.Memory entry.NotTable (as_table d) (λ e. cc e))
    (λ ms. after_key entry.Memory entry.Name (ok_or (get_member (codes "name") ms) fault.Wrong >>= name_of) _ (λ e. cc e)
    (λ name. after_key entry.Memory (entry.Key key.Version) (optional_text_in (get_member (codes "version") ms)) _ (λ e. cc e)
    (λ version. never_then entry.Memory _ _ (sources_never_memory _ _ _ _ _)
    (λ sources. after_key entry.Memory entry.Marker (optional_field marker_field (get_member (codes "marker") ms)) _ (λ e. cc e)
    (λ marker. after_key entry.Memory entry.RequiresPython (optional_field set_field (get_member (codes "requires-python") ms)) _ (λ e. cc e) (λ set e. cc e))))))

pub entry_text_never_memory : (text : List ℕ) → Never entry.Memory (entry_of text)
unfolding entry_of
entry_text_never_memory text =
    never_then entry.Memory (toml_value text) entry_in (never_or entry.Memory entry.Toml (parse_value text) (λ e. cc e)) entry_never_memory

-- ---- a lock

-- out of memory, of the whole or in an entry
abbrev is_want : LockError → Bool
is_want lock.Memory = true
is_want (lock.Entry place entry.Memory) = true
is_want _ = false

differs : (wrong refusal : LockError) → is_want refusal ≡ true → is_want wrong ≡ false → wrong ≡ refusal → ⊥
differs wrong refusal want other same = false≢true (sym other ∙ ap is_want same ∙ want)

memory_at : (place : ℕ) (e : EntryError) → is_want (lock.Entry place e) ≡ true → e ≡ entry.Memory
memory_at place entry.Memory want = refl
memory_at place _ want = absurd (false≢true want)

placed_never_memory : {V : Type 0} (refusal : LockError) (place : ℕ) (read : Result V EntryError) → is_want refusal ≡ true → Never entry.Memory read
    → Never refusal (at_position place read)
placed_never_memory refusal place (Ok x) want never = never_ok refusal x
placed_never_memory refusal place (Err e) want never =
    never_err refusal (lock.Entry place e) (λ same. never (ap Err (memory_at place e (ap is_want same ∙ want))))

entries_never_memory : (refusal : LockError) (place : ℕ) (ds : Items) → is_want refusal ≡ true → Never refusal (entries_of place ds)
entries_never_memory refusal place no_items want = never_ok refusal []
entries_never_memory refusal place (item d ds) want =
    never_then refusal (at_position place (entry_in d)) _ (placed_never_memory refusal place (entry_in d) want (entry_never_memory d))
    (λ e. never_then refusal (entries_of (suc place) ds) _ (entries_never_memory refusal (suc place) ds want) (λ es same. cc same))

packages_never_memory : (refusal : LockError) (field : Option Data) → is_want refusal ≡ true → Never refusal (entries_in field)
unfolding entries_in
packages_never_memory refusal field want =
    after_key refusal lock.Packages (items_in field) _ (differs lock.Packages refusal want refl)
    (λ items. never_then refusal (capacity_for items) _
    (never_cond refusal (nat_lt most_entries (item_count items)) (Err lock.TooMany) (Ok tt) (never_err refusal lock.TooMany (differs lock.TooMany refusal want refl)) (never_ok refusal tt))
    (λ _. entries_never_memory refusal 1 items want))

head_never_memory : (refusal : LockError) (environments requires_python extras groups default_groups : Option Data) → is_want refusal ≡ true
    → Never refusal (head_in environments requires_python extras groups default_groups)
unfolding head_in
head_never_memory refusal environments requires_python extras groups default_groups want =
    after_key refusal (lock.Head head.Environments) (list_in marker_field environments) _ (differs _ refusal want refl)
    (λ e. after_key refusal (lock.Head head.RequiresPython) (optional_field set_field requires_python) _ (differs _ refusal want refl)
    (λ r. after_key refusal (lock.Head head.Extras) (names_in extras) _ (differs _ refusal want refl)
    (λ x. after_key refusal (lock.Head head.DependencyGroups) (names_in groups) _ (differs _ refusal want refl)
    (λ g. after_key refusal (lock.Head head.DefaultGroups) (names_in default_groups) _ (differs _ refusal want refl) (λ d. never_ok refusal _)))))

pub lock_never_memory : (refusal : LockError) → is_want refusal ≡ true → (bytes : List ℕ) → Never refusal (lock_of bytes)
unfolding lock_of lock_in
lock_never_memory refusal want bytes =
    never_then refusal _ lock_in
    (never_then refusal (ok_or (utf8_text bytes) lock.NotText) document_of (never_or refusal lock.NotText (utf8_text bytes) (differs _ refusal want refl))
    (λ text. never_or refusal lock.Toml (parse_document text) (differs _ refusal want refl)))
    (λ ms. after_key refusal lock.LockVersion (text_in (get_member (codes "lock-version") ms) >>= (λ text. require (is_lock_version text))) _ (differs _ refusal want refl)
    (λ _. after_key refusal lock.CreatedBy (text_in (get_member (codes "created-by") ms) >>= (λ text. Ok tt)) _ (differs _ refusal want refl)
    (λ _. never_then refusal _ _ (head_never_memory refusal _ _ _ _ _ want)
    (λ head. never_then refusal _ _ (packages_never_memory refusal _ want) (λ entries. never_ok refusal _)))))

-- ---- an environment

text_never_memory : (field : Option json.Data) → Never environment.Memory (member_text_in field)
text_never_memory None e = cc e
text_never_memory (Some d) e = never_or environment.Memory environment.Shape (option_map Some (find.as_str d)) (λ e. cc e) e

variables_never_memory : (vs : List Var) (ms : json.Members) (value : EnvironmentValue) → Never environment.Memory (with_members vs ms value)
unfolding with_members
variables_never_memory [] ms value = never_ok environment.Memory value
variables_never_memory (v ∷ vs) ms value =
    never_then environment.Memory (with_member v ms value) (with_members vs ms)
    (never_then environment.Memory (member_text_in (find.get_member (variable_name v) ms)) (λ text. Ok (with_text v text value)) (text_never_memory _) (λ text e. cc e))
    (variables_never_memory vs ms)

texts_never_memory : (ds : json.Items) → Never environment.Memory (texts_in ds)
texts_never_memory json.no_items e = cc e
texts_never_memory (json.item d ds) e =
    never_then environment.Memory (ok_or (find.as_str d) environment.Shape) _ (never_or environment.Memory environment.Shape (find.as_str d) (λ e. cc e))
    (λ text. never_then environment.Memory (texts_in ds) (λ texts. Ok (text ∷ texts)) (texts_never_memory ds) (λ texts e. cc e)) e

listed_never_memory : (tags : Result (List TagValue) TagListError) → Never list.Memory tags → Never environment.Memory (from_tags tags)
listed_never_memory (Ok tags) never e = cc e
listed_never_memory (Err (list.Tag place)) never e = cc e
listed_never_memory (Err list.Memory) never e = never refl

env_value_never_memory : (d : json.Data) → Never environment.Memory (env_in d)
unfolding env_in
env_value_never_memory d =
    never_then environment.Memory (members_in d) _ (never_or environment.Memory environment.Shape (option_and_then find.as_object (find.get (codes "environment") d)) (λ e. cc e))
    (λ ms. never_then environment.Memory (with_members variables ms empty_environment) _ (variables_never_memory variables ms empty_environment)
    (λ value. never_then environment.Memory (tag_items d) _ (never_or environment.Memory environment.Shape (option_and_then find.as_array (find.get (codes "tags") d)) (λ e. cc e))
    (λ items. never_then environment.Memory (texts_in items) _ (texts_never_memory items)
    (λ texts. never_then environment.Memory (tag_list_of texts) _ (listed_never_memory (tags_of texts) (tags_never_memory texts)) (λ tags e. cc e)))))

pub env_never_memory : (bytes : List ℕ) → Never environment.Memory (env_of bytes)
unfolding env_of
env_never_memory bytes =
    never_then environment.Memory (ok_or (utf8_text bytes) environment.Json) _ (never_or environment.Memory environment.Json (utf8_text bytes) (λ e. cc e))
    (λ text. never_then environment.Memory (value_of text) env_in (never_or environment.Memory environment.Json (read text) (λ e. cc e)) env_value_never_memory)
