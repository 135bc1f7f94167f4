-- The head of a lock (PEP 751): its keys in order; the first that isn't of its form is the refusal.
use Rattle.std.specs.Prelude.{ℕ, Bool, not, ◌&&◌, codes, nat_eq, List, [], ◌∷◌, drop, filter}
use Rattle.std.specs.Prelude.{Option, Result, Ok, ⊤}
use Rattle.std.specs.List.{starts_with}
use Rattle.std.specs.Str.{bytes_eq}
use Rattle.toml.specs.Data.{Data}
use Rattle.pytext.specs.Digits.{is_number}
use Rattle.pytext.specs.Results.{◌>>=◌}
use Rattle.pyver_core.specs.declared.set.specifier.Specifier.{Specifier}
use Rattle.pymark_core.specs.Marker.Reading.{MarkerValue}
use Rattle.pylock_readers.specs.Lock.{HeadValue}
use Rattle.pylock_readers.specs.Entry.Fields.{list_in, marker_field, name_of, optional_field}
use Rattle.pylock_readers.specs.Entry.Fields.{or_refused, require, set_field, text_in}
use Rattle.pylock_readers.specs.declared.field.FieldError.{FieldError}
use Rattle.pylock_readers.specs.declared.error.LockError.{LockError}
use Rattle.pylock_readers.specs.declared.error.LockError.TheVariants as error
use Rattle.pylock_readers.specs.declared.error.HeadKey.{HeadKey}
use Rattle.pylock_readers.specs.declared.error.HeadKey.TheVariants.{Environments, RequiresPython}
use Rattle.pylock_readers.specs.declared.error.HeadKey.TheVariants.{Extras, DependencyGroups}
use Rattle.pylock_readers.specs.declared.error.HeadKey.TheVariants.{DefaultGroups}

-- ---- the version of the lock and its maker

-- `1.` and a minor number (PEP 751, `lock-version`)
abbrev pub is_lock_version : List ℕ → Bool
is_lock_version text = starts_with nat_eq text (codes "1.") && is_number (drop 2 text)

abbrev pub lock_version_in : Option Data → Result ⊤ LockError
lock_version_in field =
    or_refused error.LockVersion (text_in field >>= (λ text. require (is_lock_version text)))

abbrev pub created_by_in : Option Data → Result ⊤ LockError
created_by_in field = or_refused error.CreatedBy (text_in field >>= (λ text. Ok tt))

-- ---- the optional keys

-- the texts in the order in which each comes first
abbrev pub distinct_texts : List (List ℕ) → List (List ℕ)
distinct_texts [] = []
distinct_texts (text ∷ texts) =
    text ∷ filter (λ other. not (bytes_eq other text)) (distinct_texts texts)

abbrev pub head_requires_python_in : Option Data → Result (Option (List Specifier)) LockError
head_requires_python_in field =
    or_refused (error.Head RequiresPython) (optional_field set_field field)

abbrev pub environments_in : Option Data → Result (List MarkerValue) LockError
environments_in field = or_refused (error.Head Environments) (list_in marker_field field)

-- a list of names, normalised, without repeats
abbrev pub names_in : Option Data → Result (List (List ℕ)) FieldError
names_in field = list_in name_of field >>= (λ names. Ok (distinct_texts names))

abbrev pub head_names_in : HeadKey → Option Data → Result (List (List ℕ)) LockError
head_names_in key field = or_refused (error.Head key) (names_in field)

unfoldable pub head_in : (environments requires_python extras groups default_groups : Option Data)
    → Result HeadValue LockError
head_in environments requires_python extras groups default_groups = do
  environments ← environments_in environments
  requires_python ← head_requires_python_in requires_python
  extras ← head_names_in Extras extras
  groups ← head_names_in DependencyGroups groups
  default_groups ← head_names_in DefaultGroups default_groups
  Ok (record {
    environments = environments;
    requires_python = requires_python;
    extras = extras;
    groups = groups;
    default_groups = default_groups;
  })
