-- The head of a lock (PEP 751), key by key.
use Rattle.std.specs.Prelude.{ℕ, Bool, true, false, ◌++◌, not, List, [], ◌∷◌, codes, filter, map}
use Rattle.std.specs.Prelude.{Option, Some, None, option_map, if◌then◌else◌}
use Rattle.std.specs.List.{flat_map, list_any}
use Rattle.std.specs.Str.{bytes_eq}
use Rattle.toml.specs.Data.{Data, Items, array, item, no_items, string}
use Rattle.pylock_compare.specs.Rows.{Row, in_order, names_of, values_at}
use Rattle.pytoml_code.specs.Code.{code}
use Rattle.pytoml_code.specs.Shown.{shown}
use Rattle.pylock_shown.specs.Hidden.{hidden}
use Rattle.pylock_diff.specs.Change.{ChangeValue, change_of, told_where}
use Rattle.pylock_diff.specs.declared.change.ChangeKind.TheVariants.{Head}

-- a key of the head: the code of its value, and how it is shown
pub record HeadKey : Type 0 where
  pub key : List ℕ
  pub code : List ℕ
  pub text : List ℕ

-- the keys of which the texts are shown, in the order in which they are told
abbrev pub list_keys : List (List ℕ)
list_keys =
    codes "requires-python" ∷ codes "environments" ∷ codes "extras" ∷ codes "dependency-groups"
    ∷ codes "default-groups" ∷ []

abbrev pub is_list_key : List ℕ → Bool
is_list_key key = list_any (bytes_eq key) list_keys

-- a text as it is shown, and nothing of another value, which no lock has there
abbrev pub item_text : Data → List ℕ
item_text (string text) = hidden text
item_text d = []

-- texts, each behind a comma
abbrev pub more_texts : Items → List ℕ
more_texts no_items = []
more_texts (item d ds) = codes "," ++ item_text d ++ more_texts ds

-- texts joined by `,`, and `[]` where there is none
abbrev pub list_text : Data → List ℕ
list_text (array no_items) = codes "[]"
list_text (array (item d ds)) = item_text d ++ more_texts ds
list_text d = item_text d

abbrev pub head_key : List ℕ → Data → HeadKey
head_key key d = record {
  key = key;
  code = code d;
  text = if is_list_key key then list_text d else shown (code d);
}

-- ---- two heads

abbrev pub head_rows : List HeadKey → List (Row HeadKey)
head_rows keys = map (λ one. (one.key, one)) keys

-- the first of them
abbrev pub first : List HeadKey → Option HeadKey
first [] = None
first (one ∷ more) = Some one

-- both have the same value, or neither has one
abbrev pub have_same_value : (old new : Option HeadKey) → Bool
have_same_value None None = true
have_same_value (Some old) (Some new) = bytes_eq old.code new.code
have_same_value old new = false

-- a key whose value isn't the same
abbrev pub key_change : List ℕ → (old new : Option HeadKey) → List ChangeValue
key_change key old new =
    told_where (not (have_same_value old new))
    (change_of Head (hidden key) (option_map (λ one. one.text) old)
    (option_map (λ one. one.text) new))

-- the same of what stands under a key
abbrev pub head_told : List ℕ → (olds news : List HeadKey) → List ChangeValue
head_told key olds news = key_change key (first olds) (first news)

abbrev pub keys_changes : (olds news : List (Row HeadKey)) → List (List ℕ) → List ChangeValue
keys_changes olds news keys =
    flat_map (λ key. head_told key (values_at key olds) (values_at key news)) keys

-- the keys of which the texts are shown, and then the others in order of code point
abbrev pub head_changes : (old new : List HeadKey) → List ChangeValue
head_changes old new =
    keys_changes (head_rows old) (head_rows new) list_keys
    ++ keys_changes (head_rows old) (head_rows new)
    (filter (λ key. not (is_list_key key))
    (in_order (names_of (head_rows old) ++ names_of (head_rows new))))
