-- Sets by which sources are looked for.
use Rattle.std.specs.Prelude.{◌≡◌, ◌&&◌, ◌∷◌, Bool, false, true, if◌then◌else◌, is_some, List, []}
use Rattle.std.specs.BTreeMap.{BTreeMap, get}
use Rattle.std.specs.BTreeSet.{BTreeSet, contains}
use Rattle.std.specs.List.{list_any}
use Rattle.std.specs.Option.{option_map_or}
use Rattle.pylock_compare.specs.Texts.{Texts, are_alike, texts_cmp}
use Rattle.pylock_diff.specs.Item.{ItemValue}
use Rattle.pylock_diff.specs.Sources.{condition_key, identity, whole_key}
use Rattle.pylock_diff.specs.Versions.{version_key}
use Rattle.pylock_diff.specs.declared.sources.Others.{Others}

-- the version of an item; with sources, what they are too
abbrev pub key_by : (with_sources : Bool) → ItemValue → Texts
key_by with_sources item =
    if with_sources then whole_key item else version_key item ∷ []

-- the set has these keys of the items
abbrev pub HasKeys : (ItemValue → Texts) → BTreeSet Texts → List ItemValue → Type 0
HasKeys key_of set items =
    (key : Texts)
    → contains texts_cmp set key ≡ list_any (λ item. are_alike key (key_of item)) items

-- what stands under a version, a marker and a set of Pythons
abbrev pub holds_at : BTreeMap Texts (BTreeSet Texts) → Texts → Texts → Bool
holds_at table condition key =
    option_map_or (λ set. contains texts_cmp set key) (get texts_cmp table condition) false

-- what the sources of an item are, under its version, marker and set of Pythons
abbrev pub has_at : ItemValue → (condition key : Texts) → Bool
has_at item condition key =
    are_alike condition (condition_key item)
    && list_any (λ source. are_alike key (identity source)) item.sources

-- the table has what the sources of these items are; an item without one has its place there too
pub record HasSources (table : BTreeMap Texts (BTreeSet Texts)) (items : List ItemValue)
    : Type 0 where
  pub conditions : (condition : Texts) → is_some (get texts_cmp table condition)
      ≡ list_any (λ item. are_alike condition (condition_key item)) items
  pub sources : (condition key : Texts) → holds_at table condition key
      ≡ list_any (λ item. has_at item condition key) items

-- what the other lock has of a name
pub record AreOthers (others : Others) (items : List ItemValue) : Type 0 where
  pub versions : HasKeys (key_by false) others.versions items
  pub wholes : HasKeys (key_by true) others.wholes items
  pub sources : HasSources others.sources items
