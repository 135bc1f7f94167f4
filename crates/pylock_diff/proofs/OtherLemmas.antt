-- What the other lock has of a name, and the sources of an entry that it hasn't.
use Rattle.std.proofs.Common.{◌≡◌, ◌∙◌, ◌||◌, ◌&&◌, ◌∷◌, Bool, true, false, cond, not, is_some, List, [], Option, Some, None, Result, Ok, Err, OnOk, refl, sym, ap}
use Rattle.std.specs.BTreeMap.{get}
use Rattle.std.specs.BTreeSet.{BTreeSet, contains}
use Rattle.std.specs.List.{filter, list_any}
use Rattle.std.specs.Option.{option_map_or}
use Rattle.pylock_compare.specs.Texts.{Texts, are_alike, texts_cmp}
use Rattle.pylock_core.specs.Session.Picks.{SourceValue}
use Rattle.pylock_diff.specs.Inner.Others.{AreOthers, has_at}
use Rattle.pylock_diff.specs.Item.{ItemValue}
use Rattle.pylock_diff.specs.Sources.{condition_key, has_condition, has_counterpart, has_source, has_version, identity, is_moved, lone_in}
use Rattle.pylock_diff.specs.Versions.{version_key}
use Rattle.pylock_diff.specs.declared.sources.Others.{Others}

pub on_ok : {X E P Q : Type 0} (result : Result X E) → (P → Q) → OnOk result P → OnOk result Q
on_ok (Ok x) f holds = f holds
on_ok (Err e) f holds = holds

-- where none has the first, none has both
any_both : {X : Type 0} (p q : X → Bool) (xs : List X) → list_any p xs ≡ false → list_any (λ x. p x && q x) xs ≡ false
any_both p q [] none = refl
any_both p q (x ∷ xs) none = by (p x) none (any_both p q xs)
  where
    by : (b : Bool) → (b || list_any p xs) ≡ false → (list_any p xs ≡ false → list_any (λ y. p y && q y) xs ≡ false)
        → ((b && q x) || list_any (λ y. p y && q y) xs) ≡ false
    by true none others = absurd cc
    by false none others = others none

all_stay : {X : Type 0} (p : X → Bool) → ((x : X) → p x ≡ false) → (xs : List X) → filter (λ x. not (p x)) xs ≡ xs
all_stay p none [] = refl
all_stay p none (x ∷ xs) =
    ap (λ b. cond (not b) (x ∷ filter (λ y. not (p y)) xs) (filter (λ y. not (p y)) xs)) (none x)
    ∙ ap (λ more. x ∷ more) (all_stay p none xs)

module _ (known : List ItemValue) (item : ItemValue) where
  lone : List SourceValue
  lone = filter (λ source. not (has_source known item source)) item.sources

  no_version : has_version known item ≡ false → lone_in known item ≡ []
  unfolding lone
  no_version none = ap (λ b. cond (b && not (is_moved known item)) lone []) none

  no_condition : has_version known item ≡ true → has_condition known item ≡ false
      → lone_in known item ≡ cond (has_counterpart known item) [] item.sources
  unfolding lone
  no_condition versioned none =
      (λ i. cond (versioned i && not (not (none i) && has_counterpart known item)) lone [])
      ∙ by (has_counterpart known item)
      (all_stay (has_source known item) (λ source. any_both (λ other. are_alike (condition_key item) (condition_key other))
      (λ other. list_any (λ s. are_alike (identity source) (identity s)) other.sources) known none) item.sources)
    where
      by : (b : Bool) → lone ≡ item.sources → cond (not b) lone [] ≡ cond b [] item.sources
      by true all = refl
      by false all = all

  by_set : has_version known item ≡ true → has_condition known item ≡ true → (set : BTreeSet Texts)
      → ((key : Texts) → contains texts_cmp set key ≡ list_any (λ other. has_at other (condition_key item) key) known)
      → filter (λ source. not (contains texts_cmp set (identity source))) item.sources ≡ lone_in known item
  unfolding lone
  by_set versioned conditioned set has =
      (λ i. filter (λ source. not (has (identity source) i)) item.sources)
      ∙ sym (λ i. cond (versioned i && not (not (conditioned i) && has_counterpart known item)) lone [])

-- by the sets of what the other lock has
module _ (others : Others) (known : List ItemValue) (are : AreOthers others known) (item : ItemValue) where
  pub with_set : contains texts_cmp others.versions (version_key item ∷ []) ≡ true → (set : BTreeSet Texts)
      → get texts_cmp others.sources (condition_key item) ≡ Some set
      → filter (λ source. not (contains texts_cmp set (identity source))) item.sources ≡ lone_in known item
  with_set versioned set found =
      by_set known item (sym (are.versions (version_key item ∷ [])) ∙ versioned)
      (sym (are.sources.conditions (condition_key item)) ∙ ap is_some found) set
      (λ key. sym (ap (λ (f : Option (BTreeSet Texts)). option_map_or (λ s. contains texts_cmp s key) f false) found) ∙ are.sources.sources (condition_key item) key)

  pub without_set : contains texts_cmp others.versions (version_key item ∷ []) ≡ true
      → get texts_cmp others.sources (condition_key item) ≡ None
      → lone_in known item ≡ cond (has_counterpart known item) [] item.sources
  without_set versioned none =
      no_condition known item (sym (are.versions (version_key item ∷ [])) ∙ versioned)
      (sym (are.sources.conditions (condition_key item)) ∙ ap is_some none)
