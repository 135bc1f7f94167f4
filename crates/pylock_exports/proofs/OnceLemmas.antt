-- What a list keeps of its sources.
use Rattle.std.proofs.Common.{◌≡◌, ◌∙◌, ◌⊎◌, inl, inr, ℕ, Bool, true, false, ◌||◌, cond, List, [], ◌∷◌, ◌++◌, Option, Some, None, Result, Ok, Err, option_map, refl, sym, ap, subst}
use Rattle.std.proofs.lemmas.List.{map-append}
use Rattle.std.proofs.lemmas.List.Elements.{All-contains_itself, All-from_recursion, recursion_from_All}
use Rattle.std.proofs.lemmas.Map.Keys.{IsDistinct-push}
use Rattle.std.specs.Cmp.Lexicographic.{bytes_decides, nat_list_eq_equiv}
use Rattle.std.specs.List.{All, AllByRecursion, Contains, IsDistinct, find, list_any}
use Rattle.std.specs.Str.{bytes_eq}
use Rattle.pytext.specs.Results.{◌>>=◌}
use Rattle.pylock_exports.specs.Listed.{ListedValue}
use Rattle.pylock_exports.specs.Lists.{IsKept, beside, is_left, key_of, keys, list_check, value_named, value_of, with_source, with_sources}
use Rattle.pylock_exports.specs.Parts.{Check, at_number, require}
use Rattle.pylock_command.specs.declared.form.FileFormat.{FileFormat}
use Rattle.pylock_exports.specs.declared.refusal.ExportError.{ExportError}
use Rattle.pylock_exports.specs.declared.refusal.Field.TheVariants as field
use Rattle.pylock_exports.specs.declared.refusal.Reason.TheVariants as reason
use Rattle.pylock_exports.proofs.KeptLemmas.{later, named_more}

-- a source is left out, or is kept already, or comes to those that are kept
abbrev pub Made : FileFormat → List ListedValue → ListedValue → List ListedValue → Type 0
Made form kept s more =
    ((is_left form s.source ≡ true) × (more ≡ kept))
    ⊎ (((value_named form (key_of form s.source) kept ≡ Some (value_of form s.source)) × (more ≡ kept))
    ⊎ ((list_check form s.source ≡ Ok tt) × (value_named form (key_of form s.source) kept ≡ None) × (more ≡ kept ++ s ∷ [])))

pub made_of : (form : FileFormat) (kept more : List ListedValue) (s : ListedValue) → with_source form kept s ≡ Ok more → Made form kept s more
made_of form kept more s = unlisted (is_left form s.source) refl
  where
    same_named : (value : List ℕ) (b : Bool) → value_named form (key_of form s.source) kept ≡ Some value → bytes_eq value (value_of form s.source) ≡ b
        → (at_number s.number (require field.Hash reason.OtherValue b) >>= (λ _. Ok kept)) ≡ Ok more → Made form kept s more
    same_named value true is same made =
        let stays : more ≡ kept = cc made in
        inr (inl (is ∙ ap Some ((bytes_decides value (value_of form s.source)).0 same), stays))
    same_named value false is same made = cc made

    valued : (value : Option (List ℕ)) → value_named form (key_of form s.source) kept ≡ value → list_check form s.source ≡ Ok tt
        → beside form kept s value ≡ Ok more → Made form kept s more
    valued None is taken made =
        let grows : more ≡ kept ++ s ∷ [] = cc made in
        inr (inr (taken, is, grows))
    valued (Some value) is taken made = same_named value (bytes_eq value (value_of form s.source)) is refl made

    checked : (check : Check) → list_check form s.source ≡ check
        → (at_number s.number check >>= (λ _. beside form kept s (value_named form (key_of form s.source) kept))) ≡ Ok more → Made form kept s more
    checked (Ok u) is made = valued (value_named form (key_of form s.source) kept) refl is made
    checked (Err e) is made = cc made

    unlisted : (b : Bool) → is_left form s.source ≡ b
        → cond b (Ok kept) (at_number s.number (list_check form s.source) >>= (λ _. beside form kept s (value_named form (key_of form s.source) kept))) ≡ Ok more
        → Made form kept s more
    unlisted true is made =
        let stays : more ≡ kept = cc made in
        inl (is, stays)
    unlisted false is made = checked (list_check form s.source) refl made

-- what is taken in turn
each_turn : (form : FileFormat) (s : ListedValue) (rest kept all : List ListedValue) {Q : Type 0} (r : Result (List ListedValue) ExportError)
    → with_source form kept s ≡ r → (r >>= (λ more. with_sources form more rest)) ≡ Ok all
    → ((more : List ListedValue) → Made form kept s more → with_sources form more rest ≡ Ok all → Q) → Q
each_turn form s rest kept all (Err e) is made next = cc made
each_turn form s rest kept all (Ok more) is made next = next more (made_of form kept more s is) made

-- ---- what holds of each source that is taken holds of each that is kept

also : (P : ListedValue → Type 0) (kept : List ListedValue) (s : ListedValue) → AllByRecursion P kept → P s → AllByRecursion P (kept ++ s ∷ [])
also P [] s are is = (is, tt)
also P (k ∷ kept) s are is = (are.0, also P kept s are.1 is)

grown : (P : ListedValue → Type 0) (form : FileFormat) (kept more : List ListedValue) (s : ListedValue) → AllByRecursion P kept
    → (list_check form s.source ≡ Ok tt → P s) → Made form kept s more → AllByRecursion P more
grown P form kept more s are is (inl left) = subst (AllByRecursion P) (sym left.1) are
grown P form kept more s are is (inr (inl there)) = subst (AllByRecursion P) (sym there.1) are
grown P form kept more s are is (inr (inr new)) = subst (AllByRecursion P) (sym new.2) (also P kept s are (is new.0))

pub all_from : (P : ListedValue → Type 0) (form : FileFormat) (sources kept all : List ListedValue) → AllByRecursion P kept
    → AllByRecursion (λ s. list_check form s.source ≡ Ok tt → P s) sources → with_sources form kept sources ≡ Ok all → AllByRecursion P all
all_from P form [] kept all are each made = subst (AllByRecursion P) (cc made) are
all_from P form (s ∷ rest) kept all are each made =
    each_turn form s rest kept all (with_source form kept s) refl made
    (λ more is later. all_from P form rest more all (grown P form kept more s are each.0 is) each.1 later)

whenever : (P : ListedValue → Type 0) (form : FileFormat) (sources : List ListedValue) → AllByRecursion P sources
    → AllByRecursion (λ s. list_check form s.source ≡ Ok tt → P s) sources
whenever P form [] are = tt
whenever P form (s ∷ sources) are = (λ _. are.0, whenever P form sources are.1)

pub kept_are_sources : (form : FileFormat) (sources kept : List ListedValue) → with_sources form [] sources ≡ Ok kept → All (Contains sources) kept
kept_are_sources form sources kept made =
    All-from_recursion (Contains sources) kept
    (all_from (Contains sources) form sources [] kept tt
    (whenever (Contains sources) form sources (recursion_from_All (Contains sources) sources (All-contains_itself sources))) made)

-- ---- each once

not_named : (form : FileFormat) (key : List ℕ) (kept : List ListedValue) → value_named form key kept ≡ None → list_any (bytes_eq key) (keys form kept) ≡ false
not_named form key [] none = refl
not_named form key (k ∷ kept) none = by (bytes_eq key (key_of form k.source)) none (not_named form key kept)
  where
    by : (b : Bool) → option_map (λ s. value_of form s.source) (cond b (Some k) (find (λ s. bytes_eq key (key_of form s.source)) kept)) ≡ None
        → (value_named form key kept ≡ None → list_any (bytes_eq key) (keys form kept) ≡ false) → (b || list_any (bytes_eq key) (keys form kept)) ≡ false
    by true none rest = cc none
    by false none rest = rest none

distinct_more : (form : FileFormat) (kept more : List ListedValue) (s : ListedValue) → IsDistinct bytes_eq (keys form kept) → Made form kept s more → IsDistinct bytes_eq (keys form more)
distinct_more form kept more s are (inl left) = subst (λ list. IsDistinct bytes_eq (keys form list)) (sym left.1) are
distinct_more form kept more s are (inr (inl there)) = subst (λ list. IsDistinct bytes_eq (keys form list)) (sym there.1) are
distinct_more form kept more s are (inr (inr new)) =
    let is : keys form more ≡ keys form kept ++ key_of form s.source ∷ [] = ap (keys form) new.2 ∙ map-append (λ s. key_of form s.source) kept (s ∷ []) in
    subst (IsDistinct bytes_eq) (sym is) (IsDistinct-push nat_list_eq_equiv (keys form kept) (key_of form s.source) are (not_named form (key_of form s.source) kept new.1))

distinct_after : (form : FileFormat) (sources kept all : List ListedValue) → IsDistinct bytes_eq (keys form kept) → with_sources form kept sources ≡ Ok all → IsDistinct bytes_eq (keys form all)
distinct_after form [] kept all are made = subst (λ list. IsDistinct bytes_eq (keys form list)) (cc made) are
distinct_after form (s ∷ rest) kept all are made =
    each_turn form s rest kept all (with_source form kept s) refl made
    (λ more is later. distinct_after form rest more all (distinct_more form kept more s are is) later)

pub kept_once : (form : FileFormat) (sources kept : List ListedValue) → with_sources form [] sources ≡ Ok kept → IsDistinct bytes_eq (keys form kept)
unfolding IsDistinct
kept_once form sources kept made = distinct_after form sources [] kept tt made

-- ---- each that is listed is kept

named_stays : (form : FileFormat) (key value : List ℕ) (kept more : List ListedValue) (s : ListedValue) → value_named form key kept ≡ Some value
    → Made form kept s more → value_named form key more ≡ Some value
named_stays form key value kept more s is (inl left) = ap (value_named form key) left.1 ∙ is
named_stays form key value kept more s is (inr (inl there)) = ap (value_named form key) there.1 ∙ is
named_stays form key value kept more s is (inr (inr new)) =
    ap (value_named form key) new.2 ∙ named_more form key kept s ∙ ap (λ v. later v (bytes_eq key (key_of form s.source)) (value_of form s.source)) is

named_after : (form : FileFormat) (key value : List ℕ) (sources kept all : List ListedValue) → value_named form key kept ≡ Some value
    → with_sources form kept sources ≡ Ok all → value_named form key all ≡ Some value
named_after form key value [] kept all is made = subst (λ list. value_named form key list ≡ Some value) (cc made) is
named_after form key value (s ∷ rest) kept all is made =
    each_turn form s rest kept all (with_source form kept s) refl made
    (λ more made_is later. named_after form key value rest more all (named_stays form key value kept more s is made_is) later)

kept_now : (form : FileFormat) (kept more : List ListedValue) (s : ListedValue) → Made form kept s more → IsKept form more s
kept_now form kept more s (inl left) listed = cc (sym left.0 ∙ listed)
kept_now form kept more s (inr (inl there)) listed = ap (value_named form (key_of form s.source)) there.1 ∙ there.0
kept_now form kept more s (inr (inr new)) listed =
    let key = key_of form s.source in
    ap (value_named form key) new.2 ∙ named_more form key kept s
    ∙ ap (λ v. later v (bytes_eq key key) (value_of form s.source)) new.1
    ∙ ap (λ b. later None b (value_of form s.source)) ((bytes_decides key key).1 refl)

all_listed : (form : FileFormat) (sources kept all : List ListedValue) → with_sources form kept sources ≡ Ok all → AllByRecursion (IsKept form all) sources
all_listed form [] kept all made = tt
all_listed form (s ∷ rest) kept all made =
    each_turn form s rest kept all (with_source form kept s) refl made
    (λ more is later. (
      λ listed. named_after form (key_of form s.source) (value_of form s.source) rest more all (kept_now form kept more s is listed) later,
      all_listed form rest more all later,
    ))

pub listed_are_kept : (form : FileFormat) (sources kept : List ListedValue) → with_sources form [] sources ≡ Ok kept → All (IsKept form kept) sources
listed_are_kept form sources kept made = All-from_recursion (IsKept form kept) sources (all_listed form sources [] kept made)

pub ruleset each_file = (kept_are_sources, kept_once, listed_are_kept)
