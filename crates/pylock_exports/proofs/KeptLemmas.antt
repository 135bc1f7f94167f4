-- The sources of a list and the table of their values, with one source more.
use Rattle.std.proofs.Common.{[], ◌≡◌, ◌∙◌, ℕ, Bool, true, false, cond, List, ◌∷◌, ◌++◌, Option, Some, None, Result, Ok, Err, option_map, refl, sym, ap}
use Rattle.std.proofs.lemmas.Bool.Decides.{Decides-like, same_from_decides}
use Rattle.std.specs.Prelude.{⊤}
use Rattle.std.specs.Cmp.Lexicographic.{bytes_decides}
use Rattle.std.specs.List.{find}
use Rattle.std.specs.Map.{update}
use Rattle.std.specs.Str.{bytes_eq}
use denote.Ref.{Bor}
use Rattle.pytext.specs.Agreement.{Gives}
use Rattle.pytext.specs.Results.{◌>>=◌}
use Rattle.pylock_exports.specs.Inner.{Holds}
use Rattle.pylock_exports.specs.Listed.{ListedValue}
use Rattle.pylock_exports.specs.Lists.{is_left, key_of, list_check, value_named, value_of, with_source}
use Rattle.pylock_exports.specs.Parts.{at_number, require}
use Rattle.pylock_command.specs.declared.form.FileFormat.{FileFormat}
use Rattle.pylock_exports.specs.declared.refusal.ExportError.{ExportError}
use Rattle.pylock_exports.specs.declared.refusal.ExportError.TheVariants.{Memory}
use Rattle.pylock_exports.specs.declared.refusal.Field.TheVariants as field
use Rattle.pylock_exports.specs.declared.refusal.Reason.TheVariants as reason

-- ---- what is made of it

-- a source that is named as an earlier one
pub kept_again : (form : FileFormat) (kept : List ListedValue) (s : ListedValue) (value : List ℕ) (result : Result ⊤ ExportError) → is_left form s.source ≡ false
    → at_number s.number (list_check form s.source) ≡ Ok tt → value_named form (key_of form s.source) kept ≡ Some value
    → result ≡ at_number s.number (require field.Hash reason.OtherValue (bytes_eq value (value_of form s.source)))
    → Gives Memory (λ _. kept) result (with_source form kept s)
kept_again form kept s value result listed taken some is = rw (listed, taken, some, ← is) (by result)
  where
    by : (r : Result ⊤ ExportError) → Gives Memory (λ _. kept) r (r >>= (λ _. Ok kept))
    by (Ok u) = refl
    by (Err e) = λ _. refl

-- a source that has a name of its own
pub kept_newly : (form : FileFormat) (kept more : List ListedValue) (s : ListedValue) → is_left form s.source ≡ false
    → at_number s.number (list_check form s.source) ≡ Ok tt → value_named form (key_of form s.source) kept ≡ None
    → more ≡ kept ++ s ∷ [] → with_source form kept s ≡ Ok more
kept_newly form kept more s listed taken none is = rw (listed, taken, none, is) refl

-- ---- the table

swap : (a b : List ℕ) → bytes_eq a b ≡ bytes_eq b a
swap a b =
    same_from_decides (bytes_eq a b) (bytes_eq b a) (bytes_decides a b)
    (Decides-like (bytes_eq b a) (λ is. sym is) (λ is. sym is) (bytes_decides b a))

-- the first of two, where the second is tested
abbrev pub later : Option (List ℕ) → Bool → List ℕ → Option (List ℕ)
later (Some value) is other = Some value
later None is other = cond is (Some other) None

first_more : (shown : ListedValue → List ℕ) (is : Bool) (k : ListedValue) (more left : Option ListedValue) (last : Bool) (other : List ℕ)
    → option_map shown more ≡ later (option_map shown left) last other
    → option_map shown (cond is (Some k) more) ≡ later (option_map shown (cond is (Some k) left)) last other
first_more shown true k more left last other same = refl
first_more shown false k more left last other same = same

pub named_more : (form : FileFormat) (key : List ℕ) (kept : List ListedValue) (s : ListedValue)
    → value_named form key (kept ++ s ∷ []) ≡ later (value_named form key kept) (bytes_eq key (key_of form s.source)) (value_of form s.source)
named_more form key [] s = by (bytes_eq key (key_of form s.source))
  where
    by : (b : Bool) → option_map (λ s. value_of form s.source) (cond b (Some s) None) ≡ cond b (Some (value_of form s.source)) None
    by true = refl
    by false = refl
named_more form key (k ∷ kept) s =
    first_more (λ s. value_of form s.source) (bytes_eq key (key_of form k.source)) k
    (find (λ s. bytes_eq key (key_of form s.source)) (kept ++ s ∷ [])) (find (λ s. bytes_eq key (key_of form s.source)) kept)
    (bytes_eq key (key_of form s.source)) (value_of form s.source) (named_more form key kept s)

abbrev Found : Type 0
Found = List ℕ → Option (Bor (List ℕ))

pub holds_more : (form : FileFormat) (old new : Found) (kept : List ListedValue) (s : ListedValue) (key : List ℕ) (value : Bor (List ℕ))
    → key ≡ key_of form s.source → value.now ≡ value_of form s.source
    → ((q : List ℕ) → new q ≡ update bytes_eq old key (Some value) q)
    → value_named form key kept ≡ None → Holds form old kept → Holds form new (kept ++ s ∷ [])
holds_more form old new kept s key value key_is value_is updated none holds q =
    ap (λ v. option_map (λ value. value.now) v) (updated q)
    ∙ by (bytes_eq key q) refl
    ∙ ap (λ b. later (value_named form q kept) b (value_of form s.source)) (swap key q ∙ ap (bytes_eq q) key_is)
    ∙ sym (named_more form q kept s)
  where
    settled : (v : Option (List ℕ)) → v ≡ later v false (value_of form s.source)
    settled (Some v) = refl
    settled None = refl

    at_key : (same : key ≡ q) → value_named form q kept ≡ None
    at_key same = ap (λ k. value_named form k kept) (sym same) ∙ none

    by : (b : Bool) → bytes_eq key q ≡ b
        → option_map (λ (value : Bor (List ℕ)). value.now) (cond b (Some value) (old q)) ≡ later (value_named form q kept) b (value_of form s.source)
    by true is = ap Some value_is ∙ ap (λ v. later v true (value_of form s.source)) (sym (at_key ((bytes_decides key q).0 is)))
    by false is = holds q ∙ settled (value_named form q kept)
