-- A set of file names that gains one.
use Rattle.std.proofs.Common.{◌≡◌, ◌∙◌, ℕ, Bool, true, false, ◌||◌, cond, List, [], ◌∷◌, ◌++◌, String, Global, Option, Some, None, refl, sym, ap, append_assoc, append-nil}
use Rattle.std.proofs.Math.Bool.{or-false, or-true}
use Rattle.std.proofs.lemmas.Bool.Decides.{Decides-like, same_from_decides}
use Rattle.std.proofs.lemmas.List.Folds.{list_any-append}
use Rattle.std.specs.BTreeSet.{BTreeSet, contains_text}
use Rattle.std.specs.Cmp.Lexicographic.{bytes_decides}
use Rattle.std.specs.List.{list_any}
use Rattle.std.specs.Option.{option_map_or}
use Rattle.std.specs.Str.{bytes_eq}
use Rattle.pylock_readers.specs.Entry.{FileValue, file_name}
use Rattle.pylock_audit.specs.Entry.{same_names, with_name, with_names}
use Rattle.pylock_places.specs.Shown.{file_label}
use Rattle.pylock_audit.specs.Finding.{told_where}
use Rattle.pylock_audit.specs.Inner.Names.{Holds}
use Rattle.pylock_audit.specs.Source.{name_where, text_where}

swap : (a b : List ℕ) → bytes_eq a b ≡ bytes_eq b a
swap a b =
    same_from_decides (bytes_eq a b) (bytes_eq b a) (bytes_decides a b)
    (Decides-like (bytes_eq b a) (λ is. sym is) (λ is. sym is) (bytes_decides b a))

pub holds_more : (old new : BTreeSet (String Global)) (name : List ℕ) (names : List (List ℕ))
    → ((q : List ℕ) → contains_text new q ≡ cond (bytes_eq name q) true (contains_text old q))
    → Holds old names → Holds new (names ++ name ∷ [])
holds_more old new name names updated holds q =
    updated q ∙ rw (swap name q, holds q) (by (bytes_eq q name) (list_any (bytes_eq q) names)) ∙ sym (list_any-append (bytes_eq q) names (name ∷ []))
  where
    by : (is has : Bool) → cond is true has ≡ (has || (is || false))
    by true has = sym (or-true has)
    by false has = sym (or-false has)

-- one file more
pub with_names_more : (files : List FileValue) (file : FileValue) (names : List (List ℕ))
    → with_names (files ++ file ∷ []) names ≡ with_name (file_name file) (with_names files names)
with_names_more [] file names = refl
with_names_more (first ∷ files) file names = with_names_more files file (with_name (file_name first) names)

abbrev pub same_name : List (List ℕ) → FileValue → List (List ℕ)
same_name names file = name_where (λ name. list_any (bytes_eq name) names) file

pub same_names_more : (files : List FileValue) (file : FileValue) (names : List (List ℕ))
    → same_names names (files ++ file ∷ []) ≡ same_names names files ++ same_name (with_names files names) file
same_names_more [] file names = append-nil (same_name names file)
same_names_more (first ∷ files) file names =
    let later = with_name (file_name first) names in
    ap (λ more. same_name names first ++ more) (same_names_more files file later)
    ∙ sym (append_assoc (same_name names first) (same_names later files) (same_name (with_names files later) file))

-- a set tells of a file what the names tell
pub same_where : (set : BTreeSet (String Global)) (names : List (List ℕ)) (file : Option FileValue) → Holds set names
    → option_map_or (name_where (contains_text set)) file [] ≡ option_map_or (name_where (λ name. list_any (bytes_eq name) names)) file []
same_where set names None holds = refl
same_where set names (Some file) holds = named (file_name file)
  where
    named : (name : Option (List ℕ))
        → text_where (contains_text set) (λ name. file_label file) name ≡ text_where (λ name. list_any (bytes_eq name) names) (λ name. file_label file) name
    named None = refl
    named (Some name) = ap (λ has. told_where has (file_label file)) (holds name)
