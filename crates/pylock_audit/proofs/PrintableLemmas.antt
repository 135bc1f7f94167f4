-- A hash of printable ASCII.
use Rattle.std.proofs.Common.{◌≡◌, ◌∙◌, ◌++◌, ℕ, true, false, List, refl}
use Rattle.std.proofs.lemmas.List.Folds.{list_all-append}
use Rattle.std.specs.List.{list_all}
use Rattle.std.specs.Prelude.{codes}
use Rattle.pylock_shown.proofs.PrintableLemmas.{printable_has_none}
use Rattle.pylock_shown.specs.Inner.Printable.{is_printable}
use Rattle.pylock_shown.specs.Visible.{has_control}
use Rattle.pylock_audit.specs.Source.{hash_text}

both : (xs ys : List ℕ) → list_all is_printable xs ≡ true → list_all is_printable ys ≡ true → list_all is_printable (xs ++ ys) ≡ true
both xs ys first last = list_all-append is_printable xs ys ∙ rw (first, last) refl

-- it has no control character
pub printable_hash : (algorithm value : List ℕ) → list_all is_printable algorithm ≡ true → list_all is_printable value ≡ true
    → has_control (hash_text (algorithm, value)) ≡ false
printable_hash algorithm value first last =
    printable_has_none (hash_text (algorithm, value))
    (both (algorithm ++ codes "=") value (both algorithm (codes "=") first refl) last)
