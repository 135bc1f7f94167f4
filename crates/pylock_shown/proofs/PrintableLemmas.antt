-- A text of printable ASCII.
use Rattle.std.proofs.Common.{◌≡◌, ◌∙◌, ◌<◌, ◌≤◌, ◌||◌, ◌∷◌, Bool, ℕ, zero, suc, true, false, not, List, [], ap, arith, nat_lt, refl}
use Rattle.std.proofs.lemmas.Bool.{and_parts, ltb-true}
use Rattle.std.proofs.lemmas.Bool.Decides.{nat_tests}
use Rattle.std.proofs.lemmas.Str.{chars-IsAscii}
use Rattle.std.specs.List.{list_all, list_any}
use Rattle.std.specs.Str.{IsAscii, chars}
use Rattle.ucd_category.proofs.Computing.{ucd_category}
use Rattle.ucd_category.proofs.GeneralCategoryLemmas.{general_category_stepped}
use Rattle.ucd_category.specs.GeneralCategory.{general_category}
use Rattle.ucd_table.proofs.Facts.{Stepped-below}
use Rattle.pylock_shown.specs.Inner.Printable.{is_printable}
use Rattle.pylock_shown.specs.Visible.{is_control, steers}

-- computed over the table
either_not : (b : ℕ) → b < 127 → (not (nat_lt 31 b) || not (is_control b)) ≡ true
unfolding ucd_category
either_not b below =
    Stepped-below general_category general_category_stepped (λ x v. not (nat_lt 31 x) || not (steers v)) 127 refl b below

-- a printable character is none
pub plain_is_none : (b : ℕ) → 32 ≤ b → b ≤ 126 → is_control b ≡ false
plain_is_none b above below =
    let test = either_not b (omega (arith, below)) in
    let high : nat_lt 31 b ≡ true = grind (arith, nat_tests) in
    none (is_control b) (rw high at test)
  where
    none : (t : Bool) → (false || not t) ≡ true → t ≡ false
    none true is = absurd cc
    none false is = refl

printable_is_none : (b : ℕ) → is_printable b ≡ true → is_control b ≡ false
printable_is_none b printable =
    let (above, below) = and_parts (nat_lt 31 b) (nat_lt b 127) printable in
    let high : 31 < b = ltb-true 31 b above in
    let low : b < 127 = ltb-true b 127 below in
    plain_is_none b (omega (arith, high)) (omega (arith, low))

ascii : (text : List ℕ) → list_all is_printable text ≡ true → IsAscii text
ascii [] printable i = omega arith
ascii (b ∷ bs) printable zero =
    let (here, more) = and_parts (is_printable b) (list_all is_printable bs) printable in
    let low : b < 127 = ltb-true b 127 (and_parts (nat_lt 31 b) (nat_lt b 127) here).1 in
    omega arith
ascii (b ∷ bs) printable (suc i) =
    ascii bs (and_parts (is_printable b) (list_all is_printable bs) printable).1 i

none_of : (text : List ℕ) → list_all is_printable text ≡ true → list_any is_control text ≡ false
none_of [] printable = refl
none_of (b ∷ bs) printable =
    let (here, more) = and_parts (is_printable b) (list_all is_printable bs) printable in
    rw (printable_is_none b here, none_of bs more) refl

-- the text has no control character
pub printable_has_none : (text : List ℕ) → list_all is_printable text ≡ true → list_any is_control (chars text) ≡ false
printable_has_none text printable = ap (list_any is_control) (chars-IsAscii text (ascii text printable)) ∙ none_of text printable
