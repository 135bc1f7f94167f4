-- Which bytes a text begins with, and which tests they fail.
use Rattle.std.proofs.Common.{◌≡◌, ◌⊎◌, ℕ, ◌+◌, ◌≤◌, Bool, true, false, not, List, [], ◌∷◌, refl, arith, inl, inr}
use Rattle.std.specs.Prelude.{◌==◌}
use Rattle.std.specs.Char.{is_ascii_digit, is_ascii_alphanumeric, to_ascii_lowercase}
use Rattle.std.specs.List.{list_all, list_any}
use Rattle.std.proofs.lemmas.Bool.{and_parts, cases_Bool, eqb-true, not-true}
use Rattle.std.proofs.lemmas.Bool.Decides.{nat_tests}
use Rattle.pytext.specs.Bytes.{is_separator, is_white, starts}

-- one of the listed bytes
abbrev pub is_in : List ℕ → ℕ → Bool
is_in set b = list_any (λ c. b == c) set

-- the text is empty, or begins with a listed byte
abbrev pub begins_in : List ℕ → List ℕ → Bool
begins_in set [] = true
begins_in set (b ∷ rest) = is_in set b

-- a letter in either case
abbrev pub is_letter : ℕ → ℕ → Bool
is_letter c b = to_ascii_lowercase b == c

member_passes : (test : ℕ → Bool) (set : List ℕ) (b : ℕ) → list_all test set ≡ true → is_in set b ≡ true → test b ≡ true
member_passes test [] b all m = absurd (let n : false ≡ true = m in cc)
member_passes test (c ∷ set) b all m =
    let both = and_parts (test c) (list_all test set) all in
    elim (cases_Bool (b == c)) [
      | inl same ↦ rw (eqb-true b c same) both.0
      | inr other ↦ member_passes test set b both.1 (rw other at m)
    ]

-- a test that each listed byte fails
pub begins_not : (test : ℕ → Bool) (set : List ℕ) → list_all (λ b. not (test b)) set ≡ true → (text : List ℕ) → begins_in set text ≡ true → starts test text ≡ false
begins_not test set all [] m = refl
begins_not test set all (b ∷ rest) m = not-true (test b) (member_passes (λ c. not (test c)) set b all m)

-- a longer list
pub begins_wider : (set wider : List ℕ) → list_all (is_in wider) set ≡ true → (text : List ℕ) → begins_in set text ≡ true → begins_in wider text ≡ true
begins_wider set wider all [] m = refl
begins_wider set wider all (b ∷ rest) m = member_passes (is_in wider) set b all m

-- ---- white space

abbrev pub whites : List ℕ
whites = 32 ∷ 9 ∷ 10 ∷ 11 ∷ 12 ∷ 13 ∷ []

white_in : (b : ℕ) → is_white b ≡ true → is_in whites b ≡ true
white_in b e = grind (arith, nat_tests)

pub all_white_begins : (text : List ℕ) → list_all is_white text ≡ true → begins_in whites text ≡ true
all_white_begins [] e = refl
all_white_begins (b ∷ rest) e = white_in b (and_parts (is_white b) (list_all is_white rest) e).0

-- ---- separators, digits and letters

separator_cases : (b : ℕ) → is_separator b ≡ true → (b ≡ 45) ⊎ ((b ≡ 95) ⊎ (b ≡ 46))
separator_cases b e = grind (arith, nat_tests)

-- what a test says of each separator
pub separator_judged : (test : ℕ → Bool) (verdict : Bool) → test 45 ≡ verdict → test 95 ≡ verdict → test 46 ≡ verdict → (b : ℕ) → is_separator b ≡ true → test b ≡ verdict
separator_judged test verdict h45 h95 h46 b e = elim (separator_cases b e) [
  | inl is ↦ rw is h45
  | inr other ↦ elim other [ inl is ↦ rw is h95 | inr is ↦ rw is h46 ]
]

-- a letter is a lower case one or its capital
pub letter_cases : (b c : ℕ) → to_ascii_lowercase b ≡ c → 97 ≤ c → c ≤ 122 → (b ≡ c) ⊎ (b + 32 ≡ c)
letter_cases b c e low high = grind (arith, nat_tests)

pub letter_not_separator : (b : ℕ) → 97 ≤ to_ascii_lowercase b → is_separator b ≡ false
letter_not_separator b low = grind (arith, nat_tests)

pub letter_not_digit : (b : ℕ) → 97 ≤ to_ascii_lowercase b → is_ascii_digit b ≡ false
letter_not_digit b low = grind (arith, nat_tests)

pub digit_not_letter : (b c : ℕ) → is_ascii_digit b ≡ true → 97 ≤ c → is_letter c b ≡ false
digit_not_letter b c e low = grind (arith, nat_tests)

pub digit_not_separator : (b : ℕ) → is_ascii_digit b ≡ true → is_separator b ≡ false
digit_not_separator b e = grind (arith, nat_tests)

pub separator_not_alphanumeric : (b : ℕ) → is_separator b ≡ true → is_ascii_alphanumeric b ≡ false
separator_not_alphanumeric b e = grind (arith, nat_tests)
