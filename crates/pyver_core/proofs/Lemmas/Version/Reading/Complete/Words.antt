-- A part with a word is read, and is not taken for another part.
use Rattle.std.proofs.Common.{◌≡◌, ℕ, suc, ◌-◌, ◌≤◌, Bool, true, false, leb, List, [], ◌∷◌, ◌++◌, take, Some, None, refl, sym, ap, subst, ◌∙◌, append_assoc, arith, inl, inr}
use Rattle.std.specs.Prelude.{codes, bytes_eq, ◌==◌}
use Rattle.std.specs.Char.{is_ascii_digit, to_ascii_lowercase}
use Rattle.std.specs.Str.{str_to_ascii_lowercase}
use Rattle.std.proofs.lemmas.Bool.{leb-true, cases_Bool, cond-false, cond-true}
use Rattle.std.proofs.lemmas.Bool.Decides.{nat_tests}
use Rattle.pytext.specs.Bytes.{is_separator, starts}
use Rattle.pyver_core.specs.Version.Grammar.{is_dot, IsOptionalSeparator, IsWord, IsTagged, IsPreWord, word_a, word_alpha, word_b, word_beta, word_c, word_rc, word_pre, word_preview, IsPostWord, word_post, word_rev, word_r}
use Rattle.pyver_core.specs.Version.Reading.{behind_at, after_separator, number_at, after_word, trailing_count_at, pre_word_at, after_post_word, dotted_number_at, dashed_number_at}
use Rattle.pyver_core.specs.declared.version.part.PreKind.{PreKind}
use Rattle.pyver_core.proofs.Lemmas.Version.Reading.FirstBytes.{is_in, begins_in, is_letter, separator_judged, letter_cases, letter_not_separator, letter_not_digit, digit_not_letter}
use Rattle.pytext.proofs.BytesLemmas.{starts_none}
use Rattle.pyver_core.proofs.Lemmas.Version.Reading.Complete.Pieces.{separator_complete, no_number, tail_complete, word_complete, other_word, no_word, not_behind_byte}

-- ---- what a word begins with

-- the word begins with a letter
abbrev pub IsLettered : List ℕ → Type 0
IsLettered word = starts (leb 97) word ≡ true

-- a test that each letter fails
abbrev FailsLetters : (ℕ → Bool) → Type 0
FailsLetters test = (b : ℕ) → 97 ≤ to_ascii_lowercase b → test b ≡ false

pub word_starts : (word written rest : List ℕ) → IsLettered word → IsWord word written → (test : ℕ → Bool) → FailsLetters test → starts test (written ++ rest) ≡ false
word_starts word [] rest lettered is test fails = absurd (let n : false ≡ true = subst (λ (w : List ℕ). starts (leb 97) w ≡ true) (sym is) lettered in cc)
word_starts word (b ∷ written) rest lettered is test fails =
    let low : leb 97 (to_ascii_lowercase b) ≡ true = subst (λ (w : List ℕ). starts (leb 97) w ≡ true) (sym is) lettered in
    fails b (leb-true 97 (to_ascii_lowercase b) low)

pub word_begins : (c : ℕ) (word written rest : List ℕ) → IsWord (c ∷ word) written → 97 ≤ c → c ≤ 122 → (set : List ℕ) → is_in set c ≡ true → is_in set (c - 32) ≡ true → begins_in set (written ++ rest) ≡ true
word_begins c word [] rest is low high set at_c at_capital = absurd (let n : [] ≡ c ∷ word = is in cc)
word_begins c word (b ∷ written) rest is low high set at_c at_capital =
    let lower : to_ascii_lowercase b ≡ c = cc in
    elim (letter_cases b c lower low high) [
      | inl same ↦ rw same at_c
      | inr capital ↦ let at : b ≡ c - 32 = omega arith in rw at at_capital
    ]

letter_not_dot : FailsLetters is_dot
letter_not_dot b low = grind (arith, nat_tests)

letter_not_dash : FailsLetters (λ b. b == 45)
letter_not_dash b low = grind (arith, nat_tests)

-- ---- a part with a word, and the text after it

pub tagged_whole : (word piece : List ℕ) (n : ℕ) (next : List ℕ) (t : IsTagged word piece n next) → piece ++ next ≡ t.before ++ (t.written ++ (t.after ++ (t.digits ++ next)))
tagged_whole word piece n next t =
    ap (λ (p : List ℕ). p ++ next) t.whole ∙ (append_assoc t.before (t.written ++ (t.after ++ t.digits)) next
    ∙ ap (λ (r : List ℕ). t.before ++ r) (append_assoc t.written (t.after ++ t.digits) next ∙ ap (λ (r : List ℕ). t.written ++ r) (append_assoc t.after t.digits next)))

pub tagged_word : (word piece : List ℕ) (n : ℕ) (next : List ℕ) (t : IsTagged word piece n next) → IsLettered word → after_separator (piece ++ next) ≡ t.written ++ (t.after ++ (t.digits ++ next))
tagged_word word piece n next t lettered =
    let rest = t.after ++ (t.digits ++ next) in
    ap (λ (r : List ℕ). after_separator r) (tagged_whole word piece n next t) ∙ separator_complete t.before (t.written ++ rest) t.is_before (λ _. word_starts word t.written rest lettered t.is_word is_separator letter_not_separator)

pub tagged_tail : (word piece : List ℕ) (n : ℕ) (next : List ℕ) (t : IsTagged word piece n next) → starts is_ascii_digit next ≡ false → trailing_count_at (t.after ++ (t.digits ++ next)) ≡ (n, next)
tagged_tail word piece n next t stops = tail_complete t.after t.digits n next t.is_after t.is_number t.greedy stops

-- no letter but one of the next part stands after the word
pub tagged_letter : (c : ℕ) → 97 ≤ c → is_letter c 45 ≡ false → is_letter c 95 ≡ false → is_letter c 46 ≡ false → (word piece : List ℕ) (n : ℕ) (next : List ℕ) (t : IsTagged word piece n next) → starts (is_letter c) next ≡ false → starts (is_letter c) (t.after ++ (t.digits ++ next)) ≡ false
tagged_letter c low h45 h95 h46 word piece n next t stops =
    starts_none is_separator (is_letter c) (separator_judged (is_letter c) false h45 h95 h46) t.after (t.digits ++ next) t.is_after.0
    (starts_none is_ascii_digit (is_letter c) (λ b e. digit_not_letter b c e low) t.digits next t.is_number.digits stops)

-- the part begins with a separator or its letter
before_begins : (before rest set : List ℕ) → IsOptionalSeparator before → is_in set 45 ≡ true → is_in set 95 ≡ true → is_in set 46 ≡ true → begins_in set rest ≡ true → begins_in set (before ++ rest) ≡ true
before_begins [] rest set is h45 h95 h46 begins = begins
before_begins (b ∷ before) rest set is h45 h95 h46 begins = elim (cases_Bool (is_separator b)) [
  | inl sep ↦ separator_judged (is_in set) true h45 h95 h46 b sep
  | inr other ↦ absurd (let n : false ≡ true = rw other at is.0 in cc)
]

pub tagged_begins : (c : ℕ) (word piece : List ℕ) (n : ℕ) (next : List ℕ) (t : IsTagged (c ∷ word) piece n next) → 97 ≤ c → c ≤ 122 → (set : List ℕ) → is_in set c ≡ true → is_in set (c - 32) ≡ true → is_in set 45 ≡ true → is_in set 95 ≡ true → is_in set 46 ≡ true → begins_in set (piece ++ next) ≡ true
tagged_begins c word piece n next t low high set at_c at_capital h45 h95 h46 =
    let rest = t.written ++ (t.after ++ (t.digits ++ next)) in
    subst (λ (r : List ℕ). begins_in set r ≡ true) (sym (tagged_whole (c ∷ word) piece n next t))
    (before_begins t.before rest set t.is_before h45 h95 h46 (word_begins c word t.written (t.after ++ (t.digits ++ next)) t.is_word low high set at_c at_capital))

-- no digits stand after a separator there
no_number_behind : (opens : ℕ → Bool) → FailsLetters opens → (word before written rest : List ℕ) → IsLettered word → IsWord word written → IsOptionalSeparator before → behind_at opens number_at (before ++ (written ++ rest)) ≡ None
no_number_behind opens fails word [] written rest lettered is is_before = not_behind_byte opens number_at (written ++ rest) (word_starts word written rest lettered is opens fails)
no_number_behind opens fails word (b ∷ []) written rest lettered is is_before = elim (cases_Bool (opens b)) [
  | inl opened ↦ cond-true (opens b) (number_at (written ++ rest)) None opened ∙ no_number (written ++ rest) (word_starts word written rest lettered is is_ascii_digit letter_not_digit)
  | inr closed ↦ cond-false (opens b) (number_at (written ++ rest)) None closed
]
no_number_behind opens fails word (b ∷ c ∷ before) written rest lettered is is_before = absurd (omega (arith, is_before.1))

pub tagged_not_dotted : (word piece : List ℕ) (n : ℕ) (next : List ℕ) (t : IsTagged word piece n next) → IsLettered word → dotted_number_at (piece ++ next) ≡ None
unfolding dotted_number_at
tagged_not_dotted word piece n next t lettered = ap (λ (r : List ℕ). behind_at is_dot number_at r) (tagged_whole word piece n next t) ∙ no_number_behind is_dot letter_not_dot word t.before t.written (t.after ++ (t.digits ++ next)) lettered t.is_word t.is_before

pub tagged_not_dashed : (word piece : List ℕ) (n : ℕ) (next : List ℕ) (t : IsTagged word piece n next) → IsLettered word → dashed_number_at (piece ++ next) ≡ None
unfolding dashed_number_at
tagged_not_dashed word piece n next t lettered = ap (λ (r : List ℕ). behind_at (λ b. b == 45) number_at r) (tagged_whole word piece n next t) ∙ no_number_behind (λ b. b == 45) letter_not_dash word t.before t.written (t.after ++ (t.digits ++ next)) lettered t.is_word t.is_before

-- ---- the words

-- no longer word goes on with this letter
goes_on : (c : ℕ) (word rest : List ℕ) (n : ℕ) → starts (is_letter c) rest ≡ false → bytes_eq (take (suc n) (str_to_ascii_lowercase rest)) (c ∷ word) ≡ false
goes_on c word [] n e = refl
goes_on c word (b ∷ rest) n e = rw e refl

pub pre_word_complete : {word : List ℕ} {kind : PreKind} → IsPreWord word kind → (written rest : List ℕ) → IsWord word written → starts (is_letter 108) rest ≡ false → starts (is_letter 101) rest ≡ false → starts (is_letter 118) rest ≡ false → pre_word_at (written ++ rest) ≡ Some (kind, rest)
unfolding pre_word_at
pre_word_complete word_a written rest is l e v = rw (other_word (codes "alpha") (codes "a") written rest is (goes_on 108 (codes "pha") rest 3 l), word_complete (codes "a") written rest is) refl
pre_word_complete word_alpha written rest is l e v = rw (word_complete (codes "alpha") written rest is) refl
pre_word_complete word_b written rest is l e v = rw (other_word (codes "alpha") (codes "b") written rest is refl, other_word (codes "a") (codes "b") written rest is refl, other_word (codes "beta") (codes "b") written rest is (goes_on 101 (codes "ta") rest 2 e), word_complete (codes "b") written rest is) refl
pre_word_complete word_beta written rest is l e v = rw (other_word (codes "alpha") (codes "beta") written rest is refl, other_word (codes "a") (codes "beta") written rest is refl, word_complete (codes "beta") written rest is) refl
pre_word_complete word_c written rest is l e v = rw (other_word (codes "alpha") (codes "c") written rest is refl, other_word (codes "a") (codes "c") written rest is refl, other_word (codes "beta") (codes "c") written rest is refl, other_word (codes "b") (codes "c") written rest is refl, other_word (codes "preview") (codes "c") written rest is refl, other_word (codes "pre") (codes "c") written rest is refl, other_word (codes "rc") (codes "c") written rest is refl, word_complete (codes "c") written rest is) refl
pre_word_complete word_rc written rest is l e v = rw (other_word (codes "alpha") (codes "rc") written rest is refl, other_word (codes "a") (codes "rc") written rest is refl, other_word (codes "beta") (codes "rc") written rest is refl, other_word (codes "b") (codes "rc") written rest is refl, other_word (codes "preview") (codes "rc") written rest is refl, other_word (codes "pre") (codes "rc") written rest is refl, word_complete (codes "rc") written rest is) refl
pre_word_complete word_pre written rest is l e v = rw (other_word (codes "alpha") (codes "pre") written rest is refl, other_word (codes "a") (codes "pre") written rest is refl, other_word (codes "beta") (codes "pre") written rest is refl, other_word (codes "b") (codes "pre") written rest is refl, other_word (codes "preview") (codes "pre") written rest is (goes_on 118 (codes "iew") rest 3 v), word_complete (codes "pre") written rest is) refl
pre_word_complete word_preview written rest is l e v = rw (other_word (codes "alpha") (codes "preview") written rest is refl, other_word (codes "a") (codes "preview") written rest is refl, other_word (codes "beta") (codes "preview") written rest is refl, other_word (codes "b") (codes "preview") written rest is refl, word_complete (codes "preview") written rest is) refl

pub post_word_complete : {word : List ℕ} → IsPostWord word → (written rest : List ℕ) → IsWord word written → starts (is_letter 101) rest ≡ false → after_post_word (written ++ rest) ≡ Some rest
unfolding after_post_word
post_word_complete word_post written rest is e = rw (word_complete (codes "post") written rest is) refl
post_word_complete word_rev written rest is e = rw (other_word (codes "post") (codes "rev") written rest is refl, word_complete (codes "rev") written rest is) refl
post_word_complete word_r written rest is e = rw (other_word (codes "post") (codes "r") written rest is refl, other_word (codes "rev") (codes "r") written rest is (goes_on 101 (codes "v") rest 1 e), word_complete (codes "r") written rest is) refl

-- none of the words of a pre-release
no_pre_words : (text : List ℕ) → after_word (codes "alpha") text ≡ None → after_word (codes "a") text ≡ None → after_word (codes "beta") text ≡ None → after_word (codes "b") text ≡ None → after_word (codes "preview") text ≡ None → after_word (codes "pre") text ≡ None → after_word (codes "rc") text ≡ None → after_word (codes "c") text ≡ None → pre_word_at text ≡ None
unfolding pre_word_at
no_pre_words text h1 h2 h3 h4 h5 h6 h7 h8 = rw (h1, h2, h3, h4, h5, h6, h7, h8) refl

no_post_words : (text : List ℕ) → after_word (codes "post") text ≡ None → after_word (codes "rev") text ≡ None → after_word (codes "r") text ≡ None → after_post_word text ≡ None
unfolding after_post_word
no_post_words text h1 h2 h3 = rw (h1, h2, h3) refl

pub no_pre_letter : (text : List ℕ) → starts (is_letter 97) text ≡ false → starts (is_letter 98) text ≡ false → starts (is_letter 99) text ≡ false → starts (is_letter 112) text ≡ false → starts (is_letter 114) text ≡ false → pre_word_at text ≡ None
no_pre_letter text a b c p r = no_pre_words text (no_word 97 (codes "lpha") text a) (no_word 97 [] text a) (no_word 98 (codes "eta") text b) (no_word 98 [] text b) (no_word 112 (codes "review") text p) (no_word 112 (codes "re") text p) (no_word 114 (codes "c") text r) (no_word 99 [] text c)

pub no_post_letter : (text : List ℕ) → starts (is_letter 112) text ≡ false → starts (is_letter 114) text ≡ false → after_post_word text ≡ None
no_post_letter text p r = no_post_words text (no_word 112 (codes "ost") text p) (no_word 114 (codes "ev") text r) (no_word 114 [] text r)

-- the words of the other parts are none of these
pub dev_no_pre : (written rest : List ℕ) → IsWord (codes "dev") written → pre_word_at (written ++ rest) ≡ None
dev_no_pre written rest is = no_pre_words (written ++ rest) (other_word (codes "alpha") (codes "dev") written rest is refl) (other_word (codes "a") (codes "dev") written rest is refl) (other_word (codes "beta") (codes "dev") written rest is refl) (other_word (codes "b") (codes "dev") written rest is refl) (other_word (codes "preview") (codes "dev") written rest is refl) (other_word (codes "pre") (codes "dev") written rest is refl) (other_word (codes "rc") (codes "dev") written rest is refl) (other_word (codes "c") (codes "dev") written rest is refl)

pub post_no_pre : (written rest : List ℕ) → IsWord (codes "post") written → pre_word_at (written ++ rest) ≡ None
post_no_pre written rest is = no_pre_words (written ++ rest) (other_word (codes "alpha") (codes "post") written rest is refl) (other_word (codes "a") (codes "post") written rest is refl) (other_word (codes "beta") (codes "post") written rest is refl) (other_word (codes "b") (codes "post") written rest is refl) (other_word (codes "preview") (codes "post") written rest is refl) (other_word (codes "pre") (codes "post") written rest is refl) (other_word (codes "rc") (codes "post") written rest is refl) (other_word (codes "c") (codes "post") written rest is refl)

pub rev_no_pre : (written rest : List ℕ) → IsWord (codes "rev") written → pre_word_at (written ++ rest) ≡ None
rev_no_pre written rest is = no_pre_words (written ++ rest) (other_word (codes "alpha") (codes "rev") written rest is refl) (other_word (codes "a") (codes "rev") written rest is refl) (other_word (codes "beta") (codes "rev") written rest is refl) (other_word (codes "b") (codes "rev") written rest is refl) (other_word (codes "preview") (codes "rev") written rest is refl) (other_word (codes "pre") (codes "rev") written rest is refl) (other_word (codes "rc") (codes "rev") written rest is refl) (other_word (codes "c") (codes "rev") written rest is refl)

pub r_no_pre : (written rest : List ℕ) → IsWord (codes "r") written → starts (is_letter 99) rest ≡ false → pre_word_at (written ++ rest) ≡ None
r_no_pre written rest is c = no_pre_words (written ++ rest) (other_word (codes "alpha") (codes "r") written rest is refl) (other_word (codes "a") (codes "r") written rest is refl) (other_word (codes "beta") (codes "r") written rest is refl) (other_word (codes "b") (codes "r") written rest is refl) (other_word (codes "preview") (codes "r") written rest is refl) (other_word (codes "pre") (codes "r") written rest is refl) (other_word (codes "rc") (codes "r") written rest is (goes_on 99 [] rest 0 c)) (other_word (codes "c") (codes "r") written rest is refl)

pub dev_no_post : (written rest : List ℕ) → IsWord (codes "dev") written → after_post_word (written ++ rest) ≡ None
dev_no_post written rest is = no_post_words (written ++ rest) (other_word (codes "post") (codes "dev") written rest is refl) (other_word (codes "rev") (codes "dev") written rest is refl) (other_word (codes "r") (codes "dev") written rest is refl)
