-- A text that is cut behind its first slash.
use Rattle.std.proofs.Common.{◌≡◌, ◌∙◌, ℕ, suc, ◌<◌, ◌≤◌, ◌+◌, ◌==◌, Bool, true, false, not, List, [], ◌∷◌, ◌++◌, take, drop, get_or, length, ap, arith, refl, sym, subst, inl, inr}
use Rattle.std.proofs.lemmas.Bool.{cases_Bool, cases_lt}
use Rattle.std.proofs.lemmas.Bool.Decides.{nat_tests}
use Rattle.std.proofs.lemmas.List.Sums.{prefix_len-le-length, prefix_len_stops}
use Rattle.std.proofs.lemmas.Str.{IsCharBoundary-after_ascii, IsCharBoundary-end}
use Rattle.std.specs.List.{prefix_len}
use Rattle.std.specs.Str.{IsCharBoundary, IsUtf8}
use Rattle.pylock_shown.specs.Hidden.{hidden_front, hidden_place, is_slash}
use Rattle.pylock_shown.specs.Inner.Parts.{front_len}

-- ---- a byte before the first slash stays, and so does the slash

pub front_stays : (b : ℕ) (x : List ℕ) → is_slash b ≡ false → hidden_front (b ∷ x) ≡ b ∷ hidden_front x
front_stays b x other = rw other refl

pub slash_first : (b : ℕ) (x : List ℕ) → is_slash b ≡ true → hidden_front (b ∷ x) ≡ b ∷ hidden_place x
slash_first b x slash = rw slash refl

-- ---- how many bytes stand up to it

abbrev pub stays : ℕ → Bool
stays b = not (is_slash b)

pub front_there : (text : List ℕ) → prefix_len stays text < length text → front_len text ≡ prefix_len stays text + 1
front_there [] h = absurd (omega (arith, h))
front_there (b ∷ x) h = elim (cases_Bool (is_slash b)) [
  | inl slash ↦ rw slash refl
  | inr other ↦
      let more : prefix_len stays (b ∷ x) ≡ 1 + prefix_len stays x = rw other refl in
      let front : front_len (b ∷ x) ≡ suc (front_len x) = rw other refl in
      let so = front_there x (omega (arith, h, more)) in
      omega (arith, more, front, so)
]

pub front_nowhere : (text : List ℕ) → length text ≤ prefix_len stays text → front_len text ≡ prefix_len stays text
front_nowhere [] h = refl
front_nowhere (b ∷ x) h = elim (cases_Bool (is_slash b)) [
  | inl slash ↦
      let here : prefix_len stays (b ∷ x) ≡ 0 = rw slash refl in
      absurd (omega (arith, h, here))
  | inr other ↦
      let more : prefix_len stays (b ∷ x) ≡ 1 + prefix_len stays x = rw other refl in
      let front : front_len (b ∷ x) ≡ suc (front_len x) = rw other refl in
      let so = front_nowhere x (omega (arith, h, more)) in
      omega (arith, more, front, so)
]

pub ruleset front_is = (front_there, front_nowhere)

-- ---- the text, cut there

ascii : (b : ℕ) → stays b ≡ false → b < 128
ascii b slash = grind (arith, nat_tests)

pub behind_front : (text : List ℕ) → IsUtf8 text → IsCharBoundary text (front_len text)
behind_front text utf8 =
    let n = prefix_len stays text in
    let within : n ≤ length text = prefix_len-le-length stays text in
    elim (cases_lt n (length text)) [
      | inl inside ↦
          subst (IsCharBoundary text) (sym (front_there text inside))
          (IsCharBoundary-after_ascii text n utf8 inside (ascii (get_or text n 0) (prefix_len_stops stays text 0 inside)))
      | inr past ↦
          let e : length text ≡ front_len text = omega (arith, within, past, front_nowhere text past) in
          subst (IsCharBoundary text) e (IsCharBoundary-end text)
    ]

abbrev cut_there : List ℕ → ℕ → List ℕ
cut_there text n = take n text ++ hidden_place (drop n text)

cut_is : (text : List ℕ) → cut_there text (front_len text) ≡ hidden_front text
cut_is [] = refl
cut_is (b ∷ x) = elim (cases_Bool (is_slash b)) [
  | inl slash ↦
      let here : front_len (b ∷ x) ≡ suc 0 = rw slash refl in
      ap (cut_there (b ∷ x)) here ∙ sym (slash_first b x slash)
  | inr other ↦
      let more : front_len (b ∷ x) ≡ suc (front_len x) = rw other refl in
      ap (cut_there (b ∷ x)) more ∙ ap (λ t. b ∷ t) (cut_is x) ∙ sym (front_stays b x other)
]

-- both parts of a cut
pub cut_of : (text front back : List ℕ) (n : ℕ) → n ≡ front_len text → front ≡ take n text → back ≡ drop n text
    → front ++ hidden_place back ≡ hidden_front text
cut_of text front back n is one two =
    (λ i. one i ++ hidden_place (two i)) ∙ ap (cut_there text) is ∙ cut_is text
