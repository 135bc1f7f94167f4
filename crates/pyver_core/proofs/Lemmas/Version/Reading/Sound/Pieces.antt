-- What a reader takes from the beginning of a text is a piece in the form that the grammar asks for.
use Rattle.std.proofs.Common.{◌≡◌, ℕ, zero, suc, ◌≤◌, Bool, true, false, List, [], ◌∷◌, ◌++◌, length, take, drop, Option, Some, None, refl, sym, ap, subst, ◌∙◌, append_assoc, arith, inl, inr}
use Rattle.std.specs.Prelude.{bytes_eq, ◌==◌}
use Rattle.std.specs.Char.{is_ascii_digit, is_ascii_alphanumeric}
use Rattle.std.specs.Cmp.Lexicographic.{bytes_decides}
use Rattle.std.specs.List.{list_all, prefix_len}
use Rattle.std.specs.Str.{str_to_ascii_lowercase}
use Rattle.std.proofs.lemmas.List.{take-append-drop}
use Rattle.std.proofs.lemmas.List.Folds.{length-prefix_len}
use Rattle.std.proofs.lemmas.Option.{cond_some}
use Rattle.pytext.specs.Bytes.{is_separator, starts}
use Rattle.pyver_core.specs.Version.Grammar.{is_dot, IsOptionalSeparator, IsCount, IsNumber, IsWord, AreBehind, IsSegment}
use Rattle.pyver_core.specs.Version.Reading.{prepend_item, behind_at, many_up_to, many_at, after_separator, count_at, number_at, after_word, dotted_number_at, segment_of, segment_at, separated_segment_at, added_segment_at, dashed_number_at}
use Rattle.pyver_core.specs.declared.version.part.LocalPart.{LocalPart}
use Rattle.pytext.proofs.BytesLemmas.{list_all_prefix}
use Rattle.pytext.proofs.OptionsLemmas.{option_cases}
use Rattle.std.proofs.lemmas.Bool.{cases_Bool}

-- ---- white space and separators

-- the separator, and that none stands there where none was taken
pub separator_sound : (text : List ℕ) → (before : List ℕ) × (text ≡ before ++ after_separator text) × IsOptionalSeparator before × (before ≡ [] → starts is_separator text ≡ false)
separator_sound [] = ([], refl, (refl, omega arith), λ _. refl)
separator_sound (b ∷ rest) = elim (cases_Bool (is_separator b)) [
  | inl is ↦ (b ∷ [], rw is refl, (rw is refl, omega arith), λ e. absurd (let n : b ∷ [] ≡ [] = e in cc))
  | inr other ↦ ([], rw other refl, (refl, omega arith), λ _. other)
]

-- ---- numbers

pub count_sound : (text : List ℕ) → (digits : List ℕ) × (text ≡ digits ++ (count_at text).1) × IsCount digits (count_at text).0
count_sound text = (take (prefix_len is_ascii_digit text) text, sym (take-append-drop (prefix_len is_ascii_digit text) text), record { digits = list_all_prefix is_ascii_digit text; value = refl })

-- where the first byte passes, the prefix isn't empty
front_has : (test : ℕ → Bool) (text : List ℕ) → starts test text ≡ true → 1 ≤ length (take (prefix_len test text) text)
front_has test [] e = absurd (let n : false ≡ true = e in cc)
front_has test (b ∷ rest) e = rw (length-prefix_len test (b ∷ rest), e) (omega arith)

pub number_sound : (text : List ℕ) (x : ℕ × List ℕ) → number_at text ≡ Some x → (digits : List ℕ) × (text ≡ digits ++ x.1) × IsNumber digits x.0
unfolding count_sound
number_sound text x e =
    let c = cond_some (starts is_ascii_digit text) (count_at text) x e in
    let P : ℕ × List ℕ → Type 0 = λ y. (digits : List ℕ) × (text ≡ digits ++ y.1) × IsNumber digits y.0 in
    let t = count_sound text in
    subst P c.1 (t.0, t.1, (front_has is_ascii_digit text c.0, t.2))

-- ---- words

pub word_sound : (word text rest : List ℕ) → after_word word text ≡ Some rest → (written : List ℕ) × (text ≡ written ++ rest) × IsWord word written
word_sound word text rest e =
    let c = cond_some (bytes_eq (str_to_ascii_lowercase (take (length word) text)) word) (drop (length word) text) rest e in
    (take (length word) text, rw (← c.1) (sym (take-append-drop (length word) text)), (bytes_decides (str_to_ascii_lowercase (take (length word) text)) word).0 c.0)

-- ---- items after a byte

pub behind_sound : {X : Type 0} (opens : ℕ → Bool) (read : List ℕ → Option (X × List ℕ)) (text : List ℕ) (x : X × List ℕ) → behind_at opens read text ≡ Some x → (b : ℕ) × (rest : List ℕ) × (text ≡ b ∷ rest) × (opens b ≡ true) × (read rest ≡ Some x)
behind_sound opens read [] x e = absurd cc
behind_sound opens read (b ∷ rest) x e = elim (cases_Bool (opens b)) [
  | inl opened ↦ (b, rest, refl, opened, rw opened at e)
  | inr closed ↦ absurd (let n : None ≡ Some x = rw closed at e in cc)
]

-- what an item takes
abbrev pub IsSoundItem : {X : Type 0} → (List ℕ → X → Type 0) → (List ℕ → Option (X × List ℕ)) → Type 0
IsSoundItem {X} IsItem read = (text : List ℕ) (x : X × List ℕ) → read text ≡ Some x → (item : List ℕ) × (text ≡ item ++ x.1) × IsItem item x.0

-- what an item after a byte takes
abbrev pub IsSoundBehind : {X : Type 0} → (ℕ → Bool) → (List ℕ → X → Type 0) → (List ℕ → Option (X × List ℕ)) → Type 0
IsSoundBehind {X} opens IsItem read = (text : List ℕ) (x : X × List ℕ) → read text ≡ Some x → (b : ℕ) × (item : List ℕ) × (text ≡ b ∷ (item ++ x.1)) × (opens b ≡ true) × IsItem item x.0

pub behind_sound_item : {X : Type 0} (opens : ℕ → Bool) (IsItem : List ℕ → X → Type 0) (read : List ℕ → Option (X × List ℕ)) → IsSoundItem IsItem read → IsSoundBehind opens IsItem (behind_at opens read)
behind_sound_item opens IsItem read takes text x e =
    let b = behind_sound opens read text x e in
    let t = takes b.1 x b.4 in
    (b.0, t.0, b.2 ∙ ap (λ (r : List ℕ). b.0 ∷ r) t.1, b.3, t.2)

abbrev AllTaken : {X : Type 0} → (ℕ → Bool) → (List ℕ → X → Type 0) → List ℕ → List X × List ℕ → Type 0
AllTaken {X} opens IsItem text r = (piece : List ℕ) × (text ≡ piece ++ r.1) × AreBehind opens IsItem piece r.0

many_sound : {X : Type 0} (opens : ℕ → Bool) (IsItem : List ℕ → X → Type 0) (read : List ℕ → Option (X × List ℕ)) → IsSoundBehind opens IsItem read → (n : ℕ) (text : List ℕ) → AllTaken opens IsItem text (many_up_to read n text)
unfolding many_up_to
many_sound opens IsItem read takes zero text = ([], refl, refl)
many_sound {X} opens IsItem read takes (suc n) text = elim (option_cases (read text)) [
  | inl none ↦
      let step : ([], text) ≡ many_up_to read (suc n) text = rw none refl in
      subst (λ (r : List X × List ℕ). AllTaken opens IsItem text r) step ([], refl, refl)
  | inr some ↦
      let x = some.0 in
      let t = takes text x some.1 in
      let others = many_sound opens IsItem read takes n x.1 in
      let step : prepend_item x.0 (many_up_to read n x.1) ≡ many_up_to read (suc n) text = rw some.1 refl in
      let whole : text ≡ t.0 ∷ ((t.1 ++ others.0) ++ (many_up_to read n x.1).1) = t.2 ∙ ap (λ (r : List ℕ). t.0 ∷ r) (ap (λ (r : List ℕ). t.1 ++ r) others.1 ∙ sym (append_assoc t.1 others.0 (many_up_to read n x.1).1)) in
      subst (λ (r : List X × List ℕ). AllTaken opens IsItem text r) step (t.0 ∷ (t.1 ++ others.0), whole, (t.0, t.1, others.0, refl, t.3, t.4, others.2))
]

pub many_at_sound : {X : Type 0} (opens : ℕ → Bool) (IsItem : List ℕ → X → Type 0) (read : List ℕ → Option (X × List ℕ)) → IsSoundBehind opens IsItem read → (text : List ℕ) → (piece : List ℕ) × (text ≡ piece ++ (many_at read text).1) × AreBehind opens IsItem piece (many_at read text).0
unfolding many_at
many_at_sound opens IsItem read takes text = many_sound opens IsItem read takes (length text) text

pub dotted_sound : IsSoundBehind is_dot IsNumber dotted_number_at
unfolding dotted_number_at
dotted_sound = behind_sound_item is_dot IsNumber number_at number_sound

pub dashed_sound : IsSoundBehind (λ b. b == 45) IsNumber dashed_number_at
unfolding dashed_number_at
dashed_sound = behind_sound_item (λ b. b == 45) IsNumber number_at number_sound

-- ---- segments

segment_of_is : (run : List ℕ) → 1 ≤ length run → list_all is_ascii_alphanumeric run ≡ true → IsSegment run (segment_of run)
segment_of_is run has all = elim (cases_Bool (list_all is_ascii_digit run)) [
  | inl digits ↦ rw digits (has, record { digits = digits; value = refl })
  | inr other ↦ rw other (all, other, refl)
]

pub segment_sound : IsSoundItem IsSegment segment_at
unfolding segment_at
segment_sound text x e =
    let n = prefix_len is_ascii_alphanumeric text in
    let c = cond_some (starts is_ascii_alphanumeric text) (segment_of (take n text), drop n text) x e in
    let P : LocalPart × List ℕ → Type 0 = λ y. (item : List ℕ) × (text ≡ item ++ y.1) × IsSegment item y.0 in
    subst P c.1 (take n text, sym (take-append-drop n text), segment_of_is (take n text) (front_has is_ascii_alphanumeric text c.0) (list_all_prefix is_ascii_alphanumeric text))

pub separated_sound : IsSoundBehind is_separator IsSegment separated_segment_at
unfolding separated_segment_at
separated_sound = behind_sound_item is_separator IsSegment segment_at segment_sound

pub added_sound : IsSoundBehind (λ b. b == 43) IsSegment added_segment_at
unfolding added_segment_at
added_sound = behind_sound_item (λ b. b == 43) IsSegment segment_at segment_sound
