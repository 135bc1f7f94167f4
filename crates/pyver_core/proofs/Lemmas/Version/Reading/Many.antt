-- Reading one item after the other, without the bound that the definition counts down.
use Rattle.std.proofs.Common.{◌≡◌, ℕ, zero, suc, ◌<◌, ◌≤◌, Bool, List, [], ◌∷◌, length, Option, Some, None, refl, sym, ap, arith, inl, inr}
use Rattle.std.specs.Char.{is_ascii_digit, is_ascii_alphanumeric}
use Rattle.std.specs.List.{prefix_len}
use Rattle.std.proofs.lemmas.List.{length-drop}
use Rattle.std.proofs.lemmas.Option.{cond_some}
use Rattle.pytext.specs.Bytes.{is_separator, starts}
use Rattle.pyver_core.specs.Version.Grammar.{is_dot}
use Rattle.pyver_core.specs.Version.Reading.{prepend_item, behind_at, many_up_to, many_at, count_at, number_at, dotted_number_at, segment_at, separated_segment_at}
use Rattle.pyver_core.specs.declared.version.part.LocalPart.{LocalPart}
use Rattle.pytext.proofs.OptionsLemmas.{option_cases}
use Rattle.std.proofs.lemmas.Bool.{cases_Bool}

-- a reader leaves no more than it was given, or less
abbrev pub Keeps : {X : Type 0} → (List ℕ → Option (X × List ℕ)) → Type 0
Keeps {X} read = (text : List ℕ) (x : X × List ℕ) → read text ≡ Some x → length x.1 ≤ length text

abbrev pub Shrinks : {X : Type 0} → (List ℕ → Option (X × List ℕ)) → Type 0
Shrinks {X} read = (text : List ℕ) (x : X × List ℕ) → read text ≡ Some x → length x.1 < length text

pub behind_shrinks : {X : Type 0} (opens : ℕ → Bool) (read : List ℕ → Option (X × List ℕ)) → Keeps read → Shrinks (behind_at opens read)
behind_shrinks opens read keeps [] x e = absurd cc
behind_shrinks opens read keeps (b ∷ rest) x e = elim (cases_Bool (opens b)) [
  | inl opened ↦ let kept : length x.1 ≤ length rest = keeps rest x (rw opened at e) in omega arith
  | inr closed ↦ absurd (let n : None ≡ Some x = rw closed at e in cc)
]

number_keeps : Keeps number_at
number_keeps text x e =
    let c = cond_some (starts is_ascii_digit text) (count_at text) x e in
    rw (← c.1) (omega (arith, length-drop (prefix_len is_ascii_digit text) text))

pub dotted_shrinks : Shrinks dotted_number_at
unfolding dotted_number_at
dotted_shrinks = behind_shrinks is_dot number_at number_keeps

segment_keeps : Keeps segment_at
unfolding segment_at
segment_keeps text x e =
    let c = cond_some (starts is_ascii_alphanumeric text) _ x e in
    rw (← c.1) (omega (arith, length-drop (prefix_len is_ascii_alphanumeric text) text))

pub separated_shrinks : Shrinks separated_segment_at
unfolding separated_segment_at
separated_shrinks = behind_shrinks is_separator segment_at segment_keeps

-- a bound that is large enough is as good as any other
many_up_to-fuel : {X : Type 0} (read : List ℕ → Option (X × List ℕ)) → Shrinks read → (n m : ℕ) (text : List ℕ) → length text ≤ n → length text ≤ m → many_up_to read n text ≡ many_up_to read m text
unfolding many_up_to
many_up_to-fuel read shrinks zero zero text h k = refl
many_up_to-fuel read shrinks zero (suc m) text h k = elim (option_cases (read text)) [
  | inl none ↦ rw none refl
  | inr some ↦ absurd (omega (arith, shrinks text some.0 some.1))
]
many_up_to-fuel read shrinks (suc n) zero text h k = elim (option_cases (read text)) [
  | inl none ↦ rw none refl
  | inr some ↦ absurd (omega (arith, shrinks text some.0 some.1))
]
many_up_to-fuel read shrinks (suc n) (suc m) text h k = elim (option_cases (read text)) [
  | inl none ↦ rw none refl
  | inr some ↦
      let less : length some.0.1 < length text = shrinks text some.0 some.1 in
      rw some.1 (ap (λ r. prepend_item some.0.0 r) (many_up_to-fuel read shrinks n m some.0.1 (omega arith) (omega arith)))
]

-- nothing can be read
pub many_at-none : {X : Type 0} (read : List ℕ → Option (X × List ℕ)) (text : List ℕ) → read text ≡ None → many_at read text ≡ ([], text)
unfolding many_up_to many_at
many_at-none read [] e = refl
many_at-none read (b ∷ text) e = rw e refl

-- one item is read, and then the others
pub many_at-some : {X : Type 0} (read : List ℕ → Option (X × List ℕ)) → Shrinks read → (text : List ℕ) (x : X × List ℕ) → read text ≡ Some x → many_at read text ≡ prepend_item x.0 (many_at read x.1)
unfolding many_up_to many_at
many_at-some read shrinks [] x e = absurd (omega (arith, shrinks [] x e))
many_at-some read shrinks (b ∷ text) x e =
    let less : length x.1 < length (b ∷ text) = shrinks (b ∷ text) x e in
    rw e (ap (λ r. prepend_item x.0 r) (many_up_to-fuel read shrinks (length text) (length x.1) x.1 (omega arith) (omega arith)))

-- ---- the text behind the items

behind_one : {X : Type 0} (read : List ℕ → Option (X × List ℕ)) → Shrinks read → (text : List ℕ) (x : X) (rest : List ℕ) → Some (x, rest) ≡ read text
    → ((many_at read rest).1 ≡ (many_at read text).1) × (length rest < length text)
behind_one {X} read shrinks text x rest e =
    (sym (ap (λ (r : List X × List ℕ). r.1) (many_at-some read shrinks text (x, rest) (sym e))), shrinks text (x, rest) (sym e))

behind_all : {X : Type 0} (read : List ℕ → Option (X × List ℕ)) (text : List ℕ) → None ≡ read text → text ≡ (many_at read text).1
behind_all {X} read text e = sym (ap (λ (r : List X × List ℕ). r.1) (many_at-none read text (sym e)))

pub behind_dotted : (text : List ℕ) (n : ℕ) (rest : List ℕ) → Some (n, rest) ≡ dotted_number_at text
    → ((many_at dotted_number_at rest).1 ≡ (many_at dotted_number_at text).1) × (length rest < length text)
behind_dotted = behind_one dotted_number_at dotted_shrinks

pub behind_all_dotted : (text : List ℕ) → None ≡ dotted_number_at text → text ≡ (many_at dotted_number_at text).1
behind_all_dotted = behind_all dotted_number_at

pub behind_separated : (text : List ℕ) (s : LocalPart) (rest : List ℕ) → Some (s, rest) ≡ separated_segment_at text
    → ((many_at separated_segment_at rest).1 ≡ (many_at separated_segment_at text).1) × (length rest < length text)
behind_separated = behind_one separated_segment_at separated_shrinks

pub behind_all_separated : (text : List ℕ) → None ≡ separated_segment_at text → text ≡ (many_at separated_segment_at text).1
behind_all_separated = behind_all separated_segment_at

pub ruleset dotted = (behind_dotted, behind_all_dotted)

pub ruleset separated = (behind_separated, behind_all_separated)
