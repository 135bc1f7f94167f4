-- Texts cut at the last byte of a kind: what std's words say, in the words of `cut_at_last`.
use Rattle.std.proofs.Common.{◌≡◌, ℕ, true, ◌==◌, List, [], ◌∷◌, ◌++◌, get_or, take, drop, Option, Some, None, option_map, MatchOption, Bor, refl, sym, ap, ◌∙◌, inl, inr, lit<}
use Rattle.std.proofs.lemmas.Bool.{cases_Bool, ne_eqb, or_parts}
use Rattle.std.proofs.lemmas.Bool.Decides.{Decides-eqb}
use Rattle.std.proofs.lemmas.Grind.{get_or_default_zero}
use Rattle.std.proofs.lemmas.List.{take-append-drop}
use Rattle.std.proofs.lemmas.List.Folds.{list_any_none}
use Rattle.std.proofs.lemmas.Option.{same_Some}
use Rattle.std.proofs.lemmas.Str.Pattern.{NoCharPasses-char, drop_at_char}
use Rattle.std.specs.List.{list_any}
use Rattle.std.specs.Str.{NoCharPasses}
use Rattle.std.specs.Str.Pattern.{RFindsChar, SplitsAroundMatch}
use Rattle.pytext.proofs.OptionsLemmas.{option_cases}
use Rattle.pywheel_core.specs.Texts.{cut_at_last}
use Rattle.pywheel_core.proofs.Lemmas.Texts.Cuts.{Lacks}

-- ---- what a cut says of the text, and the other way round

pub last_cut_lacking : (c : ℕ) (y : List ℕ) → Lacks c y → cut_at_last c y ≡ None
last_cut_lacking c [] h = refl
last_cut_lacking c (b ∷ y) h =
    let both = or_parts (b == c) (list_any (λ d. d == c) y) h in
    rw (last_cut_lacking c y both.1, both.0) refl

pub last_cut_joined : (c : ℕ) (x y : List ℕ) → Lacks c y → cut_at_last c (x ++ (c ∷ y)) ≡ Some (x, y)
last_cut_joined c [] y h = let e : (c == c) ≡ true = (Decides-eqb c c).1 refl in rw (last_cut_lacking c y h, e) refl
last_cut_joined c (b ∷ x) y h = rw (last_cut_joined c x y h) refl

no_last_cut : (c : ℕ) (s : List ℕ) → cut_at_last c s ≡ None → Lacks c s
no_last_cut c [] h = refl
no_last_cut c (b ∷ s) h = elim (option_cases (cut_at_last c s)) [
  | inl none ↦ elim (cases_Bool (b == c)) [
    | inl e ↦ absurd (let q : Some ([], s) ≡ None = rw (none, e) at h in cc)
    | inr e ↦ rw e (no_last_cut c s none)
  ]
  | inr some ↦ absurd (let q : Some (b ∷ some.0.0, some.0.1) ≡ None = rw some.1 at h in cc)
]

pub last_cut_says : (c : ℕ) (s x y : List ℕ) → cut_at_last c s ≡ Some (x, y) → (s ≡ x ++ (c ∷ y)) × Lacks c y
last_cut_says c [] x y h = absurd cc
last_cut_says c (b ∷ s) x y h = elim (option_cases (cut_at_last c s)) [
  | inl none ↦ elim (cases_Bool (b == c)) [
    | inl e ↦
        let p : ([], s) ≡ (x, y) = same_Some ([], s) (x, y) (rw (none, e) at h) in
        let front : [] ≡ x = ap (λ r. r.0) p in let back : s ≡ y = ap (λ r. r.1) p in
        ((λ i. front i ++ ((Decides-eqb b c).0 e i ∷ back i)), ap (list_any (λ d. d == c)) (sym back) ∙ no_last_cut c s none)
    | inr e ↦ absurd (let q : None ≡ Some (x, y) = rw (none, e) at h in cc)
  ]
  | inr some ↦
      let p : (b ∷ some.0.0, some.0.1) ≡ (x, y) = same_Some (b ∷ some.0.0, some.0.1) (x, y) (rw some.1 at h) in
      let front : b ∷ some.0.0 ≡ x = ap (λ r. r.0) p in let back : some.0.1 ≡ y = ap (λ r. r.1) p in
      let rest = last_cut_says c s some.0.0 some.0.1 some.1 in
      (ap (λ l. b ∷ l) rest.0 ∙ (λ i. front i ++ (c ∷ back i)), ap (list_any (λ d. d == c)) (sym back) ∙ rest.1)
]

-- ---- what `rsplit_once` answers at `-`

undashed_lacks : (s : List ℕ) → NoCharPasses (λ d. d == 45) s → Lacks 45 s
undashed_lacks s h = list_any_none (λ b. b == 45) s (λ k d l.
    ne_eqb (get_or s k d) 45 (λ e. NoCharPasses-char 45 s k h (lit< tt) l (sym (get_or_default_zero s k d l) ∙ e)))

pub last_cut_is : (s : List ℕ) (r : Option (Bor (List ℕ) × Bor (List ℕ)))
    → MatchOption r (RFindsChar 45 s None) (λ x. SplitsAroundMatch (RFindsChar 45) s x.0.now x.1.now)
    → option_map (λ x. (x.0.now, x.1.now)) r ≡ cut_at_last 45 s
last_cut_is s None h = sym (last_cut_lacking 45 s (undashed_lacks s h))
last_cut_is s (Some x) h =
    let i = h.0 in let j = h.1 in
    let lacks = undashed_lacks (drop j s) h.2.0 in
    let at : drop i s ≡ 45 ∷ drop j s = drop_at_char 45 s i j h.2.1 (lit< tt) in
    let whole : s ≡ take i s ++ (45 ∷ drop j s) = sym (take-append-drop i s) ∙ ap (λ l. take i s ++ l) at in
    (λ k. Some (h.3 k, h.4 k)) ∙ sym (ap (cut_at_last 45) whole ∙ last_cut_joined 45 (take i s) (drop j s) lacks)
