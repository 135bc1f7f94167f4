-- What is read as PYTHON is what the relation says, and the other way round.
use Rattle.std.proofs.Common.{◌≡◌, ℕ, ◌<◌, Bool, true, false, ◌==◌, nat_le, bytes_eq, if◌then◌else◌, List, [], ◌∷◌, ◌++◌, codes, decimal, Option, Some, None, refl, sym, subst, ap, ◌∙◌, ◌⊎◌, inl, inr, arith}
use Rattle.std.proofs.lemmas.Bool.Decides.{nat_tests}
use Rattle.std.proofs.lemmas.Bool.{and_parts, cases_Bool, or_parts}
use Rattle.std.proofs.lemmas.List.{append-nil}
use Rattle.std.proofs.lemmas.List.Folds.{list_any-append}
use Rattle.std.proofs.lemmas.Option.{cond_some, same_Some}
use Rattle.std.specs.Cmp.Lexicographic.{bytes_decides}
use Rattle.std.specs.List.{list_any}
use Rattle.pytext.proofs.OptionsLemmas.{bind_some, option_cases}
use Rattle.pytext.specs.Options.{◌>>=◌}
use Rattle.pywheel_core.proofs.Lemmas.Target.Numbers.{decimal_lacks, number_made, number_says}
use Rattle.pywheel_core.proofs.Lemmas.Texts.Cuts.{Lacks, cut_joined, cut_lacking, cut_says, ending_joined, ending_says}
use Rattle.pywheel_core.specs.Target.Grammar.{IsRelease, PythonText}
use Rattle.pywheel_core.specs.Target.Reading.{minor_and_micro, number_below, numbers_in, python_in, python_of, python_with, release_of}
use Rattle.pywheel_core.specs.Target.Value.{is_cpython}
use Rattle.pywheel_core.specs.Texts.{before_ending, cut_at}
use Rattle.pywheel_core.specs.declared.target.cpython.CPython.{CPython}

-- `MINOR`, where micro is 0, or `MINOR.MICRO`
abbrev AreNumbers : ℕ → ℕ → List ℕ → Type 0
AreNumbers minor micro text = ((micro ≡ 0) × (text ≡ decimal minor)) ⊎ (text ≡ decimal minor ++ (46 ∷ decimal micro))

-- ---- what is read, the text says

numbers_say : (text : List ℕ) (cut : Option (List ℕ × List ℕ)) (x : ℕ × ℕ) → cut_at 46 text ≡ cut → numbers_in text cut ≡ Some x → AreNumbers x.0 x.1 text
numbers_say text None x e h =
    let n = bind_some (number_below 100 text) (λ minor. Some (minor, 0)) x h in
    let is : (n.0, 0) ≡ x = same_Some (n.0, 0) x n.2 in
    subst (λ y. AreNumbers y.0 y.1 text) is (inl (refl, number_says 100 text n.0 (omega arith) n.1))
numbers_say text (Some parts) x e h =
    let n = bind_some (number_below 100 parts.0) (λ minor. number_below 1000 parts.1 >>= λ micro. Some (minor, micro)) x h in
    let m = bind_some (number_below 1000 parts.1) (λ micro. Some (n.0, micro)) x n.2 in
    let is : (n.0, m.0) ≡ x = same_Some (n.0, m.0) x m.2 in
    let minor = number_says 100 parts.0 n.0 (omega arith) n.1 in
    let micro = number_says 1000 parts.1 m.0 (omega arith) m.1 in
    subst (λ y. AreNumbers y.0 y.1 text) is (inr ((cut_says 46 text parts.0 parts.1 e).0 ∙ (λ i. minor i ++ (46 ∷ micro i))))

chosen : {A : Type 0} (test : Bool) (o : Option A) (y : A) → (if test then o else None) ≡ Some y → (test ≡ true) × (o ≡ Some y)
chosen true o y h = (refl, h)
chosen false o y h = absurd cc

release_says : (text : List ℕ) (x : ℕ × ℕ) → release_of text ≡ Some x → IsRelease x.0 x.1 text
unfolding release_of minor_and_micro
release_says text x h =
    let y = bind_some (cut_at 46 text) (λ parts. if bytes_eq parts.0 (codes "3") then minor_and_micro parts.1 else None) x h in
    let k = chosen (bytes_eq y.0.0 (codes "3")) (minor_and_micro y.0.1) x y.2 in
    let lead : text ≡ codes "3." ++ y.0.1 =
    (cut_says 46 text y.0.0 y.0.1 y.1).0 ∙ ap (λ t. t ++ (46 ∷ y.0.1)) ((bytes_decides y.0.0 (codes "3")).0 k.0) in
    elim (numbers_say y.0.1 (cut_at 46 y.0.1) x refl k.1) [
      | inl n ↦ inl (n.0, lead ∙ ap (λ t. codes "3." ++ t) n.1)
      | inr n ↦ inr (lead ∙ ap (λ t. codes "3." ++ t) n)
    ]

-- what a release without its `t` says
abbrev Says : Bool → List ℕ → CPython → Type 0
Says free text p = IsRelease p.minor p.micro text × (p.is_free_threaded ≡ free) × (is_cpython p ≡ true)

with_says : (free : Bool) (text : List ℕ) (p : CPython) → python_with free text ≡ Some p → Says free text p
unfolding python_with
with_says free text p h = elim (option_cases (release_of text)) [
  | inl none ↦ absurd (let z : None ≡ Some p = rw none at h in cc)
  | inr f ↦
      let made : CPython = record { minor = f.0.0; micro = f.0.1; is_free_threaded = free } in
      let h2 = rw f.1 at h in
      let k = cond_some (is_cpython made) made p h2 in
      let it : Says free text made = (release_says text f.0 f.1, refl, k.0) in
      subst (Says free text) k.1 it
]

in_says : (text : List ℕ) (cut : Option (List ℕ)) (p : CPython) → before_ending (codes "t") text ≡ cut → python_in text cut ≡ Some p → PythonText text p
in_says text None p e h =
    let w = with_says false text p h in record {
      release = text;
      is_release = w.0;
      whole = sym (append-nil text) ∙ ap (λ (b : Bool). text ++ (if b then codes "t" else [])) (sym w.1);
      known = w.2;
    }
in_says text (Some release) p e h =
    let w = with_says true release p h in record {
      release = release;
      is_release = w.0;
      whole = ending_says (codes "t") text release e ∙ ap (λ (b : Bool). release ++ (if b then codes "t" else [])) (sym w.1);
      known = w.2;
    }

pub python_says : (text : List ℕ) (p : CPython) → python_of text ≡ Some p → PythonText text p
unfolding python_of
python_says text p h = in_says text (before_ending (codes "t") text) p refl h

-- ---- and the other way round

numbers_made : (minor micro : ℕ) (text : List ℕ) → minor < 100 → micro < 1000 → AreNumbers minor micro text → minor_and_micro text ≡ Some (minor, micro)
unfolding minor_and_micro
numbers_made minor micro text few small (inl is) =
    let whole = ap (cut_at 46) is.1 ∙ cut_lacking 46 (decimal minor) (decimal_lacks 46 minor refl (omega arith)) in
    let read = ap (number_below 100) is.1 ∙ number_made 100 minor (omega arith) few in
    ap (numbers_in text) whole ∙ ap (λ o. o >>= λ n. Some (n, 0)) read ∙ (λ i. Some (minor, sym is.0 i))
numbers_made minor micro text few small (inr is) =
    let cut = ap (cut_at 46) is ∙ cut_joined 46 (decimal minor) (decimal micro) (decimal_lacks 46 minor refl (omega arith)) in
    ap (numbers_in text) cut
    ∙ ap (λ o. o >>= λ n. number_below 1000 (decimal micro) >>= λ m. Some (n, m)) (number_made 100 minor (omega arith) few)
    ∙ ap (λ o. o >>= λ m. Some (minor, m)) (number_made 1000 micro (omega arith) small)

release_made : (minor micro : ℕ) (text : List ℕ) → minor < 100 → micro < 1000 → IsRelease minor micro text → release_of text ≡ Some (minor, micro)
unfolding release_of
release_made minor micro text few small (inl is) = ap release_of is.1 ∙ numbers_made minor micro (decimal minor) few small (inl (is.0, refl))
release_made minor micro text few small (inr is) = ap release_of is ∙ numbers_made minor micro (decimal minor ++ (46 ∷ decimal micro)) few small (inr refl)

python_fits : (p : CPython) → is_cpython p ≡ true → (p.minor < 100) × (p.micro < 1000)
python_fits p h =
    let x = and_parts (nat_le 8 p.minor) _ h in
    let y = and_parts (nat_le p.minor 99) _ x.1 in
    let z = and_parts (nat_le p.micro 999) _ y.1 in
    let a = y.0 in let b = z.0 in (grind (arith, nat_tests), grind (arith, nat_tests))

with_made : (text : List ℕ) (p : CPython) → is_cpython p ≡ true → IsRelease p.minor p.micro text → python_with p.is_free_threaded text ≡ Some p
unfolding python_with
with_made text p known h =
    let fits = python_fits p known in
    let read = release_made p.minor p.micro text fits.0 fits.1 h in
    rw (read, known) refl

-- no `t` stands in a release
release_lacks : (minor micro : ℕ) (text : List ℕ) → minor < 100 → micro < 1000 → IsRelease minor micro text → Lacks 116 text
release_lacks minor micro text few small (inl is) = subst (Lacks 116) (sym is.1) (decimal_lacks 116 minor refl (omega arith))
release_lacks minor micro text few small (inr is) =
    let front = decimal_lacks 116 minor refl (omega arith) in
    let back = decimal_lacks 116 micro refl (omega arith) in
    subst (Lacks 116) (sym is) (list_any-append (λ b. b == 116) (decimal minor) (46 ∷ decimal micro) ∙ rw (front, back) refl)

no_ending : (text : List ℕ) → Lacks 116 text → before_ending (codes "t") text ≡ None
no_ending text h = elim (option_cases (before_ending (codes "t") text)) [
  | inl none ↦ none
  | inr some ↦
      let there = subst (Lacks 116) (ending_says (codes "t") text some.0 some.1) h in
      let last = or_parts (list_any (λ b. b == 116) some.0) true (sym (list_any-append (λ b. b == 116) some.0 (codes "t")) ∙ there) in
      absurd (let bad : true ≡ false = last.1 in cc)
]

pub python_made : (text : List ℕ) (p : CPython) → PythonText text p → python_of text ≡ Some p
unfolding python_of
python_made text p x =
    let release = x.release in
    let end : Bool → List ℕ = λ b. release ++ (if b then codes "t" else []) in
    let made = with_made release p x.known x.is_release in
    elim (cases_Bool p.is_free_threaded) [
      | inl free ↦
          let whole : text ≡ release ++ codes "t" = x.whole ∙ ap end free in
          let cut = ap (before_ending (codes "t")) whole ∙ ending_joined (codes "t") release in
          ap (python_in text) cut ∙ ap (λ b. python_with b release) (sym free) ∙ made
      | inr bound ↦
          let whole : text ≡ release = x.whole ∙ ap end bound ∙ append-nil release in
          let fits = python_fits p x.known in
          let cut = ap (before_ending (codes "t")) whole ∙ no_ending release (release_lacks p.minor p.micro release fits.0 fits.1 x.is_release) in
          ap (python_in text) cut ∙ (λ i. python_with (sym bound i) (whole i)) ∙ made
    ]
