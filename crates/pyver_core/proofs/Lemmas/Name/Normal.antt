-- A name of lower-case letters, digits and single `-` is its own normal form, and so is a normal
-- form.
use Rattle.std.proofs.Common.{◌≡◌, ℕ, Bool, true, false, cond, ◌==◌, ◌&&◌, ◌||◌, not, List, [], ◌∷◌, refl, sym, ap, ◌∙◌, inl, inr, arith}
use Rattle.std.specs.Char.{to_ascii_lowercase}
use Rattle.std.proofs.lemmas.Bool.Decides.{nat_tests}
use Rattle.std.proofs.lemmas.Str.Ascii.{lowercase-lowercase}
use Rattle.pyver_core.specs.Name.{normal_name}
use Rattle.pyver_core.proofs.Lemmas.Name.Collapse.{collapse, normal_name-collapse}
use Rattle.pytext.specs.Bytes.{is_separator, starts}
use Rattle.std.proofs.lemmas.Bool.{cases_Bool}
use Rattle.pyver_core.specs.Inner.Names.{is_normal_rest, is_normal_byte}

normal_byte-other : (b : ℕ) → is_normal_byte b ≡ true → (b == 45) ≡ false → is_separator b ≡ false
normal_byte-other b normal other = grind (arith, nat_tests)

normal_byte-lowercase : (b : ℕ) → is_normal_byte b ≡ true → to_ascii_lowercase b ≡ b
normal_byte-lowercase b normal = grind (arith, nat_tests)

dash_is : (b : ℕ) → (b == 45) ≡ true → b ≡ 45
dash_is b is = grind (arith, nat_tests)

goes_on_parts : (after is normal goes : Bool) → cond ((after && is) || not normal) false goes ≡ true
    → ((after && is) ≡ false) × (normal ≡ true) × (goes ≡ true)
goes_on_parts true false true goes e = (refl, refl, e)
goes_on_parts false is true goes e = (refl, refl, e)
goes_on_parts after is normal goes e = absurd cc

not_both : (after is : Bool) → (after && is) ≡ false → after ≡ true → is ≡ false
not_both true is e f = e
not_both false is e f = absurd cc

normal_rest-parts : (after : Bool) (bs : List ℕ) → is_normal_rest after bs ≡ true
    → (normal_name bs ≡ bs) × (after ≡ true → starts is_separator bs ≡ false)
unfolding normal_name
normal_rest-parts after [] e = (refl, λ _. refl)
normal_rest-parts after (b ∷ bs) e =
    let p = goes_on_parts after (b == 45) (is_normal_byte b) (is_normal_rest (b == 45) bs) e in
    let rest = normal_rest-parts (b == 45) bs p.2 in
    elim (cases_Bool (b == 45)) [
      | inl is ↦
          let same = dash_is b is in
          (rw (same, rest.1 is, rest.0) refl, λ f. let no : false ≡ true = sym (not_both after (b == 45) p.0 f) ∙ is in absurd cc)
      | inr other ↦ (rw (normal_byte-other b p.1 other, normal_byte-lowercase b p.1, rest.0) refl, λ f. normal_byte-other b p.1 other)
    ]

pub normal_stays : (bs : List ℕ) → is_normal_rest false bs ≡ true → normal_name bs ≡ bs
normal_stays bs e = (normal_rest-parts false bs e).0

lowercase-other : (b : ℕ) → is_separator b ≡ false → is_separator (to_ascii_lowercase b) ≡ false
lowercase-other b other = grind (arith, nat_tests)

collapse-collapse : (in_run : Bool) (text : List ℕ) → collapse in_run (collapse in_run text) ≡ collapse in_run text
unfolding collapse
collapse-collapse true [] = refl
collapse-collapse false [] = refl
collapse-collapse true (b ∷ rest) = elim (cases_Bool (is_separator b)) [
  | inl separates ↦ rw separates (collapse-collapse true rest)
  | inr other ↦ rw (other, lowercase-other b other, lowercase-lowercase b) (ap (λ (name : List ℕ). to_ascii_lowercase b ∷ name) (collapse-collapse false rest))
]
collapse-collapse false (b ∷ rest) = elim (cases_Bool (is_separator b)) [
  | inl separates ↦ rw separates (ap (λ (name : List ℕ). 45 ∷ name) (collapse-collapse true rest))
  | inr other ↦ rw (other, lowercase-other b other, lowercase-lowercase b) (ap (λ (name : List ℕ). to_ascii_lowercase b ∷ name) (collapse-collapse false rest))
]

pub normal_name-normal_name : (text : List ℕ) → normal_name (normal_name text) ≡ normal_name text
normal_name-normal_name text = rw (normal_name-collapse text) (normal_name-collapse (collapse false text) ∙ collapse-collapse false text)

-- what a name is made to is in normal form
pub normal_made : (made text : List ℕ) → made ≡ normal_name text → normal_name made ≡ made
normal_made made text is = ap normal_name is ∙ normal_name-normal_name text ∙ sym is
