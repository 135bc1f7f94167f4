-- What is read as a target is what the relation says, and the other way round; a refusal is of the
-- first text that names nothing.
use Rattle.std.proofs.Common.{◌≡◌, ℕ, List, Option, Some, None, Result, Ok, Err, ok_or, refl, sym, ap, ◌∙◌, ◌↔◌, inl, inr}
use Rattle.pytext.proofs.OptionsLemmas.{option_cases}
use Rattle.pytext.specs.Results.{◌>>=◌}
use Rattle.pywheel_core.proofs.Lemmas.Target.PlatformText.{platform_made, platform_says}
use Rattle.pywheel_core.proofs.Lemmas.Target.PythonText.{python_made, python_says}
use Rattle.pywheel_core.specs.Target.Grammar.{IsPlatform, IsPython, TargetText}
use Rattle.pywheel_core.specs.Target.Reading.{platform_of, python_of, target_of}
use Rattle.pywheel_core.specs.Target.Value.{TargetValue}
use Rattle.pywheel_core.specs.declared.error.TargetError.{TargetError}
use Rattle.pywheel_core.specs.declared.error.TargetError.TheVariants as refused
use Rattle.pywheel_core.specs.declared.target.cpython.CPython.{CPython}
use Rattle.pywheel_core.specs.declared.target.platform.Platform.{Platform}

-- ---- what two options give

abbrev both : Option CPython → Option Platform → Result TargetValue TargetError
both p q = ok_or p refused.Python >>= λ release. ok_or q refused.Platform >>= λ place. Ok (record { python = release; platform = place })

both_ok : (p : Option CPython) (q : Option Platform) (t : TargetValue) → both p q ≡ Ok t → (p ≡ Some t.python) × (q ≡ Some t.platform)
both_ok None q t h = absurd cc
both_ok (Some x) None t h = absurd cc
both_ok (Some x) (Some y) t h =
    let made : TargetValue = record { python = x; platform = y } in
    let is : made ≡ t = cc in (ap (λ (u : TargetValue). Some u.python) is, ap (λ (u : TargetValue). Some u.platform) is)

no_first : (p : Option CPython) (q : Option Platform) → both p q ≡ Err refused.Python → p ≡ None
no_first None q h = refl
no_first (Some x) None h = absurd cc
no_first (Some x) (Some y) h = absurd cc

no_second : (p : Option CPython) (q : Option Platform) → both p q ≡ Err refused.Platform → ((x : CPython) × (p ≡ Some x)) × (q ≡ None)
no_second None q h = absurd cc
no_second (Some x) None h = ((x, refl), refl)
no_second (Some x) (Some y) h = absurd cc

-- ---- a target

pub target_says : (python place : List ℕ) (t : TargetValue) → target_of python place ≡ Ok t → TargetText python place t
unfolding target_of
target_says python place t h =
    let x = both_ok (python_of python) (platform_of place) t h in
    (python_says python t.python x.0, platform_says place t.platform x.1)

pub target_made : (python place : List ℕ) (t : TargetValue) → TargetText python place t → target_of python place ≡ Ok t
unfolding target_of
target_made python place t x = λ i. both (python_made python t.python x.0 i) (platform_made place t.platform x.1 i)

-- ---- a refusal

python_none : (text : List ℕ) → (IsPython text → ⊥) → python_of text ≡ None
python_none text none = elim (option_cases (python_of text)) [
  | inl e ↦ e
  | inr e ↦ absurd (none (e.0, python_says text e.0 e.1))
]

platform_none : (text : List ℕ) → (IsPlatform text → ⊥) → platform_of text ≡ None
platform_none text none = elim (option_cases (platform_of text)) [
  | inl e ↦ e
  | inr e ↦ absurd (none (e.0, platform_says text e.0 e.1))
]

no_python : (text : List ℕ) → python_of text ≡ None → IsPython text → ⊥
no_python text none x = let read = python_made text x.0 x.1 in let bad : None ≡ Some x.0 = sym none ∙ read in cc

no_platform : (text : List ℕ) → platform_of text ≡ None → IsPlatform text → ⊥
no_platform text none x = let read = platform_made text x.0 x.1 in let bad : None ≡ Some x.0 = sym none ∙ read in cc

pub python_refused : (python place : List ℕ) → (target_of python place ≡ Err refused.Python) ↔ (IsPython python → ⊥)
unfolding target_of
python_refused python place = (
  λ h. no_python python (no_first (python_of python) (platform_of place) h),
  λ none. ap (λ o. both o (platform_of place)) (python_none python none),
)

pub platform_refused : (python place : List ℕ) → (target_of python place ≡ Err refused.Platform) ↔ (IsPython python × (IsPlatform place → ⊥))
unfolding target_of
platform_refused python place = (
  λ h.
      let x = no_second (python_of python) (platform_of place) h in
      ((x.0.0, python_says python x.0.0 x.0.1), no_platform place x.1),
  λ x. λ i. both (python_made python x.0.0 x.0.1 i) (platform_none place x.1 i),
)
