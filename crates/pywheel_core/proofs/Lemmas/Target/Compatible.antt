-- The tags of a target are those that are compatible.
use Rattle.std.proofs.Common.{◌≡◌, ℕ, ◌<◌, ◌≤◌, Bool, true, false, nat_lt, List, [], ◌∷◌, ◌++◌, codes, map, refl, sym, subst, ap, ◌∙◌, ◌⊎◌, ◌↔◌, inl, inr, arith}
use Rattle.std.proofs.lemmas.Bool.Decides.{nat_tests}
use Rattle.std.proofs.lemmas.Bool.{cases_Bool}
use Rattle.pywheel_core.proofs.Lemmas.Target.Distinct.{own_letter, stable_letter}
use Rattle.pywheel_core.proofs.Lemmas.Target.Names.{differ}
use Rattle.pywheel_core.proofs.Lemmas.Target.Once.{IsTriple, among_in, down_in, in_among, in_append, in_down, in_left, in_map, in_right, in_triples, map_in, triples_in}
use Rattle.pywheel_core.proofs.Lemmas.Target.Parts.{least_minor}
use Rattle.pywheel_core.proofs.Lemmas.Target.Platforms.{one_of_one, runs_in, runs_of}
use Rattle.pywheel_core.proofs.TargetLemmas.{platform_there}
use Rattle.pywheel_core.specs.Tag.{TagValue, is_among, triples}
use Rattle.pywheel_core.specs.Target.Compatible.{IsCompatible, IsOneOf, IsPair, IsPurePython, IsStable, RunsOn}
use Rattle.pywheel_core.specs.Target.Platforms.{down, platforms_of}
use Rattle.pywheel_core.specs.Target.Tags.{any_platform, cpython_name, no_abi, older_cpythons, own_abi, python_name, pythons_3, stable_abi, target_tags}
use Rattle.pywheel_core.specs.Target.Value.{TargetValue, is_target}
use Rattle.pywheel_core.specs.declared.target.cpython.CPython.{CPython}

-- ---- Pythons without ABI

pure_of : (minor : ℕ) (w : List ℕ) → IsOneOf w (pythons_3 minor) → IsPurePython minor w
pure_of minor w (inl e) = inr (inr (minor, omega arith, e))
pure_of minor w (inr (inl e)) = inr (inl e)
pure_of minor w (inr (inr h)) =
    let r = in_map python_name w (down 0 minor) h in
    let b = in_down 0 minor r.0 r.1 in inr (inr (r.0, omega (arith, b.1), r.2))

pure_all : (minor : ℕ) (w : List ℕ) → IsOneOf w (cpython_name minor ∷ pythons_3 minor) → IsPurePython minor w
pure_all minor w (inl e) = inl e
pure_all minor w (inr h) = pure_of minor w h

pub all_pure : (minor : ℕ) (w : List ℕ) → IsPurePython minor w → IsOneOf w (cpython_name minor ∷ pythons_3 minor)
all_pure minor w (inl e) = inl e
all_pure minor w (inr (inl e)) = inr (inr (inl e))
all_pure minor w (inr (inr (older, high, e))) = elim (cases_Bool (nat_lt older minor)) [
  | inl l ↦ let less : older < minor = grind (arith, nat_tests) in inr (inr (inr (map_in python_name w older (down 0 minor) (down_in 0 minor older (omega arith) less) e)))
  | inr l ↦ let same : older ≡ minor = grind (arith, nat_tests) in inr (inl (e ∙ ap python_name same))
]

-- ---- from the list

first_pair : (p : CPython) (python abi : List ℕ) → 2 ≤ p.minor → python ≡ cpython_name p.minor → IsOneOf abi (own_abi p ∷ stable_abi p ∷ no_abi ∷ []) → IsPair p python abi
first_pair p python abi low e (inl a) = inl (e, a)
first_pair p python abi low e (inr (inl a)) = inr (inl (p.minor, low, omega arith, e, a))
first_pair p python abi low e (inr (inr a)) = inr (inr (inl e, one_of_one abi no_abi a))

-- ---- the four parts of the list

abbrev own_tags : TargetValue → List TagValue
own_tags t = triples (cpython_name t.python.minor ∷ []) (own_abi t.python ∷ stable_abi t.python ∷ no_abi ∷ []) (platforms_of t.platform)

abbrev older_tags : TargetValue → List TagValue
older_tags t = triples (older_cpythons t.python.minor) (stable_abi t.python ∷ []) (platforms_of t.platform)

abbrev pure_tags : TargetValue → List TagValue
pure_tags t = triples (pythons_3 t.python.minor) (no_abi ∷ []) (platforms_of t.platform)

abbrev any_tags : TargetValue → List TagValue
any_tags t = triples (cpython_name t.python.minor ∷ pythons_3 t.python.minor) (no_abi ∷ []) (any_platform ∷ [])

abbrev pub IsListed : TargetValue → TagValue → Type 0
IsListed t x =
    IsTriple x (cpython_name t.python.minor ∷ []) (own_abi t.python ∷ stable_abi t.python ∷ no_abi ∷ []) (platforms_of t.platform)
    ⊎ (IsTriple x (older_cpythons t.python.minor) (stable_abi t.python ∷ []) (platforms_of t.platform)
    ⊎ (IsTriple x (pythons_3 t.python.minor) (no_abi ∷ []) (platforms_of t.platform)
    ⊎ IsTriple x (cpython_name t.python.minor ∷ pythons_3 t.python.minor) (no_abi ∷ []) (any_platform ∷ [])))

pub parted : (t : TargetValue) (x : TagValue) → IsOneOf x (target_tags t) → IsListed t x
unfolding target_tags
parted t x h = elim (in_append x (own_tags t) (older_tags t ++ (pure_tags t ++ any_tags t)) h) [
  | inl p ↦ inl (in_triples x (cpython_name t.python.minor ∷ []) (own_abi t.python ∷ stable_abi t.python ∷ no_abi ∷ []) (platforms_of t.platform) p)
  | inr q ↦ elim (in_append x (older_tags t) (pure_tags t ++ any_tags t) q) [
    | inl p ↦ inr (inl (in_triples x (older_cpythons t.python.minor) (stable_abi t.python ∷ []) (platforms_of t.platform) p))
    | inr r ↦ elim (in_append x (pure_tags t) (any_tags t) r) [
      | inl p ↦ inr (inr (inl (in_triples x (pythons_3 t.python.minor) (no_abi ∷ []) (platforms_of t.platform) p)))
      | inr p ↦ inr (inr (inr (in_triples x (cpython_name t.python.minor ∷ pythons_3 t.python.minor) (no_abi ∷ []) (any_platform ∷ []) p)))
    ]
  ]
]

from_listed : (t : TargetValue) (x : TagValue) → is_target t ≡ true → IsListed t x → IsCompatible t x
from_listed t x known (inl r) =
    (first_pair t.python x.python x.abi (least_minor t known) (one_of_one x.python (cpython_name t.python.minor) r.0) r.1, inl (runs_of t.platform x.platform (platform_there t known) r.2))
from_listed t x known (inr (inl r)) =
    let s = in_map cpython_name x.python (down 2 t.python.minor) r.0 in
    let b = in_down 2 t.python.minor s.0 s.1 in
    (inr (inl (s.0, b.0, omega (arith, b.1), s.2, one_of_one x.abi (stable_abi t.python) r.1)), inl (runs_of t.platform x.platform (platform_there t known) r.2))
from_listed t x known (inr (inr (inl r))) =
    (inr (inr (pure_of t.python.minor x.python r.0, one_of_one x.abi no_abi r.1)), inl (runs_of t.platform x.platform (platform_there t known) r.2))
from_listed t x known (inr (inr (inr r))) =
    (inr (inr (pure_all t.python.minor x.python r.0, one_of_one x.abi no_abi r.1)), inr (one_of_one x.abi no_abi r.1, one_of_one x.platform any_platform r.2))

pub compatible_of : (t : TargetValue) (x : TagValue) → is_target t ≡ true → IsOneOf x (target_tags t) → IsCompatible t x
compatible_of t x known h = from_listed t x known (parted t x h)

-- ---- into the list

pub abi_letters : (p : CPython) → own_abi p ≡ no_abi → ⊥
abi_letters p e = let x = own_letter p in differ 0 _ _ (λ y. omega (arith, x, y)) e

stable_letters : (p : CPython) → stable_abi p ≡ no_abi → ⊥
stable_letters p e = let x = stable_letter p in differ 0 _ _ (λ y. omega (arith, x, y)) e

listed : (t : TargetValue) (x : TagValue) → IsListed t x → IsOneOf x (target_tags t)
unfolding target_tags
listed t x (inl p) =
    in_left x (own_tags t) (older_tags t ++ (pure_tags t ++ any_tags t)) (triples_in x (cpython_name t.python.minor ∷ []) (own_abi t.python ∷ stable_abi t.python ∷ no_abi ∷ []) (platforms_of t.platform) p)
listed t x (inr q) = in_right x (own_tags t) (older_tags t ++ (pure_tags t ++ any_tags t)) (elim q [
  | inl p ↦ in_left x (older_tags t) (pure_tags t ++ any_tags t) (triples_in x (older_cpythons t.python.minor) (stable_abi t.python ∷ []) (platforms_of t.platform) p)
  | inr r ↦ in_right x (older_tags t) (pure_tags t ++ any_tags t) (elim r [
    | inl p ↦ in_left x (pure_tags t) (any_tags t) (triples_in x (pythons_3 t.python.minor) (no_abi ∷ []) (platforms_of t.platform) p)
    | inr p ↦ in_right x (pure_tags t) (any_tags t) (triples_in x (cpython_name t.python.minor ∷ pythons_3 t.python.minor) (no_abi ∷ []) (any_platform ∷ []) p)
  ])
])

pub compatible_in : (t : TargetValue) (x : TagValue) → is_target t ≡ true → IsCompatible t x → IsOneOf x (target_tags t)
compatible_in t x known (inl (python, abi), inl runs) = listed t x (inl (inl python, inl abi, runs_in t.platform x.platform (platform_there t known) runs))
compatible_in t x known (inl (python, abi), inr (none, any)) = absurd (abi_letters t.python (sym abi ∙ none))
compatible_in t x known (inr (inl (older, low, high, python, abi)), inl runs) =
    let there = runs_in t.platform x.platform (platform_there t known) runs in
    elim (cases_Bool (nat_lt older t.python.minor)) [
      | inl l ↦
          let less : older < t.python.minor = grind (arith, nat_tests) in
          listed t x (inr (inl (map_in cpython_name x.python older (down 2 t.python.minor) (down_in 2 t.python.minor older low less) python, inl abi, there)))
      | inr l ↦
          let same : older ≡ t.python.minor = grind (arith, nat_tests) in
          listed t x (inl (inl (python ∙ ap cpython_name same), inr (inl abi), there))
    ]
compatible_in t x known (inr (inl (older, low, high, python, abi)), inr (none, any)) = absurd (stable_letters t.python (sym abi ∙ none))
compatible_in t x known (inr (inr (pure, abi)), inl runs) =
    let there = runs_in t.platform x.platform (platform_there t known) runs in
    elim (all_pure t.python.minor x.python pure) [
      | inl e ↦ listed t x (inl (inl e, inr (inr (inl abi)), there))
      | inr p ↦ listed t x (inr (inr (inl (p, inl abi, there))))
    ]
compatible_in t x known (inr (inr (pure, abi)), inr (none, any)) = listed t x (inr (inr (inr (all_pure t.python.minor x.python pure, inl abi, inl any))))

pub are_compatible : (t : TargetValue) (x : TagValue) → is_target t ≡ true → (is_among x (target_tags t) ≡ true) ↔ IsCompatible t x
are_compatible t x known = (
  λ h. compatible_of t x known (among_in x (target_tags t) h),
  λ h. in_among x (target_tags t) (compatible_in t x known h),
)
