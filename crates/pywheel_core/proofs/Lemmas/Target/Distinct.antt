-- No tag of a target stands twice.
use Rattle.std.proofs.Common.{◌≡◌, ℕ, ◌<◌, ◌≤◌, ◌^◌, Bool, true, false, List, [], ◌∷◌, ◌++◌, codes, decimal, fold, get_or, if◌then◌else◌, map, refl, sym, subst, ap, ◌∙◌, ◌⊎◌, inl, inr, arith}
use Rattle.std.proofs.lemmas.Bool.{cases_Bool}
use Rattle.pywheel_core.proofs.Lemmas.Target.Names.{cpython_same, differ, python_numbered, python_same}
use Rattle.pywheel_core.proofs.Lemmas.Target.Once.{IsOnce, IsTriple, added_once, in_append, in_down, in_map, in_triples, once_append, once_down, once_map, once_triples}
use Rattle.pywheel_core.proofs.Lemmas.Target.Parts.{python_bounds}
use Rattle.pywheel_core.proofs.Lemmas.Target.Platforms.{not_any, one_of_one, platforms_once, runs_of}
use Rattle.pywheel_core.proofs.TargetLemmas.{cpython_in, platform_there}
use Rattle.pywheel_core.specs.Tag.{TagValue, triples, with_tag}
use Rattle.pywheel_core.specs.Target.Compatible.{IsOneOf, IsPurePython, RunsOn}
use Rattle.pywheel_core.specs.Target.Platforms.{down, platforms_of}
use Rattle.pywheel_core.specs.Target.Tags.{any_platform, cpython_name, no_abi, older_cpythons, own_abi, python_name, pythons_3, stable_abi, target_tags}
use Rattle.pywheel_core.specs.Target.Value.{TargetValue, is_target}
use Rattle.pywheel_core.specs.declared.target.cpython.CPython.{CPython}

-- ---- Pythons and ABIs

pub own_letter : (p : CPython) → get_or (own_abi p) 0 0 ≡ 99
own_letter p = elim (cases_Bool p.is_free_threaded) [ inl e ↦ rw e refl | inr e ↦ rw e refl ]

pub stable_letter : (p : CPython) → get_or (stable_abi p) 0 0 ≡ 97
stable_letter p = elim (cases_Bool p.is_free_threaded) [ inl e ↦ rw e refl | inr e ↦ rw e refl ]

abis_once : (p : CPython) → IsOnce (own_abi p ∷ stable_abi p ∷ no_abi ∷ [])
abis_once p =
    let own = own_letter p in let stable = stable_letter p in (
      λ h. elim h [
        | inl e ↦ differ 0 _ _ (λ x. omega (arith, x, own, stable)) e
        | inr g ↦ differ 0 _ _ (λ x. omega (arith, x, own)) (one_of_one _ _ g)
      ],
      (λ h. differ 0 _ _ (λ x. omega (arith, x, stable)) (one_of_one _ _ h), ((λ h. h), tt)),
    )

in_cpythons : (minor : ℕ) (w : List ℕ) → IsOneOf w (older_cpythons minor) → (k : ℕ) × (2 ≤ k) × (k < minor) × (w ≡ cpython_name k)
in_cpythons minor w h =
    let r = in_map cpython_name w (down 2 minor) h in
    let b = in_down 2 minor r.0 r.1 in (r.0, b.0, b.1, r.2)

in_pythons : (minor : ℕ) (w : List ℕ) → IsOneOf w (pythons_3 minor) → get_or w 0 0 ≡ 112
in_pythons minor w (inl e) = ap (λ t. get_or t 0 0) e
in_pythons minor w (inr (inl e)) = ap (λ t. get_or t 0 0) e
in_pythons minor w (inr (inr h)) = let r = in_map python_name w (down 0 minor) h in ap (λ t. get_or t 0 0) r.2

cpythons_once : (minor : ℕ) → minor < 256 → IsOnce (older_cpythons minor)
cpythons_once minor small = once_map cpython_name (down 2 minor) (once_down 2 minor)
    (λ a b p q. let x = (in_down 2 minor a p).1 in let y = (in_down 2 minor b q).1 in cpython_same a b (omega (arith, x)) (omega (arith, y)))

pythons_once : (minor : ℕ) → minor < 256 → IsOnce (pythons_3 minor)
pythons_once minor small = (
  λ h. elim h [
    | inl e ↦ python_numbered minor (omega arith) e
    | inr g ↦
        let r = in_map python_name _ (down 0 minor) g in
        let x = (in_down 0 minor r.0 r.1).1 in
        let same = python_same minor r.0 (omega arith) (omega (arith, x)) r.2 in
        omega (arith, x, same)
  ],
  (
    λ h. let r = in_map python_name _ (down 0 minor) h in
        let x = (in_down 0 minor r.0 r.1).1 in python_numbered r.0 (omega (arith, x)) (sym r.2),
    once_map python_name (down 0 minor) (once_down 0 minor)
        (λ a b p q. let x = (in_down 0 minor a p).1 in let y = (in_down 0 minor b q).1 in python_same a b (omega (arith, x)) (omega (arith, y))),
  ),
)

-- no Python of any implementation is this CPython
not_cpython : (minor k : ℕ) → IsOneOf (cpython_name k) (pythons_3 minor) → ⊥
not_cpython minor k h = let x = in_pythons minor (cpython_name k) h in omega (arith, x)

all_once : (minor : ℕ) → minor < 256 → IsOnce (cpython_name minor ∷ pythons_3 minor)
all_once minor small = (not_cpython minor minor, pythons_once minor small)

-- ---- the tags

no_platform : (t : TargetValue) (w : List ℕ) → is_target t ≡ true → IsOneOf w (platforms_of t.platform) → IsOneOf w (any_platform ∷ []) → ⊥
no_platform t w known p q =
    not_any t.platform (subst (RunsOn t.platform) (one_of_one w any_platform q) (runs_of t.platform w (platform_there t known) p))

pub tags_once : (t : TargetValue) → is_target t ≡ true → IsOnce (target_tags t)
unfolding target_tags
tags_once t known =
    let minor = t.python.minor in
    let small = (python_bounds t.python (cpython_in t known)).1 in
    let platforms = platforms_of t.platform in
    let each = platforms_once t.platform (platform_there t known) in
    let cpython = cpython_name minor in
    let abis = own_abi t.python ∷ stable_abi t.python ∷ no_abi ∷ [] in
    let stable = stable_abi t.python ∷ [] in
    let none = no_abi ∷ [] in
    let any = any_platform ∷ [] in
    let one : IsOnce (cpython ∷ []) = (λ h. h, tt) in
    let first = triples (cpython ∷ []) abis platforms in
    let second = triples (older_cpythons minor) stable platforms in
    let third = triples (pythons_3 minor) none platforms in
    let fourth = triples (cpython ∷ pythons_3 minor) none any in
    let lone : (w : List ℕ) → IsOnce (w ∷ []) = λ w. (λ h. h, tt) in
    let of_first : (x : TagValue) → IsOneOf x first → IsTriple x (cpython ∷ []) abis platforms = λ x. in_triples x (cpython ∷ []) abis platforms in
    let of_second : (x : TagValue) → IsOneOf x second → IsTriple x (older_cpythons minor) stable platforms = λ x. in_triples x (older_cpythons minor) stable platforms in
    let of_third : (x : TagValue) → IsOneOf x third → IsTriple x (pythons_3 minor) none platforms = λ x. in_triples x (pythons_3 minor) none platforms in
    let of_fourth : (x : TagValue) → IsOneOf x fourth → IsTriple x (cpython ∷ pythons_3 minor) none any = λ x. in_triples x (cpython ∷ pythons_3 minor) none any in
    once_append first (second ++ (third ++ fourth)) (once_triples (cpython ∷ []) abis platforms (lone cpython) (abis_once t.python) each)
    (once_append second (third ++ fourth) (once_triples (older_cpythons minor) stable platforms (cpythons_once minor small) (lone (stable_abi t.python)) each)
    (once_append third fourth (once_triples (pythons_3 minor) none platforms (pythons_once minor small) (lone no_abi) each)
    (once_triples (cpython ∷ pythons_3 minor) none any (all_once minor small) (lone no_abi) (lone any_platform))
    (λ x p q. no_platform t x.platform known (of_third x p).2 (of_fourth x q).2))
    (λ x p q. elim (in_append x third fourth q) [
      | inl r ↦
          let a = in_cpythons minor x.python (of_second x p).0 in
          not_cpython minor a.0 (subst (λ w. IsOneOf w (pythons_3 minor)) a.3 (of_third x r).0)
      | inr r ↦ no_platform t x.platform known (of_second x p).2 (of_fourth x r).2
    ]))
    (λ x p q.
    let is = one_of_one x.python cpython (of_first x p).0 in
    elim (in_append x second (third ++ fourth) q) [
      | inl r ↦
          let a = in_cpythons minor x.python (of_second x r).0 in
          let same = cpython_same minor a.0 (omega arith) (omega (arith, a.2)) (sym is ∙ a.3) in
          omega (arith, a.2, same)
      | inr r ↦ elim (in_append x third fourth r) [
        | inl s ↦ not_cpython minor minor (subst (λ w. IsOneOf w (pythons_3 minor)) is (of_third x s).0)
        | inr s ↦ no_platform t x.platform known (of_first x p).2 (of_fourth x s).2
      ]
    ])

pub added_tags : (t : TargetValue) → is_target t ≡ true → fold with_tag [] (target_tags t) ≡ target_tags t
added_tags t known = added_once [] (target_tags t) (tags_once t known)
