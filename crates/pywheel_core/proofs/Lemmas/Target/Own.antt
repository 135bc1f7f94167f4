-- What is made for a target's own Python and ABI stands before the rest of its tags.
use Rattle.std.proofs.Common.{◌≡◌, true, List, [], ◌∷◌, ◌++◌, ℕ, map, sym, ap, ◌∙◌, ◌⊎◌, inl, inr}
use Rattle.pywheel_core.proofs.Lemmas.Target.Platforms.{one_of_one}
use Rattle.std.specs.List.{flat_map}
use Rattle.pywheel_core.proofs.Lemmas.Target.Compatible.{IsListed, abi_letters, parted}
use Rattle.pywheel_core.proofs.Lemmas.Target.Once.{IsTriple, among_in, in_append, in_left, in_map, in_right, in_triples, map_in}
use Rattle.pywheel_core.specs.Tag.{TagValue, is_among, triples}
use Rattle.pywheel_core.specs.Target.Compatible.{IsOneOf}
use Rattle.pywheel_core.specs.Target.Order.{IsOwn, StandsBefore}
use Rattle.pywheel_core.specs.Target.Platforms.{platforms_of}
use Rattle.pywheel_core.specs.Target.Tags.{any_platform, cpython_name, no_abi, older_cpythons, own_abi, pythons_3, stable_abi, target_tags}
use Rattle.pywheel_core.specs.Target.Value.{TargetValue}

before_left : {X : Type 0} (x y : X) (xs ys : List X) → StandsBefore x y xs → StandsBefore x y (xs ++ ys)
before_left x y [] ys h = absurd h
before_left x y (z ∷ xs) ys (inl p) = inl (p.0, in_left y xs ys p.1)
before_left x y (z ∷ xs) ys (inr p) = inr (before_left x y xs ys p)

before_across : {X : Type 0} (x y : X) (xs ys : List X) → IsOneOf x xs → IsOneOf y ys → StandsBefore x y (xs ++ ys)
before_across x y [] ys h k = absurd h
before_across x y (z ∷ xs) ys (inl p) k = inl (p, in_right y xs ys k)
before_across x y (z ∷ xs) ys (inr p) k = inr (before_across x y xs ys p k)

-- the tags of a Python and an ABI
abbrev of_pair : List ℕ → List ℕ → List (List ℕ) → List TagValue
of_pair python abi platforms = map (λ platform. record { python = python; abi = abi; platform = platform }) platforms

own_platform : (t : TargetValue) (x : TagValue) → IsOwn t.python x → IsListed t x → IsOneOf x.platform (platforms_of t.platform)
own_platform t x own (inl r) = r.2
own_platform t x own (inr (inl r)) = r.2
own_platform t x own (inr (inr (inl r))) = r.2
own_platform t x own (inr (inr (inr r))) = absurd (abi_letters t.python (sym own.1 ∙ one_of_one x.abi no_abi r.1))

same_own : (python : List ℕ) (abi : List ℕ) (x : TagValue) → x.python ≡ python → x.abi ≡ abi → x ≡ record { python = python; abi = abi; platform = x.platform }
same_own python abi x p a = ap (λ w. record { python = w; abi = x.abi; platform = x.platform }) p ∙ ap (λ w. record { python = python; abi = w; platform = x.platform }) a

own_first : (t : TargetValue) (x y : TagValue) → IsOneOf x (target_tags t) → IsOneOf y (target_tags t)
    → IsOwn t.python x → (IsOwn t.python y → ⊥) → StandsBefore x y (target_tags t)
unfolding target_tags
own_first t x y h k own other =
    let minor = t.python.minor in
    let platforms = platforms_of t.platform in
    let cpython = cpython_name minor in
    let abi = own_abi t.python in
    let none = no_abi ∷ [] in
    let front = of_pair cpython abi platforms in
    let more = flat_map (λ a. of_pair cpython a platforms) (stable_abi t.python ∷ no_abi ∷ []) in
    let second = triples (older_cpythons minor) (stable_abi t.python ∷ []) platforms in
    let third = triples (pythons_3 minor) none platforms in
    let fourth = triples (cpython ∷ pythons_3 minor) none (any_platform ∷ []) in
    let tail = second ++ (third ++ fourth) in
    let stands : IsOneOf x front = map_in _ x x.platform platforms (own_platform t x own (parted t x h)) (same_own cpython abi x own.0 own.1) in
    elim (in_append y ((front ++ more) ++ []) tail k) [
      | inl p ↦ elim (in_append y (front ++ more) [] p) [
        | inl q ↦ elim (in_append y front more q) [
          | inl r ↦
              let s = in_map _ y platforms r in
              absurd (other (ap (λ (z : TagValue). z.python) s.2, ap (λ (z : TagValue). z.abi) s.2))
          | inr r ↦ before_left x y ((front ++ more) ++ []) tail (before_left x y (front ++ more) [] (before_across x y front more stands r))
        ]
        | inr q ↦ absurd q
      ]
      | inr p ↦ before_across x y ((front ++ more) ++ []) tail (in_left x (front ++ more) [] (in_left x front more stands)) p
    ]

pub own_before : (t : TargetValue) (x y : TagValue) → is_among x (target_tags t) ≡ true → is_among y (target_tags t) ≡ true
    → IsOwn t.python x → (IsOwn t.python y → ⊥) → StandsBefore x y (target_tags t)
own_before t x y h k = own_first t x y (among_in x (target_tags t) h) (among_in y (target_tags t) k)
