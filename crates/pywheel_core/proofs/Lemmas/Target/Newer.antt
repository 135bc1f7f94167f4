-- A newer system takes what an older one takes, in the same order.
use Rattle.std.proofs.Common.{◌≡◌, ℕ, zero, suc, ◌+◌, ◌<◌, ◌≤◌, Bool, true, false, nat_le, nat_lt, List, [], ◌∷◌, ◌++◌, map, refl, sym, subst, ap, ◌∙◌, ◌⊎◌, inl, inr, arith}
use Rattle.std.proofs.lemmas.Bool.Decides.{nat_tests}
use Rattle.std.proofs.lemmas.Bool.{cases_Bool}
use Rattle.std.proofs.lemmas.List.{append_assoc, map-append}
use Rattle.std.proofs.lemmas.List.Concat.{flat_map-append}
use Rattle.std.specs.List.{flat_map}
use Rattle.pywheel_core.proofs.Lemmas.Target.Platforms.{IsKnownMac, known_mac}
use Rattle.pywheel_core.proofs.TargetLemmas.{platform_there}
use Rattle.pywheel_core.specs.Tag.{TagValue, triples}
use Rattle.pywheel_core.specs.Target.Compatible.{IsNotLater}
use Rattle.pywheel_core.specs.Target.Newer.{IsAtLeast, IsPart, part_end, part_kept, part_left_out}
use Rattle.pywheel_core.specs.Target.Platforms.{down, glibc_names, linux_name, mac_names, mac_platforms, manylinux_platforms, musl_name, musllinux_platforms, old_mac_platforms, platforms_of}
use Rattle.pywheel_core.specs.Target.Tags.{any_platform, cpython_name, no_abi, older_cpythons, own_abi, pythons_3, stable_abi, target_tags}
use Rattle.pywheel_core.specs.Target.Value.{TargetValue, glibc_floor, is_platform, is_target}
use Rattle.pywheel_core.specs.declared.target.cpython.CPython.{CPython}
use Rattle.pywheel_core.specs.declared.target.platform.LinuxArch.{LinuxArch}
use Rattle.pywheel_core.specs.declared.target.platform.MacArch.{MacArch}
use Rattle.pywheel_core.specs.declared.target.platform.Platform.{Platform}
use Rattle.pywheel_core.specs.declared.target.platform.Platform.TheVariants as platform

-- ---- parts of lists

pub part_own : {X : Type 0} (xs : List X) → IsPart xs xs
part_own [] = part_end
part_own (x ∷ xs) = part_kept x xs xs (part_own xs)

-- what stands at the end
part_behind : {X : Type 0} (front xs : List X) → IsPart xs (front ++ xs)
part_behind [] xs = part_own xs
part_behind (y ∷ front) xs = part_left_out y xs (front ++ xs) (part_behind front xs)

append_part : {X : Type 0} {a b : List X} → IsPart a b → (c d : List X) → IsPart c d → IsPart (a ++ c) (b ++ d)
append_part part_end c d q = q
append_part (part_kept x a b p) c d q = part_kept x (a ++ c) (b ++ d) (append_part p c d q)
append_part (part_left_out y a b p) c d q = part_left_out y (a ++ c) (b ++ d) (append_part p c d q)

part_append : {X : Type 0} (a b c d : List X) → IsPart a b → IsPart c d → IsPart (a ++ c) (b ++ d)
part_append a b c d p q = append_part p c d q

part_mapped : {X Y : Type 0} {a b : List X} (f : X → Y) → IsPart a b → IsPart (map f a) (map f b)
part_mapped f part_end = part_end
part_mapped f (part_kept x a b p) = part_kept (f x) (map f a) (map f b) (part_mapped f p)
part_mapped f (part_left_out y a b p) = part_left_out (f y) (map f a) (map f b) (part_mapped f p)

part_map : {X Y : Type 0} (f : X → Y) (a b : List X) → IsPart a b → IsPart (map f a) (map f b)
part_map f a b p = part_mapped f p

part_flat : {X Y : Type 0} (f g : X → List Y) (xs : List X) → ((x : X) → IsPart (f x) (g x)) → IsPart (flat_map f xs) (flat_map g xs)
part_flat f g [] each = part_end
part_flat f g (x ∷ xs) each = part_append (f x) (g x) (flat_map f xs) (flat_map g xs) (each x) (part_flat f g xs each)

part_triples : (pythons abis lower higher : List (List ℕ)) → IsPart lower higher → IsPart (triples pythons abis lower) (triples pythons abis higher)
part_triples pythons abis lower higher p =
    part_flat _ _ pythons (λ python. part_flat _ _ abis (λ abi. part_map (λ platform. record { python = python; abi = abi; platform = platform }) lower higher p))

-- ---- numbers down to one

abbrev EndsIn : {X : Type 0} → List X → List X → Type 0
EndsIn {X} whole end = (front : List X) × (whole ≡ front ++ end)

down_ends : (low m n : ℕ) → m ≤ n → EndsIn (down low n) (down low m)
unfolding down
down_ends low m zero h = let e : m ≡ 0 = omega arith in ([], ap (down low) (sym e))
down_ends low m (suc n) h = elim (cases_Bool (nat_le m n)) [
  | inl e ↦ let less : m ≤ n = grind (arith, nat_tests) in
      let r = down_ends low m n less in
      elim (cases_Bool (nat_le low n)) [
        | inl t ↦ (n ∷ r.0, rw t (ap (λ l. n ∷ l) r.1))
        | inr t ↦ ([], rw t (let none : down low m ≡ [] = lacking low m (grind (arith, nat_tests)) in sym none))
      ]
  | inr e ↦ let same : m ≡ suc n = grind (arith, nat_tests) in ([], ap (down low) (sym same))
]
  where
    lacking : (low m : ℕ) → m ≤ low → down low m ≡ []
    lacking low zero h = refl
    lacking low (suc k) h = let t : nat_le low k ≡ false = grind (arith, nat_tests) in rw t refl

ends_part : {X : Type 0} (whole end : List X) → EndsIn whole end → IsPart end whole
ends_part whole end (front, e) = subst (IsPart end) (sym e) (part_behind front end)

flat_ends : {X : Type 0} (f : ℕ → List X) (low m n : ℕ) → m ≤ n → EndsIn (flat_map f (down low n)) (flat_map f (down low m))
flat_ends f low m n h = let r = down_ends low m n h in (flat_map f r.0, ap (flat_map f) r.1 ∙ flat_map-append f r.0 (down low m))

map_ends : {X : Type 0} (f : ℕ → X) (low m n : ℕ) → m ≤ n → EndsIn (map f (down low n)) (map f (down low m))
map_ends f low m n h = let r = down_ends low m n h in (map f r.0, ap (map f) r.1 ∙ map-append f r.0 (down low m))

-- ---- platforms

mac_part : (major minor than_major than_minor : ℕ) (arch : MacArch) → IsKnownMac major minor → IsKnownMac than_major than_minor → IsNotLater than_major than_minor major minor
    → IsPart (mac_platforms than_major than_minor arch) (mac_platforms major minor arch)
unfolding mac_platforms
mac_part major minor than_major than_minor arch (inl a) (inl b) (inl less) = absurd (omega (arith, a.0, b.0, less))
mac_part major minor than_major than_minor arch (inl a) (inl b) (inr same) =
    let x = a.0 in let y = b.0 in
    let t : nat_lt major 11 ≡ true = grind (arith, nat_tests) in
    let u : nat_lt than_major 11 ≡ true = grind (arith, nat_tests) in
    rw (t, u) (ends_part _ _ (flat_ends (mac_names arch 10) 4 (than_minor + 1) (minor + 1) (omega (arith, same.1))))
mac_part major minor than_major than_minor arch (inl a) (inr b) (inl less) = absurd (omega (arith, a.0, b.0, less))
mac_part major minor than_major than_minor arch (inl a) (inr b) (inr same) = absurd (omega (arith, a.0, b.0, same.0))
mac_part major minor than_major than_minor arch (inr a) (inl b) later =
    let x = a.0 in let y = b.0 in
    let t : nat_lt major 11 ≡ false = grind (arith, nat_tests) in
    let u : nat_lt than_major 11 ≡ true = grind (arith, nat_tests) in
    let new = flat_map (λ version. mac_names arch version 0) (down 11 (major + 1)) in
    let r = flat_ends (mac_names arch 10) 4 (than_minor + 1) 17 (omega (arith, b.2)) in
    rw (t, u) (ends_part (new ++ old_mac_platforms arch 17) (old_mac_platforms arch (than_minor + 1))
    (new ++ r.0, ap (λ l. new ++ l) r.1 ∙ sym (append_assoc new r.0 (old_mac_platforms arch (than_minor + 1)))))
mac_part major minor than_major than_minor arch (inr a) (inr b) later =
    let x = a.0 in let y = b.0 in
    let t : nat_lt major 11 ≡ false = grind (arith, nat_tests) in
    let u : nat_lt than_major 11 ≡ false = grind (arith, nat_tests) in
    let new = λ (end : ℕ). flat_map (λ version. mac_names arch version 0) (down 11 end) in
    rw (t, u) (part_append (new (than_major + 1)) (new (major + 1)) (old_mac_platforms arch 17) (old_mac_platforms arch 17)
    (ends_part _ _ (flat_ends (λ version. mac_names arch version 0) 11 (than_major + 1) (major + 1) (up_to later)))
    (part_own (old_mac_platforms arch 17)))
  where
    up_to : IsNotLater than_major than_minor major minor → than_major + 1 ≤ major + 1
    up_to (inl less) = omega (arith, less)
    up_to (inr same) = omega (arith, same.0)

platform_part : (p q : Platform) → is_platform p ≡ true → is_platform q ≡ true → IsAtLeast p q → IsPart (platforms_of q) (platforms_of p)
unfolding manylinux_platforms musllinux_platforms
platform_part (platform.Manylinux minor arch) (platform.Manylinux than on) p q h =
    subst (λ a. IsPart (manylinux_platforms than a) (manylinux_platforms minor arch)) h.1
    (part_append _ _ (linux_name arch ∷ []) (linux_name arch ∷ [])
    (ends_part _ _ (flat_ends (glibc_names arch) (glibc_floor arch) (than + 1) (minor + 1) (omega (arith, h.0)))) (part_own (linux_name arch ∷ [])))
platform_part (platform.Musllinux minor arch) (platform.Musllinux than on) p q h =
    subst (λ a. IsPart (musllinux_platforms than a) (musllinux_platforms minor arch)) h.1
    (part_append _ _ (linux_name arch ∷ []) (linux_name arch ∷ [])
    (ends_part _ _ (map_ends (musl_name arch) 0 (than + 1) (minor + 1) (omega (arith, h.0)))) (part_own (linux_name arch ∷ [])))
platform_part (platform.MacOs major minor arch) (platform.MacOs m n on) p q h =
    subst (λ a. IsPart (mac_platforms m n a) (mac_platforms major minor arch)) h.1
    (mac_part major minor m n arch (known_mac major minor arch p) (known_mac m n on q) h.0)
platform_part (platform.Windows arch) (platform.Windows on) p q h = subst (λ a. IsPart (platforms_of (platform.Windows a)) (platforms_of (platform.Windows arch))) h (part_own (platforms_of (platform.Windows arch)))
platform_part p q known other h = absurd h

-- ---- tags

tags_part : (python : CPython) (p q : Platform) → IsPart (platforms_of q) (platforms_of p)
    → IsPart (target_tags (record { python = python; platform = q })) (target_tags (record { python = python; platform = p }))
unfolding target_tags
tags_part python p q h =
    let minor = python.minor in
    let cpython = cpython_name minor in
    let abis = own_abi python ∷ stable_abi python ∷ no_abi ∷ [] in
    let stable = stable_abi python ∷ [] in
    let none = no_abi ∷ [] in
    let last = triples (cpython ∷ pythons_3 minor) none (any_platform ∷ []) in
    part_append _ _ _ _ (part_triples (cpython ∷ []) abis (platforms_of q) (platforms_of p) h)
    (part_append _ _ _ _ (part_triples (older_cpythons minor) stable (platforms_of q) (platforms_of p) h)
    (part_append _ _ last last (part_triples (pythons_3 minor) none (platforms_of q) (platforms_of p) h) (part_own last)))

pub older_is_part : (newer older : TargetValue) → is_target newer ≡ true → is_target older ≡ true → newer.python ≡ older.python → IsAtLeast newer.platform older.platform
    → IsPart (target_tags older) (target_tags newer)
older_is_part newer older p q same least =
    subst (λ python. IsPart (target_tags (record { python = python; platform = older.platform })) (target_tags newer)) same
    (tags_part newer.python newer.platform older.platform
    (platform_part newer.platform older.platform (platform_there newer p) (platform_there older q) least))
