-- The platforms of a target are those that it runs, each once.
use Rattle.std.proofs.Common.{◌≡◌, ℕ, ◌+◌, ◌<◌, ◌≤◌, ◌^◌, Bool, true, false, ◌==◌, ◌&&◌, ◌||◌, nat_le, nat_lt, List, [], ◌∷◌, ◌++◌, codes, decimal, drop, get_or, map, refl, sym, subst, ap, ◌∙◌, ◌⊎◌, inl, inr, arith}
use Rattle.std.proofs.lemmas.Bool.Decides.{Decides-eqb, nat_tests}
use Rattle.std.proofs.lemmas.Bool.{and_parts, cases_Bool}
use Rattle.std.specs.List.{flat_map}
use Rattle.pywheel_core.proofs.Lemmas.Target.Names.{differ, mac_same, musl_same, numbered_same, once_tried}
use Rattle.pywheel_core.proofs.Lemmas.Target.Once.{IsOnce, down_in, flat_in, in_append, in_down, in_flat, in_left, in_map, in_right, map_in, once_append, once_down, once_flat, once_map}
use Rattle.pywheel_core.proofs.TargetLemmas.{mac_small, manylinux_small, musllinux_small}
use Rattle.pywheel_core.specs.Target.Compatible.{IsGlibcName, IsMacVersion, IsNotLater, IsOlderName, IsOneOf, RunsFormat, RunsOn}
use Rattle.pywheel_core.specs.Target.Names.{linux_arch_name, windows_name}
use Rattle.pywheel_core.specs.Target.Platforms.{down, glibc_names, linux_name, mac_formats, mac_name, mac_names, mac_platforms, manylinux_platforms, musl_name, musllinux_platforms, old_mac_platforms, older_names, platforms_of}
use Rattle.pywheel_core.specs.Target.Tags.{any_platform}
use Rattle.pywheel_core.specs.Target.Value.{glibc_floor, is_intel, is_platform}
use Rattle.pywheel_core.specs.declared.target.platform.LinuxArch.{LinuxArch}
use Rattle.pywheel_core.specs.declared.target.platform.MacArch.{MacArch}
use Rattle.pywheel_core.specs.declared.target.platform.MacArch.TheVariants as mac
use Rattle.pywheel_core.specs.declared.target.platform.Platform.{Platform}
use Rattle.pywheel_core.specs.declared.target.platform.Platform.TheVariants as platform
use Rattle.pywheel_core.specs.declared.target.platform.WindowsArch.{WindowsArch}
use Rattle.pywheel_core.specs.declared.target.platform.WindowsArch.TheVariants as windows

-- ---- the names of a version of glibc

pub one_of_one : (w v : List ℕ) → IsOneOf w (v ∷ []) → w ≡ v
one_of_one w v (inl e) = e
one_of_one w v (inr h) = absurd h

-- the name of before, and the version that it stands for
abbrev IsOld : ℕ → List ℕ → Type 0
IsOld minor old = ((minor ≡ 5) × (old ≡ codes "manylinux1")) ⊎ (((minor ≡ 12) × (old ≡ codes "manylinux2010")) ⊎ ((minor ≡ 17) × (old ≡ codes "manylinux2014")))

in_older : (minor : ℕ) (old : List ℕ) → IsOneOf old (older_names minor) → IsOld minor old
in_older minor old h = elim (cases_Bool (minor == 17)) [
  | inl e ↦ let g : IsOneOf old (codes "manylinux2014" ∷ []) = rw e at h in inr (inr ((Decides-eqb minor 17).0 e, one_of_one old _ g))
  | inr e ↦ let h2 = rw e at h in elim (cases_Bool (minor == 12)) [
    | inl f ↦ let g : IsOneOf old (codes "manylinux2010" ∷ []) = rw f at h2 in inr (inl ((Decides-eqb minor 12).0 f, one_of_one old _ g))
    | inr f ↦ let h3 = rw f at h2 in elim (cases_Bool (minor == 5)) [
      | inl k ↦ let g : IsOneOf old (codes "manylinux1" ∷ []) = rw k at h3 in inl ((Decides-eqb minor 5).0 k, one_of_one old _ g)
      | inr k ↦ absurd (let g : IsOneOf old [] = rw k at h3 in g)
    ]
  ]
]

older_in : (minor : ℕ) (old : List ℕ) → IsOld minor old → IsOneOf old (older_names minor)
older_in minor old (inl h) = subst (λ n. IsOneOf old (older_names n)) (sym h.0) (inl h.1)
older_in minor old (inr (inl h)) = subst (λ n. IsOneOf old (older_names n)) (sym h.0) (inl h.1)
older_in minor old (inr (inr h)) = subst (λ n. IsOneOf old (older_names n)) (sym h.0) (inl h.1)

older_once : (minor : ℕ) → IsOnce (older_names minor)
older_once minor = elim (cases_Bool (minor == 17)) [
  | inl e ↦ rw e (λ h. h, tt)
  | inr e ↦ elim (cases_Bool (minor == 12)) [
    | inl f ↦ rw (e, f) (λ h. h, tt)
    | inr f ↦ elim (cases_Bool (minor == 5)) [ inl k ↦ rw (e, f, k) (λ h. h, tt) | inr k ↦ rw (e, f, k) tt ]
  ]
]

same_old : (minor : ℕ) (a b : List ℕ) → IsOld minor a → IsOld minor b → a ≡ b
same_old minor a b (inl p) (inl q) = p.1 ∙ sym q.1
same_old minor a b (inl p) (inr (inl q)) = absurd (omega (arith, p.0, q.0))
same_old minor a b (inl p) (inr (inr q)) = absurd (omega (arith, p.0, q.0))
same_old minor a b (inr (inl p)) (inl q) = absurd (omega (arith, p.0, q.0))
same_old minor a b (inr (inl p)) (inr (inl q)) = p.1 ∙ sym q.1
same_old minor a b (inr (inl p)) (inr (inr q)) = absurd (omega (arith, p.0, q.0))
same_old minor a b (inr (inr p)) (inl q) = absurd (omega (arith, p.0, q.0))
same_old minor a b (inr (inr p)) (inr (inl q)) = absurd (omega (arith, p.0, q.0))
same_old minor a b (inr (inr p)) (inr (inr q)) = p.1 ∙ sym q.1

pub in_glibc : (arch : LinuxArch) (minor : ℕ) (w : List ℕ) → IsOneOf w (glibc_names arch minor) → IsGlibcName arch minor w
in_glibc arch minor w (inl e) = inl e
in_glibc arch minor w (inr h) =
    let r = in_map (λ name. name ++ (codes "_" ++ linux_arch_name arch)) w (older_names minor) h in
    inr (elim (in_older minor r.0 r.1) [
      | inl p ↦ inl (p.0, r.2 ∙ ap (λ name. name ++ (codes "_" ++ linux_arch_name arch)) p.1)
      | inr p ↦ elim p [
        | inl q ↦ inr (inl (q.0, r.2 ∙ ap (λ name. name ++ (codes "_" ++ linux_arch_name arch)) q.1))
        | inr q ↦ inr (inr (q.0, r.2 ∙ ap (λ name. name ++ (codes "_" ++ linux_arch_name arch)) q.1))
      ]
    ])

pub glibc_in : (arch : LinuxArch) (minor : ℕ) (w : List ℕ) → IsGlibcName arch minor w → IsOneOf w (glibc_names arch minor)
glibc_in arch minor w (inl e) = inl e
glibc_in arch minor w (inr (inl p)) = inr (map_in _ w (codes "manylinux1") (older_names minor) (older_in minor (codes "manylinux1") (inl (p.0, refl))) p.1)
glibc_in arch minor w (inr (inr (inl p))) = inr (map_in _ w (codes "manylinux2010") (older_names minor) (older_in minor (codes "manylinux2010") (inr (inl (p.0, refl)))) p.1)
glibc_in arch minor w (inr (inr (inr p))) = inr (map_in _ w (codes "manylinux2014") (older_names minor) (older_in minor (codes "manylinux2014") (inr (inr (p.0, refl)))) p.1)

-- a name of before has a digit where the others have `_`
not_older : (arch other : LinuxArch) (minor number : ℕ) (w : List ℕ) → w ≡ codes "manylinux_2_" ++ (decimal number ++ (codes "_" ++ linux_arch_name other)) → IsOlderName arch minor w → ⊥
not_older arch other minor number w e (inl p) = differ 9 _ _ (λ x. omega (arith, x)) (sym e ∙ p.1)
not_older arch other minor number w e (inr (inl p)) = differ 9 _ _ (λ x. omega (arith, x)) (sym e ∙ p.1)
not_older arch other minor number w e (inr (inr p)) = differ 9 _ _ (λ x. omega (arith, x)) (sym e ∙ p.1)

older_same : (arch : LinuxArch) (m n : ℕ) (w : List ℕ) → IsOlderName arch m w → IsOlderName arch n w → m ≡ n
older_same arch m n w (inl p) (inl q) = p.0 ∙ sym q.0
older_same arch m n w (inl p) (inr (inl q)) = absurd (differ 9 _ _ (λ x. omega (arith, x)) (sym p.1 ∙ q.1))
older_same arch m n w (inl p) (inr (inr q)) = absurd (differ 9 _ _ (λ x. omega (arith, x)) (sym p.1 ∙ q.1))
older_same arch m n w (inr (inl p)) (inl q) = absurd (differ 9 _ _ (λ x. omega (arith, x)) (sym p.1 ∙ q.1))
older_same arch m n w (inr (inl p)) (inr (inl q)) = p.0 ∙ sym q.0
older_same arch m n w (inr (inl p)) (inr (inr q)) = absurd (differ 12 _ _ (λ x. omega (arith, x)) (sym p.1 ∙ q.1))
older_same arch m n w (inr (inr p)) (inl q) = absurd (differ 9 _ _ (λ x. omega (arith, x)) (sym p.1 ∙ q.1))
older_same arch m n w (inr (inr p)) (inr (inl q)) = absurd (differ 12 _ _ (λ x. omega (arith, x)) (sym p.1 ∙ q.1))
older_same arch m n w (inr (inr p)) (inr (inr q)) = p.0 ∙ sym q.0

glibc_same : (arch : LinuxArch) (m n : ℕ) (w : List ℕ) → m < 2 ^ 64 → n < 2 ^ 64 → IsGlibcName arch m w → IsGlibcName arch n w → m ≡ n
glibc_same arch m n w a b (inl e) (inl f) = (numbered_same m n (linux_arch_name arch) (linux_arch_name arch) a b (ap (drop 12) (sym e ∙ f))).0
glibc_same arch m n w a b (inl e) (inr q) = absurd (not_older arch arch n m w e q)
glibc_same arch m n w a b (inr p) (inl f) = absurd (not_older arch arch m n w f p)
glibc_same arch m n w a b (inr p) (inr q) = older_same arch m n w p q

glibc_once : (arch : LinuxArch) (minor : ℕ) → IsOnce (glibc_names arch minor)
glibc_once arch minor = (
  new_old,
  once_map (λ name. name ++ (codes "_" ++ linux_arch_name arch)) (older_names minor) (older_once minor) older_one,
)
  where
    older_one : (a b : List ℕ) → IsOneOf a (older_names minor) → IsOneOf b (older_names minor) → a ++ (codes "_" ++ linux_arch_name arch) ≡ b ++ (codes "_" ++ linux_arch_name arch) → a ≡ b
    older_one a b p q e = same_old minor a b (in_older minor a p) (in_older minor b q)

    new_old : IsOneOf (codes "manylinux_2_" ++ (decimal minor ++ (codes "_" ++ linux_arch_name arch))) (map (λ name. name ++ (codes "_" ++ linux_arch_name arch)) (older_names minor)) → ⊥
    new_old h = let r = in_map _ _ (older_names minor) h in elim (in_older minor r.0 r.1) [
      | inl p ↦ differ 9 _ _ (λ x. omega (arith, x)) (r.2 ∙ ap (λ name. name ++ (codes "_" ++ linux_arch_name arch)) p.1)
      | inr p ↦ elim p [
        | inl q ↦ differ 9 _ _ (λ x. omega (arith, x)) (r.2 ∙ ap (λ name. name ++ (codes "_" ++ linux_arch_name arch)) q.1)
        | inr q ↦ differ 9 _ _ (λ x. omega (arith, x)) (r.2 ∙ ap (λ name. name ++ (codes "_" ++ linux_arch_name arch)) q.1)
      ]
    ]

-- ---- Linux

not_linux : (arch : LinuxArch) (minor : ℕ) → IsGlibcName arch minor (linux_name arch) → ⊥
not_linux arch minor (inl e) = differ 0 _ _ (λ x. omega (arith, x)) e
not_linux arch minor (inr (inl p)) = differ 0 _ _ (λ x. omega (arith, x)) p.1
not_linux arch minor (inr (inr (inl p))) = differ 0 _ _ (λ x. omega (arith, x)) p.1
not_linux arch minor (inr (inr (inr p))) = differ 0 _ _ (λ x. omega (arith, x)) p.1

manylinux_once : (minor : ℕ) (arch : LinuxArch) → minor < 255 → IsOnce (manylinux_platforms minor arch)
unfolding manylinux_platforms
manylinux_once minor arch small =
    let numbers = down (glibc_floor arch) (minor + 1) in
    let few : (k : ℕ) → IsOneOf k numbers → k < 2 ^ 64 = λ k h. let b = (in_down _ _ k h).1 in omega (arith, b) in
    once_append (flat_map (glibc_names arch) numbers) (linux_name arch ∷ [])
    (once_flat (glibc_names arch) numbers (once_down _ _) (λ k _. glibc_once arch k)
    (λ a b w p q f g. glibc_same arch a b w (few a p) (few b q) (in_glibc arch a w f) (in_glibc arch b w g)))
    (λ h. h, tt)
    (λ w p q. let r = in_flat (glibc_names arch) w numbers p in
    not_linux arch r.0 (subst (IsGlibcName arch r.0) (one_of_one w (linux_name arch) q) (in_glibc arch r.0 w r.2)))

musllinux_once : (minor : ℕ) (arch : LinuxArch) → minor < 255 → IsOnce (musllinux_platforms minor arch)
unfolding musllinux_platforms
musllinux_once minor arch small =
    let numbers = down 0 (minor + 1) in
    let few : (k : ℕ) → IsOneOf k numbers → k < 2 ^ 64 = λ k h. let b = (in_down _ _ k h).1 in omega (arith, b) in
    once_append (map (musl_name arch) numbers) (linux_name arch ∷ [])
    (once_map (musl_name arch) numbers (once_down _ _) (λ a b p q. musl_same arch a b (few a p) (few b q)))
    (λ h. h, tt)
    (λ w p q. let r = in_map (musl_name arch) w numbers p in
    differ 0 _ _ (λ x. omega (arith, x)) (sym (one_of_one w (linux_name arch) q) ∙ r.2))

-- ---- macOS

formats_once : (arch : MacArch) (major : ℕ) → IsOnce (mac_formats arch major)
formats_once mac.X86_64 major = once_tried (mac_formats mac.X86_64 major) refl
formats_once mac.Arm64 major = elim (cases_Bool (nat_lt major 11)) [
  | inl e ↦ rw e (once_tried (codes "universal2" ∷ []) refl)
  | inr e ↦ rw e (once_tried (codes "arm64" ∷ codes "universal2" ∷ []) refl)
]

mac_names_same : (arch : MacArch) (m n p q : ℕ) (w : List ℕ) → m < 256 → n < 256 → p < 256 → q < 256 → IsOneOf w (mac_names arch m n) → IsOneOf w (mac_names arch p q) → (m ≡ p) × (n ≡ q)
mac_names_same arch m n p q w a b c d f g =
    let r = in_map (mac_name m n) w (mac_formats arch m) f in
    let s = in_map (mac_name p q) w (mac_formats arch p) g in
    let same = mac_same m n p q r.0 s.0 (omega arith) (omega arith) (omega arith) (omega arith) (sym r.2 ∙ s.2) in
    (same.0, same.1)

mac_names_once : (arch : MacArch) (m n : ℕ) → m < 256 → n < 256 → IsOnce (mac_names arch m n)
mac_names_once arch m n a b = once_map (mac_name m n) (mac_formats arch m) (formats_once arch m)
    (λ f g _ _ e. (mac_same m n m n f g (omega arith) (omega arith) (omega arith) (omega arith) e).2)

old_once : (arch : MacArch) (end : ℕ) → end ≤ 256 → IsOnce (old_mac_platforms arch end)
old_once arch end small =
    let few : (k : ℕ) → IsOneOf k (down 4 end) → k < 256 = λ k h. let b = (in_down _ _ k h).1 in omega (arith, b) in
    once_flat (mac_names arch 10) (down 4 end) (once_down _ _) (λ k h. mac_names_once arch 10 k (omega arith) (few k h))
    (λ a b w p q f g. (mac_names_same arch 10 a 10 b w (omega arith) (few a p) (omega arith) (few b q) f g).1)

new_once : (arch : MacArch) (end : ℕ) → end ≤ 256 → IsOnce (flat_map (λ version. mac_names arch version 0) (down 11 end))
new_once arch end small =
    let few : (k : ℕ) → IsOneOf k (down 11 end) → k < 256 = λ k h. let b = (in_down _ _ k h).1 in omega (arith, b) in
    once_flat (λ version. mac_names arch version 0) (down 11 end) (once_down _ _) (λ k h. mac_names_once arch k 0 (few k h) (omega arith))
    (λ a b w p q f g. (mac_names_same arch a 0 b 0 w (few a p) (omega arith) (few b q) (omega arith) f g).0)

mac_once : (major minor : ℕ) (arch : MacArch) → major < 255 → minor < 255 → IsOnce (mac_platforms major minor arch)
unfolding mac_platforms
mac_once major minor arch a b = elim (cases_Bool (nat_lt major 11)) [
  | inl e ↦ rw e (old_once arch (minor + 1) (omega arith))
  | inr e ↦ rw e (once_append (flat_map (λ version. mac_names arch version 0) (down 11 (major + 1))) (old_mac_platforms arch 17)
      (new_once arch (major + 1) (omega arith)) (old_once arch 17 (omega arith))
      (λ w p q.
      let r = in_flat (λ version. mac_names arch version 0) w (down 11 (major + 1)) p in
      let s = in_flat (mac_names arch 10) w (down 4 17) q in
      let x = in_down 11 (major + 1) r.0 r.1 in
      let y = in_down 4 17 s.0 s.1 in
      let same = (mac_names_same arch r.0 0 10 s.0 w (omega (arith, x.1)) (omega arith) (omega arith) (omega (arith, y.1)) r.2 s.2).0 in
      omega (arith, x.0, same)))
]

-- ---- all of them

pub platforms_once : (p : Platform) → is_platform p ≡ true → IsOnce (platforms_of p)
platforms_once (platform.Manylinux minor arch) h = manylinux_once minor arch (manylinux_small minor arch h)
platforms_once (platform.Musllinux minor arch) h = musllinux_once minor arch (musllinux_small minor arch h)
platforms_once (platform.MacOs major minor arch) h = let small = mac_small major minor arch h in mac_once major minor arch small.0 small.1
platforms_once (platform.Windows arch) h = (λ x. x, tt)

-- ---- what runs there

in_formats : (arch : MacArch) (major : ℕ) (f : List ℕ) → IsOneOf f (mac_formats arch major) → RunsFormat arch major f
in_formats mac.X86_64 major f h = h
in_formats mac.Arm64 major f h = elim (cases_Bool (nat_lt major 11)) [
  | inl e ↦ let g : IsOneOf f (codes "universal2" ∷ []) = rw e at h in inl (one_of_one f _ g)
  | inr e ↦ let g : IsOneOf f (codes "arm64" ∷ codes "universal2" ∷ []) = rw e at h in elim g [
    | inl p ↦ inr (grind (arith, nat_tests), p)
    | inr q ↦ inl (one_of_one f _ q)
  ]
]

formats_in : (arch : MacArch) (major : ℕ) (f : List ℕ) → RunsFormat arch major f → IsOneOf f (mac_formats arch major)
formats_in mac.X86_64 major f h = h
formats_in mac.Arm64 major f (inl e) = elim (cases_Bool (nat_lt major 11)) [
  | inl t ↦ rw t (inl e)
  | inr t ↦ rw t (inr (inl e))
]
formats_in mac.Arm64 major f (inr p) =
    let new = p.0 in
    let t : nat_lt major 11 ≡ false = grind (arith, nat_tests) in
    rw t (inl p.1)

-- which versions of macOS there are
abbrev pub IsKnownMac : ℕ → ℕ → Type 0
IsKnownMac major minor = ((major ≡ 10) × (4 ≤ minor) × (minor ≤ 16)) ⊎ ((11 ≤ major) × (major ≤ 99) × (minor ≡ 0))

pub known_mac : (major minor : ℕ) (arch : MacArch) → is_platform (platform.MacOs major minor arch) ≡ true → IsKnownMac major minor
known_mac major minor arch h = elim (cases_Bool ((major == 10) && (is_intel arch && (nat_le 4 minor && nat_le minor 16)))) [
  | inl e ↦
      let p = and_parts (major == 10) _ e in
      let q = and_parts (is_intel arch) _ p.1 in
      let r = and_parts (nat_le 4 minor) (nat_le minor 16) q.1 in
      let x = p.0 in let y = r.0 in let z = r.1 in inl (grind (arith, nat_tests), grind (arith, nat_tests), grind (arith, nat_tests))
  | inr e ↦
      let g : (nat_le 11 major && (nat_le major 99 && (minor == 0))) ≡ true = rw e at h in
      let p = and_parts (nat_le 11 major) _ g in
      let q = and_parts (nat_le major 99) (minor == 0) p.1 in
      let x = p.0 in let y = q.0 in let z = q.1 in inr (grind (arith, nat_tests), grind (arith, nat_tests), grind (arith, nat_tests))
]

not_later : (v major minor : ℕ) → v ≤ major → IsNotLater v 0 major minor
not_later v major minor h = elim (cases_Bool (nat_lt v major)) [
  | inl e ↦ inl (grind (arith, nat_tests))
  | inr e ↦ inr (grind (arith, nat_tests), omega arith)
]

in_old_mac : (arch : MacArch) (end : ℕ) (w : List ℕ) → IsOneOf w (old_mac_platforms arch end)
    → (k : ℕ) × (f : List ℕ) × (4 ≤ k) × (k < end) × RunsFormat arch 10 f × (w ≡ mac_name 10 k f)
in_old_mac arch end w h =
    let r = in_flat (mac_names arch 10) w (down 4 end) h in
    let b = in_down 4 end r.0 r.1 in
    let s = in_map (mac_name 10 r.0) w (mac_formats arch 10) r.2 in
    (r.0, s.0, b.0, b.1, in_formats arch 10 s.0 s.1, s.2)

old_mac_in : (arch : MacArch) (end k : ℕ) (f w : List ℕ) → 4 ≤ k → k < end → RunsFormat arch 10 f → w ≡ mac_name 10 k f → IsOneOf w (old_mac_platforms arch end)
old_mac_in arch end k f w a b r e = flat_in (mac_names arch 10) w k (down 4 end) (down_in 4 end k a b)
    (map_in (mac_name 10 k) w f (mac_formats arch 10) (formats_in arch 10 f r) e)

mac_runs : (major minor : ℕ) (arch : MacArch) (w : List ℕ) → IsKnownMac major minor → IsOneOf w (mac_platforms major minor arch) → RunsOn (platform.MacOs major minor arch) w
unfolding mac_platforms
mac_runs major minor arch w (inl known) h =
    let x = known.0 in
    let t : nat_lt major 11 ≡ true = grind (arith, nat_tests) in
    let g : IsOneOf w (old_mac_platforms arch (minor + 1)) = rw t at h in
    let r = in_old_mac arch (minor + 1) w g in
    ((10, r.0), r.1, inl (refl, r.2, omega (arith, r.3, known.2)), inr (sym known.0, omega (arith, r.3)), r.4, r.5)
mac_runs major minor arch w (inr known) h =
    let x = known.0 in
    let t : nat_lt major 11 ≡ false = grind (arith, nat_tests) in
    let new = flat_map (λ version. mac_names arch version 0) (down 11 (major + 1)) in
    let g : IsOneOf w (new ++ old_mac_platforms arch 17) = rw t at h in
    elim (in_append w new (old_mac_platforms arch 17) g) [
      | inl p ↦
          let r = in_flat (λ version. mac_names arch version 0) w (down 11 (major + 1)) p in
          let b = in_down 11 (major + 1) r.0 r.1 in
          let s = in_map (mac_name r.0 0) w (mac_formats arch r.0) r.2 in
          ((r.0, 0), s.0, inr (b.0, refl), not_later r.0 major minor (omega (arith, b.1)), in_formats arch r.0 s.0 s.1, s.2)
      | inr q ↦
          let r = in_old_mac arch 17 w q in
          ((10, r.0), r.1, inl (refl, r.2, omega (arith, r.3)), inl (omega arith), r.4, r.5)
    ]

runs_mac : (major minor : ℕ) (arch : MacArch) (w : List ℕ) → IsKnownMac major minor → (m n : ℕ) (f : List ℕ) → IsMacVersion m n → IsNotLater m n major minor → RunsFormat arch m f
    → w ≡ mac_name m n f → IsOneOf w (mac_platforms major minor arch)
unfolding mac_platforms
runs_mac major minor arch w (inl known) m n f (inl v) (inl less) r e = absurd (omega (arith, known.0, v.0, less))
runs_mac major minor arch w (inl known) m n f (inl v) (inr same) r e =
    let x = known.0 in
    let t : nat_lt major 11 ≡ true = grind (arith, nat_tests) in
    rw t (old_mac_in arch (minor + 1) n f w v.1 (omega (arith, same.1)) (subst (λ k. RunsFormat arch k f) v.0 r) (e ∙ ap (λ k. mac_name k n f) v.0))
runs_mac major minor arch w (inl known) m n f (inr v) (inl less) r e = absurd (omega (arith, known.0, v.0, less))
runs_mac major minor arch w (inl known) m n f (inr v) (inr same) r e = absurd (omega (arith, known.0, v.0, same.0))
runs_mac major minor arch w (inr known) m n f (inl v) later r e =
    let x = known.0 in
    let t : nat_lt major 11 ≡ false = grind (arith, nat_tests) in
    let new = flat_map (λ version. mac_names arch version 0) (down 11 (major + 1)) in
    rw t (in_right w new (old_mac_platforms arch 17) (old_mac_in arch 17 n f w v.1 (omega (arith, v.2)) (subst (λ k. RunsFormat arch k f) v.0 r) (e ∙ ap (λ k. mac_name k n f) v.0)))
runs_mac major minor arch w (inr known) m n f (inr v) later r e =
    let x = known.0 in
    let t : nat_lt major 11 ≡ false = grind (arith, nat_tests) in
    let new = flat_map (λ version. mac_names arch version 0) (down 11 (major + 1)) in
    rw t (in_left w new (old_mac_platforms arch 17) (flat_in (λ version. mac_names arch version 0) w m (down 11 (major + 1)) (down_in 11 (major + 1) m v.0 (up_to later))
    (map_in (mac_name m 0) w f (mac_formats arch m) (formats_in arch m f r) (e ∙ ap (λ k. mac_name m k f) v.1))))
  where
    up_to : IsNotLater m n major minor → m < major + 1
    up_to (inl less) = omega (arith, less)
    up_to (inr same) = omega (arith, same.0)

pub runs_of : (p : Platform) (w : List ℕ) → is_platform p ≡ true → IsOneOf w (platforms_of p) → RunsOn p w
unfolding manylinux_platforms musllinux_platforms
runs_of (platform.Manylinux minor arch) w known h =
    let numbers = down (glibc_floor arch) (minor + 1) in
    elim (in_append w (flat_map (glibc_names arch) numbers) (linux_name arch ∷ []) h) [
      | inl p ↦
          let r = in_flat (glibc_names arch) w numbers p in
          let b = in_down (glibc_floor arch) (minor + 1) r.0 r.1 in
          inr (r.0, b.0, omega (arith, b.1), in_glibc arch r.0 w r.2)
      | inr q ↦ inl (one_of_one w _ q)
    ]
runs_of (platform.Musllinux minor arch) w known h =
    elim (in_append w (map (musl_name arch) (down 0 (minor + 1))) (linux_name arch ∷ []) h) [
      | inl p ↦
          let r = in_map (musl_name arch) w (down 0 (minor + 1)) p in
          let b = in_down 0 (minor + 1) r.0 r.1 in
          inr (r.0, omega (arith, b.1), r.2)
      | inr q ↦ inl (one_of_one w _ q)
    ]
runs_of (platform.MacOs major minor arch) w known h = mac_runs major minor arch w (known_mac major minor arch known) h
runs_of (platform.Windows arch) w known h = one_of_one w _ h

pub runs_in : (p : Platform) (w : List ℕ) → is_platform p ≡ true → RunsOn p w → IsOneOf w (platforms_of p)
unfolding manylinux_platforms musllinux_platforms
runs_in (platform.Manylinux minor arch) w known (inl e) = in_right w (flat_map (glibc_names arch) (down (glibc_floor arch) (minor + 1))) (linux_name arch ∷ []) (inl e)
runs_in (platform.Manylinux minor arch) w known (inr (older, low, high, name)) =
    let numbers = down (glibc_floor arch) (minor + 1) in
    in_left w (flat_map (glibc_names arch) numbers) (linux_name arch ∷ [])
    (flat_in (glibc_names arch) w older numbers (down_in _ _ older low (omega (arith, high))) (glibc_in arch older w name))
runs_in (platform.Musllinux minor arch) w known (inl e) = in_right w (map (musl_name arch) (down 0 (minor + 1))) (linux_name arch ∷ []) (inl e)
runs_in (platform.Musllinux minor arch) w known (inr (older, high, name)) =
    in_left w (map (musl_name arch) (down 0 (minor + 1))) (linux_name arch ∷ [])
    (map_in (musl_name arch) w older (down 0 (minor + 1)) (down_in 0 (minor + 1) older (omega arith) (omega (arith, high))) name)
runs_in (platform.MacOs major minor arch) w known (than, f, version, later, format, e) =
    runs_mac major minor arch w (known_mac major minor arch known) than.0 than.1 f version later format e
runs_in (platform.Windows arch) w known e = inl e

-- no platform is `any`
pub not_any : (p : Platform) → RunsOn p any_platform → ⊥
not_any (platform.Manylinux minor arch) (inl e) = differ 0 _ _ (λ x. omega (arith, x)) e
not_any (platform.Manylinux minor arch) (inr (older, low, high, inl e)) = differ 0 _ _ (λ x. omega (arith, x)) e
not_any (platform.Manylinux minor arch) (inr (older, low, high, inr (inl e))) = differ 0 _ _ (λ x. omega (arith, x)) e.1
not_any (platform.Manylinux minor arch) (inr (older, low, high, inr (inr (inl e)))) = differ 0 _ _ (λ x. omega (arith, x)) e.1
not_any (platform.Manylinux minor arch) (inr (older, low, high, inr (inr (inr e)))) = differ 0 _ _ (λ x. omega (arith, x)) e.1
not_any (platform.Musllinux minor arch) (inl e) = differ 0 _ _ (λ x. omega (arith, x)) e
not_any (platform.Musllinux minor arch) (inr (older, high, e)) = differ 0 _ _ (λ x. omega (arith, x)) e
not_any (platform.MacOs major minor arch) (than, f, version, later, format, e) = differ 0 _ _ (λ x. omega (arith, x)) e
not_any (platform.Windows windows.X86) e = differ 0 _ _ (λ x. omega (arith, x)) e
not_any (platform.Windows windows.Amd64) e = differ 0 _ _ (λ x. omega (arith, x)) e
not_any (platform.Windows windows.Arm64) e = differ 0 _ _ (λ x. omega (arith, x)) e
