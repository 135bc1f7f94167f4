-- What is read as PLATFORM is what the relation says, and the other way round.
use Rattle.std.proofs.Common.{◌≡◌, ℕ, ◌<◌, Bool, true, false, ◌&&◌, bytes_eq, if◌then◌else◌, List, ◌∷◌, ◌++◌, codes, decimal, Option, Some, None, refl, sym, subst, ap, ◌∙◌, ◌⊎◌, inl, inr, arith}
use Rattle.std.proofs.lemmas.Bool.{and_parts}
use Rattle.std.proofs.lemmas.Option.{cond_some, same_Some}
use Rattle.std.specs.Cmp.Lexicographic.{bytes_decides}
use Rattle.pytext.proofs.OptionsLemmas.{bind_some}
use Rattle.pytext.specs.Options.{◌>>=◌}
use Rattle.pywheel_core.proofs.Lemmas.Target.Numbers.{decimal_lacks, number_made, number_says}
use Rattle.pywheel_core.proofs.Lemmas.Texts.Cuts.{Lacks, cut_joined, cut_lacking, cut_says, lacks_both}
use Rattle.pywheel_core.proofs.TargetLemmas.{mac_fits, manylinux_fits, musllinux_fits}
use Rattle.pywheel_core.specs.Target.Grammar.{IsShortName, IsTriple, IsWheelName, PlatformText}
use Rattle.pywheel_core.specs.Target.Names.{linux_arch_name, mac_arch_name, mac_triple, windows_name, windows_triple}
use Rattle.pywheel_core.specs.Target.Reading.{apple_platform, glibc_platform, glibc_triple, linux_arch_of, linux_triple, lone_platform, mac_arch_of, mac_platform, msvc_platform, musl_platform, number_below, older_platform, platform_behind, platform_in, platform_of, shaped_platform, triple_platform, undashed_in, undashed_platform, versioned, windows_platform}
use Rattle.pywheel_core.specs.Target.Value.{is_platform}
use Rattle.pywheel_core.specs.Texts.{cut_at}
use Rattle.pywheel_core.specs.declared.target.platform.LinuxArch.{LinuxArch}
use Rattle.pywheel_core.specs.declared.target.platform.LinuxArch.TheVariants as linux
use Rattle.pywheel_core.specs.declared.target.platform.MacArch.{MacArch}
use Rattle.pywheel_core.specs.declared.target.platform.MacArch.TheVariants as mac
use Rattle.pywheel_core.specs.declared.target.platform.Platform.{Platform}
use Rattle.pywheel_core.specs.declared.target.platform.Platform.TheVariants as platform
use Rattle.pywheel_core.specs.declared.target.platform.WindowsArch.{WindowsArch}
use Rattle.pywheel_core.specs.declared.target.platform.WindowsArch.TheVariants as windows

-- a text that is a word, or what the other words give
word : {A : Type 0} (text w : List ℕ) (o other : Option A) (y : A) → (if bytes_eq text w then o else other) ≡ Some y
    → ((text ≡ w) × (o ≡ Some y)) ⊎ (other ≡ Some y)
word text w o other y h = by_test (bytes_eq text w) (bytes_decides text w).0 h
  where
    by_test : (test : Bool) → (test ≡ true → text ≡ w) → (if test then o else other) ≡ Some y → ((text ≡ w) × (o ≡ Some y)) ⊎ (other ≡ Some y)
    by_test true same e = inl (same refl, e)
    by_test false same e = inr e

-- a text that is the name of a value, or what the other names give
named : {A : Type 0} (name : A → List ℕ) (text : List ℕ) (x y : A) (other : Option A) → (if bytes_eq text (name x) then Some x else other) ≡ Some y
    → (text ≡ name y) ⊎ (other ≡ Some y)
named name text x y other h = elim (word text (name x) (Some x) other y h) [
  | inl e ↦ inl (e.0 ∙ ap name (same_Some x y e.1))
  | inr e ↦ inr e
]

-- ---- what is read, the text says

linux_arch_says : (text : List ℕ) (a : LinuxArch) → linux_arch_of text ≡ Some a → text ≡ linux_arch_name a
unfolding linux_arch_of
linux_arch_says text a h0 = elim (named linux_arch_name text linux.X86_64 a _ h0) [
  | inl e ↦ e
  | inr h1 ↦ elim (named linux_arch_name text linux.I686 a _ h1) [
    | inl e ↦ e
    | inr h2 ↦ elim (named linux_arch_name text linux.Aarch64 a _ h2) [
      | inl e ↦ e
      | inr h3 ↦ elim (named linux_arch_name text linux.Armv7l a _ h3) [
        | inl e ↦ e
        | inr h4 ↦ elim (named linux_arch_name text linux.Ppc64le a _ h4) [
          | inl e ↦ e
          | inr h5 ↦ elim (named linux_arch_name text linux.S390x a _ h5) [
            | inl e ↦ e
            | inr h6 ↦ elim (named linux_arch_name text linux.Riscv64 a _ h6) [
              | inl e ↦ e
              | inr h7 ↦ elim (named linux_arch_name text linux.Loongarch64 a None h7) [ inl e ↦ e | inr none ↦ absurd cc ]
            ]
          ]
        ]
      ]
    ]
  ]
]

mac_arch_says : (text : List ℕ) (a : MacArch) → mac_arch_of text ≡ Some a → text ≡ mac_arch_name a
unfolding mac_arch_of
mac_arch_says text a h0 = elim (named mac_arch_name text mac.X86_64 a _ h0) [
  | inl e ↦ e
  | inr h1 ↦ elim (named mac_arch_name text mac.Arm64 a None h1) [ inl e ↦ e | inr none ↦ absurd cc ]
]

-- `MAJOR_MINOR_ARCH`
abbrev three : List ℕ × List ℕ × List ℕ → List ℕ
three x = x.0 ++ (95 ∷ (x.1 ++ (95 ∷ x.2)))

versioned_says : (text : List ℕ) (x : List ℕ × List ℕ × List ℕ) → versioned text ≡ Some x → text ≡ three x
unfolding versioned
versioned_says text x h =
    let a = bind_some (cut_at 95 text) (λ major. cut_at 95 major.1 >>= λ minor. Some (major.0, minor.0, minor.1)) x h in
    let b = bind_some (cut_at 95 a.0.1) (λ minor. Some (a.0.0, minor.0, minor.1)) x a.2 in
    let is : (a.0.0, b.0.0, b.0.1) ≡ x = same_Some (a.0.0, b.0.0, b.0.1) x b.2 in
    (cut_says 95 text a.0.0 a.0.1 a.1).0 ∙ ap (λ t. a.0.0 ++ (95 ∷ t)) (cut_says 95 a.0.1 b.0.0 b.0.1 b.1).0 ∙ ap three is

-- a word before three parts, which are these
joined : (w text : List ℕ) (x : List ℕ × List ℕ × List ℕ) (a b c : List ℕ) → text ≡ three x → x.0 ≡ a → x.1 ≡ b → x.2 ≡ c → w ++ text ≡ w ++ three (a, b, c)
joined w text x a b c whole p q r = ap (λ t. w ++ t) (whole ∙ (λ i. three (p i, q i, r i)))

renamed : (q p : Platform) (text : List ℕ) → q ≡ p → IsWheelName q text → IsWheelName p text
renamed q p text is named = subst (λ r. IsWheelName r text) is named

glibc_says : (text : List ℕ) (p : Platform) → glibc_platform text ≡ Some p → IsWheelName p (codes "manylinux_" ++ text)
unfolding glibc_platform
glibc_says text p h =
    let v = bind_some (versioned text) (λ parts. number_below 100 parts.1 >>= λ minor. linux_arch_of parts.2 >>= λ arch.
    if bytes_eq parts.0 (codes "2") then Some (platform.Manylinux minor arch) else None) p h in
    let m = bind_some (number_below 100 v.0.1) (λ minor. linux_arch_of v.0.2 >>= λ arch.
    if bytes_eq v.0.0 (codes "2") then Some (platform.Manylinux minor arch) else None) p v.2 in
    let a = bind_some (linux_arch_of v.0.2) (λ arch. if bytes_eq v.0.0 (codes "2") then Some (platform.Manylinux m.0 arch) else None) p m.2 in
    let k = cond_some (bytes_eq v.0.0 (codes "2")) (platform.Manylinux m.0 a.0) p a.2 in
    let major = (bytes_decides v.0.0 (codes "2")).0 k.0 in
    let minor = number_says 100 v.0.1 m.0 (omega arith) m.1 in
    let arch = linux_arch_says v.0.2 a.0 a.1 in
    let whole = joined (codes "manylinux_") text v.0 (codes "2") (decimal m.0) (linux_arch_name a.0) (versioned_says text v.0 v.1) major minor arch in
    renamed (platform.Manylinux m.0 a.0) p (codes "manylinux_" ++ text) k.1 (inl whole)

musl_says : (text : List ℕ) (p : Platform) → musl_platform text ≡ Some p → IsWheelName p (codes "musllinux_" ++ text)
unfolding musl_platform
musl_says text p h =
    let v = bind_some (versioned text) (λ parts. number_below 100 parts.1 >>= λ minor. linux_arch_of parts.2 >>= λ arch.
    if bytes_eq parts.0 (codes "1") then Some (platform.Musllinux minor arch) else None) p h in
    let m = bind_some (number_below 100 v.0.1) (λ minor. linux_arch_of v.0.2 >>= λ arch.
    if bytes_eq v.0.0 (codes "1") then Some (platform.Musllinux minor arch) else None) p v.2 in
    let a = bind_some (linux_arch_of v.0.2) (λ arch. if bytes_eq v.0.0 (codes "1") then Some (platform.Musllinux m.0 arch) else None) p m.2 in
    let k = cond_some (bytes_eq v.0.0 (codes "1")) (platform.Musllinux m.0 a.0) p a.2 in
    let major = (bytes_decides v.0.0 (codes "1")).0 k.0 in
    let minor = number_says 100 v.0.1 m.0 (omega arith) m.1 in
    let arch = linux_arch_says v.0.2 a.0 a.1 in
    let whole = joined (codes "musllinux_") text v.0 (codes "1") (decimal m.0) (linux_arch_name a.0) (versioned_says text v.0 v.1) major minor arch in
    renamed (platform.Musllinux m.0 a.0) p (codes "musllinux_" ++ text) k.1 whole

mac_says : (text : List ℕ) (p : Platform) → mac_platform text ≡ Some p → IsWheelName p (codes "macosx_" ++ text)
unfolding mac_platform
mac_says text p h =
    let v = bind_some (versioned text) (λ parts. number_below 100 parts.0 >>= λ major. number_below 100 parts.1 >>= λ minor. mac_arch_of parts.2 >>= λ arch.
    Some (platform.MacOs major minor arch)) p h in
    let n = bind_some (number_below 100 v.0.0) (λ major. number_below 100 v.0.1 >>= λ minor. mac_arch_of v.0.2 >>= λ arch. Some (platform.MacOs major minor arch)) p v.2 in
    let m = bind_some (number_below 100 v.0.1) (λ minor. mac_arch_of v.0.2 >>= λ arch. Some (platform.MacOs n.0 minor arch)) p n.2 in
    let a = bind_some (mac_arch_of v.0.2) (λ arch. Some (platform.MacOs n.0 m.0 arch)) p m.2 in
    let major = number_says 100 v.0.0 n.0 (omega arith) n.1 in
    let minor = number_says 100 v.0.1 m.0 (omega arith) m.1 in
    let arch = mac_arch_says v.0.2 a.0 a.1 in
    let whole = joined (codes "macosx_") text v.0 (decimal n.0) (decimal m.0) (mac_arch_name a.0) (versioned_says text v.0 v.1) major minor arch in
    renamed (platform.MacOs n.0 m.0 a.0) p (codes "macosx_" ++ text) (same_Some (platform.MacOs n.0 m.0 a.0) p a.2) whole

older_says : (minor : ℕ) (text : List ℕ) (p : Platform) → older_platform minor text ≡ Some p
    → (arch : LinuxArch) × (platform.Manylinux minor arch ≡ p) × (text ≡ linux_arch_name arch)
unfolding older_platform
older_says minor text p h =
    let a = bind_some (linux_arch_of text) (λ arch. Some (platform.Manylinux minor arch)) p h in
    (a.0, same_Some (platform.Manylinux minor a.0) p a.2, linux_arch_says text a.0 a.1)

windows_says : (text : List ℕ) (p : Platform) → windows_platform text ≡ Some p → IsWheelName p (codes "win_" ++ text)
unfolding windows_platform
windows_says text p h0 = elim (word text (codes "amd64") (Some (platform.Windows windows.Amd64)) _ p h0) [
  | inl e ↦ renamed (platform.Windows windows.Amd64) p (codes "win_" ++ text) (same_Some (platform.Windows windows.Amd64) p e.1) (ap (λ t. codes "win_" ++ t) e.0)
  | inr h1 ↦ elim (word text (codes "arm64") (Some (platform.Windows windows.Arm64)) None p h1) [
    | inl e ↦ renamed (platform.Windows windows.Arm64) p (codes "win_" ++ text) (same_Some (platform.Windows windows.Arm64) p e.1) (ap (λ t. codes "win_" ++ t) e.0)
    | inr none ↦ absurd cc
  ]
]

-- a word before the first `_`, or what the other words give
begun : (first w rest : List ℕ) (o other : Option Platform) (p : Platform) → (o ≡ Some p → IsWheelName p (w ++ (95 ∷ rest)))
    → (if bytes_eq first w then o else other) ≡ Some p → IsWheelName p (first ++ (95 ∷ rest)) ⊎ (other ≡ Some p)
begun first w rest o other p says h = elim (word first w o other p h) [
  | inl e ↦ inl (subst (λ t. IsWheelName p (t ++ (95 ∷ rest))) (sym e.0) (says e.1))
  | inr e ↦ inr e
]

older_5 : (rest : List ℕ) (p : Platform) → older_platform 5 rest ≡ Some p → IsWheelName p (codes "manylinux1_" ++ rest)
older_5 rest p h = let x = older_says 5 rest p h in
    renamed (platform.Manylinux 5 x.0) p (codes "manylinux1_" ++ rest) x.1 (inr (inl (refl, ap (λ t. codes "manylinux1_" ++ t) x.2)))

older_12 : (rest : List ℕ) (p : Platform) → older_platform 12 rest ≡ Some p → IsWheelName p (codes "manylinux2010_" ++ rest)
older_12 rest p h = let x = older_says 12 rest p h in
    renamed (platform.Manylinux 12 x.0) p (codes "manylinux2010_" ++ rest) x.1 (inr (inr (inl (refl, ap (λ t. codes "manylinux2010_" ++ t) x.2))))

older_17 : (rest : List ℕ) (p : Platform) → older_platform 17 rest ≡ Some p → IsWheelName p (codes "manylinux2014_" ++ rest)
older_17 rest p h = let x = older_says 17 rest p h in
    renamed (platform.Manylinux 17 x.0) p (codes "manylinux2014_" ++ rest) x.1 (inr (inr (inr (refl, ap (λ t. codes "manylinux2014_" ++ t) x.2))))

behind_says : (first rest : List ℕ) (p : Platform) → platform_behind first rest ≡ Some p → IsWheelName p (first ++ (95 ∷ rest))
unfolding platform_behind
behind_says first rest p h0 = elim (begun first (codes "manylinux") rest (glibc_platform rest) _ p (glibc_says rest p) h0) [
  | inl x ↦ x
  | inr h1 ↦ elim (begun first (codes "musllinux") rest (musl_platform rest) _ p (musl_says rest p) h1) [
    | inl x ↦ x
    | inr h2 ↦ elim (begun first (codes "macosx") rest (mac_platform rest) _ p (mac_says rest p) h2) [
      | inl x ↦ x
      | inr h3 ↦ elim (begun first (codes "win") rest (windows_platform rest) _ p (windows_says rest p) h3) [
        | inl x ↦ x
        | inr h4 ↦ elim (begun first (codes "manylinux1") rest (older_platform 5 rest) _ p (older_5 rest p) h4) [
          | inl x ↦ x
          | inr h5 ↦ elim (begun first (codes "manylinux2010") rest (older_platform 12 rest) _ p (older_12 rest p) h5) [
            | inl x ↦ x
            | inr h6 ↦ elim (begun first (codes "manylinux2014") rest (older_platform 17 rest) None p (older_17 rest p) h6) [ inl x ↦ x | inr none ↦ absurd cc ]
          ]
        ]
      ]
    ]
  ]
]

lone_says : (text : List ℕ) (p : Platform) → lone_platform text ≡ Some p → IsWheelName p text ⊎ IsShortName p text
unfolding lone_platform
lone_says text p h0 = elim (word text (codes "linux") (Some (platform.Manylinux 28 linux.X86_64)) _ p h0) [
  | inl e ↦ inr (inl (e.0, sym (same_Some (platform.Manylinux 28 linux.X86_64) p e.1)))
  | inr h1 ↦ elim (word text (codes "macos") (Some (platform.MacOs 14 0 mac.Arm64)) _ p h1) [
    | inl e ↦ inr (inr (inl (e.0, sym (same_Some (platform.MacOs 14 0 mac.Arm64) p e.1))))
    | inr h2 ↦ elim (word text (codes "windows") (Some (platform.Windows windows.Amd64)) _ p h2) [
      | inl e ↦ inr (inr (inr (e.0, sym (same_Some (platform.Windows windows.Amd64) p e.1))))
      | inr h3 ↦ elim (word text (codes "win32") (Some (platform.Windows windows.X86)) None p h3) [
        | inl e ↦ inl (renamed (platform.Windows windows.X86) p text (same_Some (platform.Windows windows.X86) p e.1) e.0)
        | inr none ↦ absurd cc
      ]
    ]
  ]
]

undashed_in_says : (text : List ℕ) (cut : Option (List ℕ × List ℕ)) (p : Platform) → cut_at 95 text ≡ cut → undashed_in text cut ≡ Some p → IsWheelName p text ⊎ IsShortName p text
undashed_in_says text None p e h = lone_says text p h
undashed_in_says text (Some parts) p e h = inl (subst (IsWheelName p) (sym (cut_says 95 text parts.0 parts.1 e).0) (behind_says parts.0 parts.1 p h))

undashed_says : (text : List ℕ) (p : Platform) → undashed_platform text ≡ Some p → IsWheelName p text ⊎ IsShortName p text
unfolding undashed_platform
undashed_says text p h = undashed_in_says text (cut_at 95 text) p refl h

-- ---- and in uv's words

triple_of : (q p : Platform) (text : List ℕ) → q ≡ p → IsTriple q text → IsTriple p text
triple_of q p text is named = subst (λ r. IsTriple r text) is named

apple_says : (first : List ℕ) (p : Platform) → apple_platform first ≡ Some p → IsTriple p (first ++ codes "-apple-darwin")
unfolding apple_platform
apple_says first p h0 = elim (word first (codes "aarch64") (Some (platform.MacOs 14 0 mac.Arm64)) _ p h0) [
  | inl e ↦ triple_of (platform.MacOs 14 0 mac.Arm64) p (first ++ codes "-apple-darwin") (same_Some (platform.MacOs 14 0 mac.Arm64) p e.1) (refl, refl, ap (λ t. t ++ codes "-apple-darwin") e.0)
  | inr h1 ↦ elim (word first (codes "x86_64") (Some (platform.MacOs 14 0 mac.X86_64)) None p h1) [
    | inl e ↦ triple_of (platform.MacOs 14 0 mac.X86_64) p (first ++ codes "-apple-darwin") (same_Some (platform.MacOs 14 0 mac.X86_64) p e.1) (refl, refl, ap (λ t. t ++ codes "-apple-darwin") e.0)
    | inr none ↦ absurd cc
  ]
]

msvc_says : (first : List ℕ) (p : Platform) → msvc_platform first ≡ Some p → IsTriple p (first ++ codes "-pc-windows-msvc")
unfolding msvc_platform
msvc_says first p h0 = elim (word first (codes "x86_64") (Some (platform.Windows windows.Amd64)) _ p h0) [
  | inl e ↦ triple_of (platform.Windows windows.Amd64) p (first ++ codes "-pc-windows-msvc") (same_Some (platform.Windows windows.Amd64) p e.1) (ap (λ t. t ++ codes "-pc-windows-msvc") e.0)
  | inr h1 ↦ elim (word first (codes "i686") (Some (platform.Windows windows.X86)) _ p h1) [
    | inl e ↦ triple_of (platform.Windows windows.X86) p (first ++ codes "-pc-windows-msvc") (same_Some (platform.Windows windows.X86) p e.1) (ap (λ t. t ++ codes "-pc-windows-msvc") e.0)
    | inr h2 ↦ elim (word first (codes "aarch64") (Some (platform.Windows windows.Arm64)) None p h2) [
      | inl e ↦ triple_of (platform.Windows windows.Arm64) p (first ++ codes "-pc-windows-msvc") (same_Some (platform.Windows windows.Arm64) p e.1) (ap (λ t. t ++ codes "-pc-windows-msvc") e.0)
      | inr none ↦ absurd cc
    ]
  ]
]

glibc_triple_says : (a : LinuxArch) (text : List ℕ) (p : Platform) → glibc_triple a text ≡ Some p → IsTriple p (linux_arch_name a ++ (45 ∷ text))
unfolding glibc_triple
glibc_triple_says a text p h =
    let v = bind_some (versioned text) (λ parts. number_below 100 parts.2 >>= λ minor.
    if bytes_eq parts.0 (codes "manylinux") && bytes_eq parts.1 (codes "2") then Some (platform.Manylinux minor a) else None) p h in
    let m = bind_some (number_below 100 v.0.2) (λ minor. if bytes_eq v.0.0 (codes "manylinux") && bytes_eq v.0.1 (codes "2") then Some (platform.Manylinux minor a) else None) p v.2 in
    let k = cond_some (bytes_eq v.0.0 (codes "manylinux") && bytes_eq v.0.1 (codes "2")) (platform.Manylinux m.0 a) p m.2 in
    let both = and_parts (bytes_eq v.0.0 (codes "manylinux")) (bytes_eq v.0.1 (codes "2")) k.0 in
    let name = (bytes_decides v.0.0 (codes "manylinux")).0 both.0 in
    let major = (bytes_decides v.0.1 (codes "2")).0 both.1 in
    let minor = number_says 100 v.0.2 m.0 (omega arith) m.1 in
    let whole : text ≡ codes "manylinux_2_" ++ decimal m.0 = versioned_says text v.0 v.1 ∙ (λ i. three (name i, major i, minor i)) in
    triple_of (platform.Manylinux m.0 a) p (linux_arch_name a ++ (45 ∷ text)) k.1 (inl (ap (λ t. linux_arch_name a ++ (45 ∷ t)) whole))

linux_triple_says : (a : LinuxArch) (text : List ℕ) (p : Platform) → linux_triple a text ≡ Some p → IsTriple p (linux_arch_name a ++ (45 ∷ text))
unfolding linux_triple
linux_triple_says a text p h0 = elim (word text (codes "unknown-linux-gnu") (Some (platform.Manylinux 28 a)) _ p h0) [
  | inl e ↦ triple_of (platform.Manylinux 28 a) p (linux_arch_name a ++ (45 ∷ text)) (same_Some (platform.Manylinux 28 a) p e.1) (inr (inr (refl, ap (λ t. linux_arch_name a ++ (45 ∷ t)) e.0)))
  | inr h1 ↦ elim (word text (codes "unknown-linux-musl") (Some (platform.Musllinux 2 a)) _ p h1) [
    | inl e ↦ triple_of (platform.Musllinux 2 a) p (linux_arch_name a ++ (45 ∷ text)) (same_Some (platform.Musllinux 2 a) p e.1) (refl, ap (λ t. linux_arch_name a ++ (45 ∷ t)) e.0)
    | inr h2 ↦ elim (word text (codes "manylinux2014") (Some (platform.Manylinux 17 a)) _ p h2) [
      | inl e ↦ triple_of (platform.Manylinux 17 a) p (linux_arch_name a ++ (45 ∷ text)) (same_Some (platform.Manylinux 17 a) p e.1) (inr (inl (refl, ap (λ t. linux_arch_name a ++ (45 ∷ t)) e.0)))
      | inr h3 ↦ glibc_triple_says a text p h3
    ]
  ]
]

triple_says : (first rest : List ℕ) (p : Platform) → triple_platform first rest ≡ Some p → IsTriple p (first ++ (45 ∷ rest))
unfolding triple_platform
triple_says first rest p h0 = elim (word rest (codes "apple-darwin") (apple_platform first) _ p h0) [
  | inl e ↦ subst (λ t. IsTriple p (first ++ (45 ∷ t))) (sym e.0) (apple_says first p e.1)
  | inr h1 ↦ elim (word rest (codes "pc-windows-msvc") (msvc_platform first) _ p h1) [
    | inl e ↦ subst (λ t. IsTriple p (first ++ (45 ∷ t))) (sym e.0) (msvc_says first p e.1)
    | inr h2 ↦
        let a = bind_some (linux_arch_of first) (λ machine. linux_triple machine rest) p h2 in
        subst (λ t. IsTriple p (t ++ (45 ∷ rest))) (sym (linux_arch_says first a.0 a.1)) (linux_triple_says a.0 rest p a.2)
  ]
]

-- ---- all names

abbrev IsNamed : Platform → List ℕ → Type 0
IsNamed p text = IsWheelName p text ⊎ (IsTriple p text ⊎ IsShortName p text)

in_says : (text : List ℕ) (cut : Option (List ℕ × List ℕ)) (p : Platform) → cut_at 45 text ≡ cut → platform_in text cut ≡ Some p → IsNamed p text
in_says text None p e h = elim (undashed_says text p h) [
  | inl x ↦ inl x
  | inr x ↦ inr (inr x)
]
in_says text (Some parts) p e h = inr (inl (subst (IsTriple p) (sym (cut_says 45 text parts.0 parts.1 e).0) (triple_says parts.0 parts.1 p h)))

shaped_says : (text : List ℕ) (p : Platform) → shaped_platform text ≡ Some p → IsNamed p text
unfolding shaped_platform
shaped_says text p h = in_says text (cut_at 45 text) p refl h

pub platform_says : (text : List ℕ) (p : Platform) → platform_of text ≡ Some p → PlatformText text p
unfolding platform_of
platform_says text p h =
    let x = bind_some (shaped_platform text) (λ q. if is_platform q then Some q else None) p h in
    let k = cond_some (is_platform x.0) x.0 p x.2 in
    let it : PlatformText text x.0 = record { named = shaped_says text x.0 x.1; known = k.0 } in
    subst (PlatformText text) k.1 it

-- ---- and the other way round

linux_arch_made : (a : LinuxArch) → linux_arch_of (linux_arch_name a) ≡ Some a
unfolding linux_arch_of
linux_arch_made linux.X86_64 = refl
linux_arch_made a = refl

mac_arch_made : (a : MacArch) → mac_arch_of (mac_arch_name a) ≡ Some a
unfolding mac_arch_of
mac_arch_made mac.X86_64 = refl
mac_arch_made mac.Arm64 = refl

versioned_made : (x : List ℕ × List ℕ × List ℕ) → Lacks 95 x.0 → Lacks 95 x.1 → versioned (three x) ≡ Some x
unfolding versioned
versioned_made x major minor =
    ap (λ o. o >>= λ a. cut_at 95 a.1 >>= λ b. Some (a.0, b.0, b.1)) (cut_joined 95 x.0 (x.1 ++ (95 ∷ x.2)) major)
    ∙ ap (λ o. o >>= λ b. Some (x.0, b.0, b.1)) (cut_joined 95 x.1 x.2 minor)

glibc_made : (minor : ℕ) (a : LinuxArch) → minor < 100 → glibc_platform (three (codes "2", decimal minor, linux_arch_name a)) ≡ Some (platform.Manylinux minor a)
unfolding glibc_platform
glibc_made minor a few =
    let parts = versioned_made (codes "2", decimal minor, linux_arch_name a) refl (decimal_lacks 95 minor refl (omega arith)) in
    let number = number_made 100 minor (omega arith) few in
    let arch = linux_arch_made a in
    rw (parts, number, arch) refl

musl_made : (minor : ℕ) (a : LinuxArch) → minor < 100 → musl_platform (three (codes "1", decimal minor, linux_arch_name a)) ≡ Some (platform.Musllinux minor a)
unfolding musl_platform
musl_made minor a few =
    let parts = versioned_made (codes "1", decimal minor, linux_arch_name a) refl (decimal_lacks 95 minor refl (omega arith)) in
    let number = number_made 100 minor (omega arith) few in
    let arch = linux_arch_made a in
    rw (parts, number, arch) refl

mac_made : (major minor : ℕ) (a : MacArch) → major < 100 → minor < 100 → mac_platform (three (decimal major, decimal minor, mac_arch_name a)) ≡ Some (platform.MacOs major minor a)
unfolding mac_platform
mac_made major minor a high few =
    let parts = versioned_made (decimal major, decimal minor, mac_arch_name a) (decimal_lacks 95 major refl (omega arith)) (decimal_lacks 95 minor refl (omega arith)) in
    let first = number_made 100 major (omega arith) high in
    let second = number_made 100 minor (omega arith) few in
    let arch = mac_arch_made a in
    rw (parts, first, second, arch) refl

older_made : (minor : ℕ) (a : LinuxArch) → older_platform minor (linux_arch_name a) ≡ Some (platform.Manylinux minor a)
unfolding older_platform
older_made minor a = ap (λ o. o >>= λ arch. Some (platform.Manylinux minor arch)) (linux_arch_made a)

windows_made : (a : WindowsArch) → undashed_platform (windows_name a) ≡ Some (platform.Windows a)
unfolding undashed_platform platform_behind windows_platform lone_platform
windows_made windows.X86 = refl
windows_made a = refl

-- a glibc of an older name
at_minor : (n minor : ℕ) (a : LinuxArch) (text : List ℕ) → minor ≡ n → undashed_platform text ≡ Some (platform.Manylinux n a) → undashed_platform text ≡ Some (platform.Manylinux minor a)
at_minor n minor a text is h = h ∙ ap (λ m. Some (platform.Manylinux m a)) (sym is)

wheel_name_made : (p : Platform) (text : List ℕ) → is_platform p ≡ true → IsWheelName p text → undashed_platform text ≡ Some p
unfolding undashed_platform platform_behind
wheel_name_made (platform.Manylinux minor a) text known (inl is) = ap undashed_platform is ∙ glibc_made minor a (manylinux_fits minor a known)
wheel_name_made (platform.Manylinux minor a) text known (inr (inl is)) = at_minor 5 minor a text is.0 (ap undashed_platform is.1 ∙ older_made 5 a)
wheel_name_made (platform.Manylinux minor a) text known (inr (inr (inl is))) = at_minor 12 minor a text is.0 (ap undashed_platform is.1 ∙ older_made 12 a)
wheel_name_made (platform.Manylinux minor a) text known (inr (inr (inr is))) = at_minor 17 minor a text is.0 (ap undashed_platform is.1 ∙ older_made 17 a)
wheel_name_made (platform.Musllinux minor a) text known is = ap undashed_platform is ∙ musl_made minor a (musllinux_fits minor a known)
wheel_name_made (platform.MacOs major minor a) text known is =
    let fits = mac_fits major minor a known in ap undashed_platform is ∙ mac_made major minor a fits.0 fits.1
wheel_name_made (platform.Windows a) text known is = ap undashed_platform is ∙ windows_made a

-- no `-` stands in a name of wheels
arch_undashed : (a : LinuxArch) → Lacks 45 (linux_arch_name a)
arch_undashed linux.X86_64 = refl
arch_undashed a = refl

mac_arch_undashed : (a : MacArch) → Lacks 45 (mac_arch_name a)
mac_arch_undashed mac.X86_64 = refl
mac_arch_undashed mac.Arm64 = refl

windows_undashed : (a : WindowsArch) → Lacks 45 (windows_name a)
windows_undashed windows.X86 = refl
windows_undashed a = refl

worded_undashed : (front : List ℕ) (a : LinuxArch) → Lacks 45 front → Lacks 45 (front ++ (codes "_" ++ linux_arch_name a))
worded_undashed front a lead = lacks_both front (codes "_" ++ linux_arch_name a) lead (lacks_both (codes "_") (linux_arch_name a) refl (arch_undashed a))

numbered_undashed : (n : ℕ) (rest : List ℕ) → n < 100 → Lacks 45 rest → Lacks 45 (decimal n ++ (codes "_" ++ rest))
numbered_undashed n rest few h = lacks_both (decimal n) (codes "_" ++ rest) (decimal_lacks 45 n refl (omega arith)) (lacks_both (codes "_") rest refl h)

wheel_name_undashed : (p : Platform) (text : List ℕ) → is_platform p ≡ true → IsWheelName p text → Lacks 45 text
wheel_name_undashed (platform.Manylinux minor a) text known (inl is) =
    subst (Lacks 45) (sym is) (lacks_both (codes "manylinux_2_") (decimal minor ++ (codes "_" ++ linux_arch_name a)) refl (numbered_undashed minor (linux_arch_name a) (manylinux_fits minor a known) (arch_undashed a)))
wheel_name_undashed (platform.Manylinux minor a) text known (inr (inl is)) = subst (Lacks 45) (sym is.1) (worded_undashed (codes "manylinux1") a refl)
wheel_name_undashed (platform.Manylinux minor a) text known (inr (inr (inl is))) = subst (Lacks 45) (sym is.1) (worded_undashed (codes "manylinux2010") a refl)
wheel_name_undashed (platform.Manylinux minor a) text known (inr (inr (inr is))) = subst (Lacks 45) (sym is.1) (worded_undashed (codes "manylinux2014") a refl)
wheel_name_undashed (platform.Musllinux minor a) text known is =
    subst (Lacks 45) (sym is) (lacks_both (codes "musllinux_1_") (decimal minor ++ (codes "_" ++ linux_arch_name a)) refl (numbered_undashed minor (linux_arch_name a) (musllinux_fits minor a known) (arch_undashed a)))
wheel_name_undashed (platform.MacOs major minor a) text known is =
    let fits = mac_fits major minor a known in
    let rest = decimal minor ++ (codes "_" ++ mac_arch_name a) in
    let end : Lacks 45 rest = numbered_undashed minor (mac_arch_name a) fits.1 (mac_arch_undashed a) in
    subst (Lacks 45) (sym is) (lacks_both (codes "macosx_") (decimal major ++ (codes "_" ++ rest)) refl (numbered_undashed major rest fits.0 end))
wheel_name_undashed (platform.Windows a) text known is = subst (Lacks 45) (sym is) (windows_undashed a)

wheel_name_shaped : (p : Platform) (text : List ℕ) → is_platform p ≡ true → IsWheelName p text → shaped_platform text ≡ Some p
unfolding shaped_platform
wheel_name_shaped p text known is = ap (platform_in text) (cut_lacking 45 text (wheel_name_undashed p text known is)) ∙ wheel_name_made p text known is

-- uv's words
glibc_triple_made : (minor : ℕ) (a : LinuxArch) → minor < 100 → glibc_triple a (three (codes "manylinux", codes "2", decimal minor)) ≡ Some (platform.Manylinux minor a)
unfolding glibc_triple
glibc_triple_made minor a few =
    let parts = versioned_made (codes "manylinux", codes "2", decimal minor) refl refl in
    let number = number_made 100 minor (omega arith) few in
    rw (parts, number) refl

-- what stands behind ARCH, where it is Linux
triple_behind : (a : LinuxArch) (rest : List ℕ) (p : Platform) → triple_platform (linux_arch_name a) rest ≡ Some p → shaped_platform (linux_arch_name a ++ (45 ∷ rest)) ≡ Some p
unfolding shaped_platform
triple_behind a rest p h = ap (platform_in (linux_arch_name a ++ (45 ∷ rest))) (cut_joined 45 (linux_arch_name a) rest (arch_undashed a)) ∙ h

triple_made : (p : Platform) (text : List ℕ) → is_platform p ≡ true → IsTriple p text → shaped_platform text ≡ Some p
unfolding triple_platform linux_triple shaped_platform apple_platform msvc_platform
triple_made (platform.Manylinux minor a) text known (inl is) =
    ap shaped_platform is
    ∙ triple_behind a (codes "manylinux_2_" ++ decimal minor) (platform.Manylinux minor a)
    (ap (λ o. o >>= λ machine. linux_triple machine (codes "manylinux_2_" ++ decimal minor)) (linux_arch_made a) ∙ glibc_triple_made minor a (manylinux_fits minor a known))
triple_made (platform.Manylinux minor a) text known (inr (inl is)) =
    ap shaped_platform is.1
    ∙ triple_behind a (codes "manylinux2014") (platform.Manylinux minor a)
    (ap (λ o. o >>= λ machine. linux_triple machine (codes "manylinux2014")) (linux_arch_made a) ∙ ap (λ m. Some (platform.Manylinux m a)) (sym is.0))
triple_made (platform.Manylinux minor a) text known (inr (inr is)) =
    ap shaped_platform is.1
    ∙ triple_behind a (codes "unknown-linux-gnu") (platform.Manylinux minor a)
    (ap (λ o. o >>= λ machine. linux_triple machine (codes "unknown-linux-gnu")) (linux_arch_made a) ∙ ap (λ m. Some (platform.Manylinux m a)) (sym is.0))
triple_made (platform.Musllinux minor a) text known is =
    ap shaped_platform is.1
    ∙ triple_behind a (codes "unknown-linux-musl") (platform.Musllinux minor a)
    (ap (λ o. o >>= λ machine. linux_triple machine (codes "unknown-linux-musl")) (linux_arch_made a) ∙ ap (λ m. Some (platform.Musllinux m a)) (sym is.0))
triple_made (platform.MacOs major minor mac.X86_64) text known is = ap shaped_platform is.2 ∙ (λ i. Some (platform.MacOs (sym is.0 i) (sym is.1 i) mac.X86_64))
triple_made (platform.MacOs major minor mac.Arm64) text known is = ap shaped_platform is.2 ∙ (λ i. Some (platform.MacOs (sym is.0 i) (sym is.1 i) mac.Arm64))
triple_made (platform.Windows windows.X86) text known is = ap shaped_platform is
triple_made (platform.Windows a) text known is = ap shaped_platform is

short_name_made : (p : Platform) (text : List ℕ) → IsShortName p text → shaped_platform text ≡ Some p
unfolding shaped_platform undashed_platform lone_platform
short_name_made p text (inl is) = ap shaped_platform is.0 ∙ ap Some (sym is.1)
short_name_made p text (inr (inl is)) = ap shaped_platform is.0 ∙ ap Some (sym is.1)
short_name_made p text (inr (inr is)) = ap shaped_platform is.0 ∙ ap Some (sym is.1)

name_made : (p : Platform) (text : List ℕ) → is_platform p ≡ true → IsNamed p text → shaped_platform text ≡ Some p
name_made p text known (inl is) = wheel_name_shaped p text known is
name_made p text known (inr (inl is)) = triple_made p text known is
name_made p text known (inr (inr is)) = short_name_made p text is

pub platform_made : (text : List ℕ) (p : Platform) → PlatformText text p → platform_of text ≡ Some p
unfolding platform_of
platform_made text p x =
    ap (λ o. o >>= λ q. if is_platform q then Some q else None) (name_made p text x.known x.named)
    ∙ ap (λ (b : Bool). if b then Some p else None) x.known
