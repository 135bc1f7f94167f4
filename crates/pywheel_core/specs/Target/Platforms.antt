-- The platforms whose wheels a target takes, best first.
use Rattle.std.specs.Prelude.{ℕ, ◌+◌, ◌==◌, nat_le, nat_lt, zero, suc, if◌then◌else◌}
use Rattle.std.specs.Prelude.{List, [], ◌∷◌, ◌++◌, map, codes, decimal}
use Rattle.std.specs.List.{flat_map}
use Rattle.pywheel_core.specs.Target.Names.{linux_arch_name, windows_name}
use Rattle.pywheel_core.specs.Target.Value.{glibc_floor}
use Rattle.pywheel_core.specs.declared.target.platform.LinuxArch.{LinuxArch}
use Rattle.pywheel_core.specs.declared.target.platform.MacArch.{MacArch}
use Rattle.pywheel_core.specs.declared.target.platform.MacArch.TheVariants as mac
use Rattle.pywheel_core.specs.declared.target.platform.Platform.{Platform}
use Rattle.pywheel_core.specs.declared.target.platform.Platform.TheVariants as platform

-- the numbers from `low` on and below `end`, the greatest first
unfoldable pub down : ℕ → ℕ → List ℕ
down low zero = []
down low (suc n) = if nat_le low n then n ∷ down low n else []

-- ---- Linux with glibc

-- what wheels for glibc 2.`minor` were called before PEP 600, if they were (PEP 599, 571, 513)
abbrev pub older_names : ℕ → List (List ℕ)
older_names minor =
    if minor == 17 then codes "manylinux2014" ∷ []
    else (if minor == 12 then codes "manylinux2010" ∷ []
    else (if minor == 5 then codes "manylinux1" ∷ [] else []))

-- the names of PEP 600 and of before it
abbrev pub glibc_names : LinuxArch → ℕ → List (List ℕ)
glibc_names arch minor =
    (codes "manylinux_2_" ++ (decimal minor ++ (codes "_" ++ linux_arch_name arch)))
    ∷ map (λ name. name ++ (codes "_" ++ linux_arch_name arch)) (older_names minor)

abbrev pub linux_name : LinuxArch → List ℕ
linux_name arch = codes "linux_" ++ linux_arch_name arch

unfoldable pub manylinux_platforms : ℕ → LinuxArch → List (List ℕ)
manylinux_platforms minor arch =
    flat_map (glibc_names arch) (down (glibc_floor arch) (minor + 1)) ++ linux_name arch ∷ []

-- ---- Linux with musl

-- the name of PEP 656
abbrev pub musl_name : LinuxArch → ℕ → List ℕ
musl_name arch minor =
    codes "musllinux_1_" ++ (decimal minor ++ (codes "_" ++ linux_arch_name arch))

unfoldable pub musllinux_platforms : ℕ → LinuxArch → List (List ℕ)
musllinux_platforms minor arch = map (musl_name arch) (down 0 (minor + 1)) ++ linux_name arch ∷ []

-- ---- macOS

-- the formats of programs that run on this architecture, from the one made for it alone to the one
-- made for most; for Apple silicon there are programs of before macOS 11 in `universal2` alone
abbrev pub mac_formats : MacArch → ℕ → List (List ℕ)
mac_formats mac.X86_64 major = codes "x86_64" ∷ codes "intel" ∷ codes "fat64" ∷ codes "fat32"
    ∷ codes "universal2" ∷ codes "universal" ∷ []
mac_formats mac.Arm64 major = if nat_lt major 11 then codes "universal2" ∷ []
    else codes "arm64" ∷ codes "universal2" ∷ []

abbrev pub mac_name : ℕ → ℕ → List ℕ → List ℕ
mac_name major minor format =
    codes "macosx_" ++ (decimal major ++ (codes "_" ++ (decimal minor ++ (codes "_" ++ format))))

-- the names for one version
abbrev pub mac_names : MacArch → ℕ → ℕ → List (List ℕ)
mac_names arch major minor = map (mac_name major minor) (mac_formats arch major)

-- the names for the versions from 10.4 on and below 10.`end`
abbrev pub old_mac_platforms : MacArch → ℕ → List (List ℕ)
old_mac_platforms arch end = flat_map (mac_names arch 10) (down 4 end)

-- the last version before 11.0 is 10.16
unfoldable pub mac_platforms : ℕ → ℕ → MacArch → List (List ℕ)
mac_platforms major minor arch =
    if nat_lt major 11 then old_mac_platforms arch (minor + 1)
    else flat_map (λ version. mac_names arch version 0) (down 11 (major + 1))
    ++ old_mac_platforms arch 17

-- ---- all of them

abbrev pub platforms_of : Platform → List (List ℕ)
platforms_of (platform.Manylinux minor arch) = manylinux_platforms minor arch
platforms_of (platform.Musllinux minor arch) = musllinux_platforms minor arch
platforms_of (platform.MacOs major minor arch) = mac_platforms major minor arch
platforms_of (platform.Windows arch) = windows_name arch ∷ []
