-- Which tags a target takes, apart from their order (PEP 425, "Details"). The list of `Tags.antt`
-- has exactly these: the law `target_tags_are_the_compatible`.
use Rattle.std.specs.Prelude.{◌≡◌, ◌⊎◌, ◌≤◌, ◌<◌, ℕ, List, [], ◌∷◌, ◌++◌, codes, decimal}
use Rattle.pywheel_core.specs.Tag.{TagValue}
use Rattle.pywheel_core.specs.Target.Names.{linux_arch_name, windows_name}
use Rattle.pywheel_core.specs.Target.Platforms.{linux_name, mac_name, musl_name}
use Rattle.pywheel_core.specs.Target.Tags.{any_platform, cpython_name, no_abi, own_abi}
use Rattle.pywheel_core.specs.Target.Tags.{python_name, stable_abi}
use Rattle.pywheel_core.specs.Target.Value.{TargetValue, glibc_floor}
use Rattle.pywheel_core.specs.declared.target.cpython.CPython.{CPython}
use Rattle.pywheel_core.specs.declared.target.platform.LinuxArch.{LinuxArch}
use Rattle.pywheel_core.specs.declared.target.platform.MacArch.{MacArch}
use Rattle.pywheel_core.specs.declared.target.platform.MacArch.TheVariants as mac
use Rattle.pywheel_core.specs.declared.target.platform.Platform.{Platform}
use Rattle.pywheel_core.specs.declared.target.platform.Platform.TheVariants as platform

-- it stands in the list
abbrev pub IsOneOf : {X : Type 0} → X → List X → Type 0
IsOneOf x [] = ⊥
IsOneOf x (y ∷ ys) = (x ≡ y) ⊎ IsOneOf x ys

-- ---- Python and ABI

-- a wheel without ABI: of this CPython, of any Python 3, or of a Python 3 up to this one
abbrev pub IsPurePython : ℕ → List ℕ → Type 0
IsPurePython minor name = (name ≡ cpython_name minor) ⊎ ((name ≡ codes "py3")
    ⊎ ((older : ℕ) × (older ≤ minor) × (name ≡ python_name older)))

-- the stable ABI, of a CPython from 3.2 up to this one (PEP 384, PEP 803)
abbrev pub IsStable : CPython → List ℕ → List ℕ → Type 0
IsStable python name abi = (older : ℕ) × (2 ≤ older) × (older ≤ python.minor)
    × (name ≡ cpython_name older) × (abi ≡ stable_abi python)

-- the pairs of Python and ABI that CPython takes: its own, the stable ABI, and no ABI
abbrev pub IsPair : CPython → List ℕ → List ℕ → Type 0
IsPair python name abi = ((name ≡ cpython_name python.minor) × (abi ≡ own_abi python))
    ⊎ (IsStable python name abi ⊎ (IsPurePython python.minor name × (abi ≡ no_abi)))

-- ---- platforms

-- what wheels for glibc 2.`minor` were called before PEP 600 (PEP 513, PEP 571, PEP 599)
abbrev pub IsOlderName : LinuxArch → ℕ → List ℕ → Type 0
IsOlderName arch minor name =
    ((minor ≡ 5) × (name ≡ codes "manylinux1" ++ (codes "_" ++ linux_arch_name arch)))
    ⊎ (((minor ≡ 12) × (name ≡ codes "manylinux2010" ++ (codes "_" ++ linux_arch_name arch)))
    ⊎ ((minor ≡ 17) × (name ≡ codes "manylinux2014" ++ (codes "_" ++ linux_arch_name arch))))

-- a name for glibc 2.`minor` (PEP 600)
abbrev pub IsGlibcName : LinuxArch → ℕ → List ℕ → Type 0
IsGlibcName arch minor name =
    (name ≡ codes "manylinux_2_" ++ (decimal minor ++ (codes "_" ++ linux_arch_name arch)))
    ⊎ IsOlderName arch minor name

-- a version of macOS for which there may be wheels
abbrev pub IsMacVersion : ℕ → ℕ → Type 0
IsMacVersion major minor =
    ((major ≡ 10) × (4 ≤ minor) × (minor ≤ 16)) ⊎ ((11 ≤ major) × (minor ≡ 0))

-- the version `major`.`minor` isn't later than the other
abbrev pub IsNotLater : ℕ → ℕ → ℕ → ℕ → Type 0
IsNotLater major minor than_major than_minor =
    (major < than_major) ⊎ ((major ≡ than_major) × (minor ≤ than_minor))

-- programs of this format, for macOS `major`, run there
abbrev pub RunsFormat : MacArch → ℕ → List ℕ → Type 0
RunsFormat mac.X86_64 major format = IsOneOf format (codes "x86_64" ∷ codes "intel"
    ∷ codes "fat64" ∷ codes "fat32" ∷ codes "universal2" ∷ codes "universal" ∷ [])
RunsFormat mac.Arm64 major format =
    (format ≡ codes "universal2") ⊎ ((11 ≤ major) × (format ≡ codes "arm64"))

-- wheels for this platform tag run there
abbrev pub RunsOn : Platform → List ℕ → Type 0
RunsOn (platform.Manylinux minor arch) name = (name ≡ linux_name arch)
    ⊎ ((older : ℕ) × (glibc_floor arch ≤ older) × (older ≤ minor) × IsGlibcName arch older name)
RunsOn (platform.Musllinux minor arch) name = (name ≡ linux_name arch)
    ⊎ ((older : ℕ) × (older ≤ minor) × (name ≡ musl_name arch older))
RunsOn (platform.MacOs major minor arch) name = (than : ℕ × ℕ) × (format : List ℕ)
    × IsMacVersion than.0 than.1 × IsNotLater than.0 than.1 major minor
    × RunsFormat arch than.0 format × (name ≡ mac_name than.0 than.1 format)
RunsOn (platform.Windows arch) name = name ≡ windows_name arch

-- ---- all three

-- the Python and the ABI are a pair that the CPython takes, and the platform is one whose wheels
-- run there, or any where there is no ABI
abbrev pub IsCompatible : TargetValue → TagValue → Type 0
IsCompatible target tag = IsPair target.python tag.python tag.abi
    × (RunsOn target.platform tag.platform
    ⊎ ((tag.abi ≡ no_abi) × (tag.platform ≡ any_platform)))
