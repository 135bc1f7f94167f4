-- Which texts name a target, PYTHON and PLATFORM: relations over the whole texts. A number is
-- written in decimal, with no zero in front of it.
use Rattle.std.specs.Prelude.{◌≡◌, ◌⊎◌, ℕ, true, if◌then◌else◌, List, [], ◌++◌, codes, decimal}
use Rattle.pywheel_core.specs.Target.Compatible.{IsGlibcName}
use Rattle.pywheel_core.specs.Target.Names.{linux_arch_name, mac_arch_name, mac_triple}
use Rattle.pywheel_core.specs.Target.Names.{windows_name, windows_triple}
use Rattle.pywheel_core.specs.Target.Platforms.{mac_name, musl_name}
use Rattle.pywheel_core.specs.Target.Value.{TargetValue, is_cpython, is_platform}
use Rattle.pywheel_core.specs.declared.target.cpython.CPython.{CPython}
use Rattle.pywheel_core.specs.declared.target.platform.LinuxArch.{LinuxArch}
use Rattle.pywheel_core.specs.declared.target.platform.LinuxArch.TheVariants as linux
use Rattle.pywheel_core.specs.declared.target.platform.MacArch.TheVariants as mac
use Rattle.pywheel_core.specs.declared.target.platform.Platform.{Platform}
use Rattle.pywheel_core.specs.declared.target.platform.Platform.TheVariants as platform
use Rattle.pywheel_core.specs.declared.target.platform.WindowsArch.TheVariants as windows

-- ---- PYTHON

-- `3.MINOR`, where micro is 0, or `3.MINOR.MICRO`
abbrev pub IsRelease : ℕ → ℕ → List ℕ → Type 0
IsRelease minor micro text = ((micro ≡ 0) × (text ≡ codes "3." ++ decimal minor))
    ⊎ (text ≡ codes "3." ++ (decimal minor ++ (codes "." ++ decimal micro)))

-- The text is the release of a CPython that there is, with `t` behind it exactly where this is
-- free-threaded.
pub record PythonText (text : List ℕ) (python : CPython) : Type 0 where
  pub release : List ℕ
  pub is_release : IsRelease python.minor python.micro release
  pub whole : text ≡ release ++ (if python.is_free_threaded then codes "t" else [])
  pub known : is_cpython python ≡ true

-- the text names a CPython
abbrev pub IsPython : List ℕ → Type 0
IsPython text = (python : CPython) × PythonText text python

-- ---- PLATFORM

-- what the platform is called in the names of its own wheels, for glibc also before PEP 600:
--     manylinux_2_MINOR_ARCH, manylinux1_ARCH, manylinux2010_ARCH, manylinux2014_ARCH
--     musllinux_1_MINOR_ARCH
--     macosx_MAJOR_MINOR_ARCH
--     win32, win_amd64, win_arm64
abbrev pub IsWheelName : Platform → List ℕ → Type 0
IsWheelName (platform.Manylinux minor arch) text = IsGlibcName arch minor text
IsWheelName (platform.Musllinux minor arch) text = text ≡ musl_name arch minor
IsWheelName (platform.MacOs major minor arch) text =
    text ≡ mac_name major minor (mac_arch_name arch)
IsWheelName (platform.Windows arch) text = text ≡ windows_name arch

-- what uv calls a platform of glibc 2.`minor`: `unknown-linux-gnu` is of 2.28
abbrev pub IsGlibcTriple : LinuxArch → ℕ → List ℕ → Type 0
IsGlibcTriple arch minor text =
    (text ≡ linux_arch_name arch ++ (codes "-manylinux_2_" ++ decimal minor))
    ⊎ (((minor ≡ 17) × (text ≡ linux_arch_name arch ++ codes "-manylinux2014"))
    ⊎ ((minor ≡ 28) × (text ≡ linux_arch_name arch ++ codes "-unknown-linux-gnu")))

-- what uv calls the platform, a musl being of 1.2 and a macOS of 14.0:
--     ARCH-manylinux_2_MINOR, ARCH-manylinux2014, ARCH-unknown-linux-gnu
--     ARCH-unknown-linux-musl
--     aarch64-apple-darwin, x86_64-apple-darwin
--     x86_64-pc-windows-msvc, i686-pc-windows-msvc, aarch64-pc-windows-msvc
abbrev pub IsTriple : Platform → List ℕ → Type 0
IsTriple (platform.Manylinux minor arch) text = IsGlibcTriple arch minor text
IsTriple (platform.Musllinux minor arch) text =
    (minor ≡ 2) × (text ≡ linux_arch_name arch ++ codes "-unknown-linux-musl")
IsTriple (platform.MacOs major minor arch) text =
    (major ≡ 14) × (minor ≡ 0) × (text ≡ mac_triple arch)
IsTriple (platform.Windows arch) text = text ≡ windows_triple arch

-- one of the words that stand for a platform, and the platform for which it stands
abbrev pub IsShortName : Platform → List ℕ → Type 0
IsShortName place text =
    ((text ≡ codes "linux") × (place ≡ platform.Manylinux 28 linux.X86_64))
    ⊎ (((text ≡ codes "macos") × (place ≡ platform.MacOs 14 0 mac.Arm64))
    ⊎ ((text ≡ codes "windows") × (place ≡ platform.Windows windows.Amd64)))

-- The text is a name of a platform that there is.
pub record PlatformText (text : List ℕ) (place : Platform) : Type 0 where
  pub named : IsWheelName place text ⊎ (IsTriple place text ⊎ IsShortName place text)
  pub known : is_platform place ≡ true

-- the text names a platform
abbrev pub IsPlatform : List ℕ → Type 0
IsPlatform text = (place : Platform) × PlatformText text place

-- ---- both

-- PYTHON and PLATFORM name this target. `target_of` gives a target exactly where this holds: the
-- law `target_of_is_the_answer`.
abbrev pub TargetText : List ℕ → List ℕ → TargetValue → Type 0
TargetText python place target =
    PythonText python target.python × PlatformText place target.platform
