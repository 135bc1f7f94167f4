-- A target: a CPython, a release of Python 3 that may be free-threaded (PEP 703), and a platform.
use Rattle.std.specs.Prelude.{◌≡◌, ℕ, ◌==◌, ◌&&◌, ◌||◌, not, Bool, true, false, nat_le}
use Rattle.pywheel_core.specs.declared.target.cpython.CPython.{CPython}
use Rattle.pywheel_core.specs.declared.target.platform.LinuxArch.{LinuxArch}
use Rattle.pywheel_core.specs.declared.target.platform.LinuxArch.TheVariants as linux
use Rattle.pywheel_core.specs.declared.target.platform.MacArch.{MacArch}
use Rattle.pywheel_core.specs.declared.target.platform.MacArch.TheVariants as mac
use Rattle.pywheel_core.specs.declared.target.platform.Platform.{Platform}
use Rattle.pywheel_core.specs.declared.target.platform.Platform.TheVariants as platform

pub record TargetValue : Type 0 where
  pub python : CPython
  pub platform : Platform

-- 3.8 to 3.99, free-threaded from 3.13 on (PEP 703)
abbrev pub is_cpython : CPython → Bool
is_cpython python = nat_le 8 python.minor
    && (nat_le python.minor 99 && (nat_le python.micro 999
    && (not python.is_free_threaded || nat_le 13 python.minor)))

-- the oldest glibc 2 that a wheel may ask for: 2.5 of x86 (PEP 513), 2.17 of the others (PEP 599)
abbrev pub glibc_floor : LinuxArch → ℕ
glibc_floor linux.X86_64 = 5
glibc_floor linux.I686 = 5
glibc_floor other = 17

abbrev pub is_intel : MacArch → Bool
is_intel mac.X86_64 = true
is_intel mac.Arm64 = false

-- a version that macOS had: 10.4 to 10.16 of Intel, then 11.0, 12.0 and so on
abbrev pub is_mac_version : ℕ → ℕ → MacArch → Bool
is_mac_version major minor arch =
    ((major == 10) && (is_intel arch && (nat_le 4 minor && nat_le minor 16)))
    || (nat_le 11 major && (nat_le major 99 && (minor == 0)))

abbrev pub is_platform : Platform → Bool
is_platform (platform.Manylinux minor arch) = nat_le (glibc_floor arch) minor && nat_le minor 99
is_platform (platform.Musllinux minor arch) = nat_le minor 99
is_platform (platform.MacOs major minor arch) = is_mac_version major minor arch
is_platform (platform.Windows arch) = true

-- a target that there is
abbrev pub is_target : TargetValue → Bool
is_target target = is_cpython target.python && is_platform target.platform
