-- What the texts of a target say: PYTHON, as `3.12`, `3.12.4` or `3.14t`, and PLATFORM.
use Rattle.std.specs.Prelude.{ℕ, ◌==◌, ◌&&◌, ◌||◌, not, Bool, true, false, nat_le, nat_lt}
use Rattle.std.specs.Prelude.{if◌then◌else◌, List, [], ◌∷◌, length, slice_index, bytes_eq, codes}
use Rattle.std.specs.Prelude.{Option, Some, None, ok_or, Result, Ok, Err}
use Rattle.std.specs.Str.Parse.{digits_value}
use Rattle.pytext.specs.Digits.{is_number}
use Rattle.pytext.specs.Options.{◌>>=◌}
use Rattle.pytext.specs.Results as steps
use Rattle.pywheel_core.specs.Target.Value.{TargetValue, is_cpython, is_platform}
use Rattle.pywheel_core.specs.Texts.{before_ending, cut_at}
use Rattle.pywheel_core.specs.declared.error.TargetError.{TargetError}
use Rattle.pywheel_core.specs.declared.error.TargetError.TheVariants as refused
use Rattle.pywheel_core.specs.declared.target.cpython.CPython.{CPython}
use Rattle.pywheel_core.specs.declared.target.platform.LinuxArch.{LinuxArch}
use Rattle.pywheel_core.specs.declared.target.platform.LinuxArch.TheVariants as linux
use Rattle.pywheel_core.specs.declared.target.platform.MacArch.{MacArch}
use Rattle.pywheel_core.specs.declared.target.platform.MacArch.TheVariants as mac
use Rattle.pywheel_core.specs.declared.target.platform.Platform.{Platform}
use Rattle.pywheel_core.specs.declared.target.platform.Platform.TheVariants as platform
use Rattle.pywheel_core.specs.declared.target.platform.WindowsArch.TheVariants as windows

-- digits that begin with no 0, but for the number 0
abbrev pub is_plain_number : List ℕ → Bool
is_plain_number text = is_number text && (not (slice_index text 0 == 48) || (length text == 1))

-- the number, where it is below the limit
unfoldable pub number_below : ℕ → List ℕ → Option ℕ
number_below limit text =
    if is_plain_number text && nat_lt (digits_value 10 text) limit
    then Some (digits_value 10 text) else None

-- ---- PYTHON

-- `MINOR` or `MINOR.MICRO`, as it is cut at its dot; without MICRO this is 0
abbrev pub numbers_in : List ℕ → Option (List ℕ × List ℕ) → Option (ℕ × ℕ)
numbers_in text None = number_below 100 text >>= λ minor. Some (minor, 0)
numbers_in text (Some parts) = number_below 100 parts.0 >>= λ minor.
    number_below 1000 parts.1 >>= λ micro. Some (minor, micro)

unfoldable pub minor_and_micro : List ℕ → Option (ℕ × ℕ)
minor_and_micro text = numbers_in text (cut_at 46 text)

-- `3.MINOR` or `3.MINOR.MICRO`
unfoldable pub release_of : List ℕ → Option (ℕ × ℕ)
release_of text = do
  parts ← cut_at 46 text
  if bytes_eq parts.0 (codes "3") then minor_and_micro parts.1 else None

-- a release, free-threaded or not, that there is
unfoldable pub python_with : Bool → List ℕ → Option CPython
python_with is_free_threaded text = do
  numbers ← release_of text
  let python : CPython = record {
    minor = numbers.0;
    micro = numbers.1;
    is_free_threaded = is_free_threaded;
  }
  if is_cpython python then Some python else None

-- a release, as it is cut before a `t` at its end
abbrev pub python_in : List ℕ → Option (List ℕ) → Option CPython
python_in text None = python_with false text
python_in text (Some release) = python_with true release

unfoldable pub python_of : List ℕ → Option CPython
python_of text = python_in text (before_ending (codes "t") text)

-- ---- PLATFORM

unfoldable pub linux_arch_of : List ℕ → Option LinuxArch
linux_arch_of text =
    if bytes_eq text (codes "x86_64") then Some linux.X86_64
    else (if bytes_eq text (codes "i686") then Some linux.I686
    else (if bytes_eq text (codes "aarch64") then Some linux.Aarch64
    else (if bytes_eq text (codes "armv7l") then Some linux.Armv7l
    else (if bytes_eq text (codes "ppc64le") then Some linux.Ppc64le
    else (if bytes_eq text (codes "s390x") then Some linux.S390x
    else (if bytes_eq text (codes "riscv64") then Some linux.Riscv64
    else (if bytes_eq text (codes "loongarch64") then Some linux.Loongarch64 else None)))))))

unfoldable pub mac_arch_of : List ℕ → Option MacArch
mac_arch_of text =
    if bytes_eq text (codes "x86_64") then Some mac.X86_64
    else (if bytes_eq text (codes "arm64") then Some mac.Arm64 else None)

-- a whole PLATFORM that is one word, or stands for a platform
unfoldable pub lone_platform : List ℕ → Option Platform
lone_platform text =
    if bytes_eq text (codes "linux") then Some (platform.Manylinux 28 linux.X86_64)
    else (if bytes_eq text (codes "macos") then Some (platform.MacOs 14 0 mac.Arm64)
    else (if bytes_eq text (codes "windows") then Some (platform.Windows windows.Amd64)
    else (if bytes_eq text (codes "win32") then Some (platform.Windows windows.X86) else None)))

-- `MAJOR_MINOR_ARCH`, each as written
unfoldable pub versioned : List ℕ → Option (List ℕ × List ℕ × List ℕ)
versioned text = do
  major ← cut_at 95 text
  minor ← cut_at 95 major.1
  Some (major.0, minor.0, minor.1)

-- `2_MINOR_ARCH` behind `manylinux_`
unfoldable pub glibc_platform : List ℕ → Option Platform
glibc_platform text = do
  parts ← versioned text
  minor ← number_below 100 parts.1
  arch ← linux_arch_of parts.2
  if bytes_eq parts.0 (codes "2") then Some (platform.Manylinux minor arch) else None

-- `1_MINOR_ARCH` behind `musllinux_`
unfoldable pub musl_platform : List ℕ → Option Platform
musl_platform text = do
  parts ← versioned text
  minor ← number_below 100 parts.1
  arch ← linux_arch_of parts.2
  if bytes_eq parts.0 (codes "1") then Some (platform.Musllinux minor arch) else None

-- `MAJOR_MINOR_ARCH` behind `macosx_`
unfoldable pub mac_platform : List ℕ → Option Platform
mac_platform text = do
  parts ← versioned text
  major ← number_below 100 parts.0
  minor ← number_below 100 parts.1
  arch ← mac_arch_of parts.2
  Some (platform.MacOs major minor arch)

-- ARCH behind an older name of manylinux for glibc 2.`minor`
unfoldable pub older_platform : ℕ → List ℕ → Option Platform
older_platform minor text = linux_arch_of text >>= λ arch. Some (platform.Manylinux minor arch)

-- ARCH behind `win_`
unfoldable pub windows_platform : List ℕ → Option Platform
windows_platform text =
    if bytes_eq text (codes "amd64") then Some (platform.Windows windows.Amd64)
    else (if bytes_eq text (codes "arm64") then Some (platform.Windows windows.Arm64) else None)

-- by the word before the first `_`
unfoldable pub platform_behind : List ℕ → List ℕ → Option Platform
platform_behind word rest =
    if bytes_eq word (codes "manylinux") then glibc_platform rest
    else (if bytes_eq word (codes "musllinux") then musl_platform rest
    else (if bytes_eq word (codes "macosx") then mac_platform rest
    else (if bytes_eq word (codes "win") then windows_platform rest
    else (if bytes_eq word (codes "manylinux1") then older_platform 5 rest
    else (if bytes_eq word (codes "manylinux2010") then older_platform 12 rest
    else (if bytes_eq word (codes "manylinux2014") then older_platform 17 rest else None))))))

-- a PLATFORM without `-`, as it is cut at its first `_`
abbrev pub undashed_in : List ℕ → Option (List ℕ × List ℕ) → Option Platform
undashed_in text None = lone_platform text
undashed_in text (Some parts) = platform_behind parts.0 parts.1

unfoldable pub undashed_platform : List ℕ → Option Platform
undashed_platform text = undashed_in text (cut_at 95 text)

-- ARCH before `-apple-darwin`
unfoldable pub apple_platform : List ℕ → Option Platform
apple_platform text =
    if bytes_eq text (codes "aarch64") then Some (platform.MacOs 14 0 mac.Arm64)
    else (if bytes_eq text (codes "x86_64") then Some (platform.MacOs 14 0 mac.X86_64) else None)

-- ARCH before `-pc-windows-msvc`
unfoldable pub msvc_platform : List ℕ → Option Platform
msvc_platform text =
    if bytes_eq text (codes "x86_64") then Some (platform.Windows windows.Amd64)
    else (if bytes_eq text (codes "i686") then Some (platform.Windows windows.X86)
    else (if bytes_eq text (codes "aarch64") then Some (platform.Windows windows.Arm64) else None))

-- `manylinux_2_MINOR` behind ARCH and `-`
unfoldable pub glibc_triple : LinuxArch → List ℕ → Option Platform
glibc_triple arch text = do
  parts ← versioned text
  minor ← number_below 100 parts.2
  if bytes_eq parts.0 (codes "manylinux") && bytes_eq parts.1 (codes "2")
      then Some (platform.Manylinux minor arch) else None

-- by what stands behind ARCH and `-`
unfoldable pub linux_triple : LinuxArch → List ℕ → Option Platform
linux_triple arch text =
    if bytes_eq text (codes "unknown-linux-gnu") then Some (platform.Manylinux 28 arch)
    else (if bytes_eq text (codes "unknown-linux-musl") then Some (platform.Musllinux 2 arch)
    else (if bytes_eq text (codes "manylinux2014") then Some (platform.Manylinux 17 arch)
    else glibc_triple arch text))

-- by ARCH, and what stands behind its `-`
unfoldable pub triple_platform : List ℕ → List ℕ → Option Platform
triple_platform arch rest =
    if bytes_eq rest (codes "apple-darwin") then apple_platform arch
    else (if bytes_eq rest (codes "pc-windows-msvc") then msvc_platform arch
    else linux_arch_of arch >>= λ machine. linux_triple machine rest)

-- a PLATFORM as it is cut at its first `-`
abbrev pub platform_in : List ℕ → Option (List ℕ × List ℕ) → Option Platform
platform_in text None = undashed_platform text
platform_in text (Some parts) = triple_platform parts.0 parts.1

-- a platform, be there one or not
unfoldable pub shaped_platform : List ℕ → Option Platform
shaped_platform text = platform_in text (cut_at 45 text)

-- a platform that there is
unfoldable pub platform_of : List ℕ → Option Platform
platform_of text = do
  platform ← shaped_platform text
  if is_platform platform then Some platform else None

-- ---- both

-- the target of PYTHON and PLATFORM, which is judged last
unfoldable pub target_of : List ℕ → List ℕ → Result TargetValue TargetError
target_of python platform =
    steps.◌>>=◌ (ok_or (python_of python) refused.Python) (λ release.
    steps.◌>>=◌ (ok_or (platform_of platform) refused.Platform) (λ place.
    Ok (record { python = release; platform = place })))
