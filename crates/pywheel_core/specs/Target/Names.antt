-- The words of which tags are made (PEP 425), and what markers ask of a platform (PEP 508).
use Rattle.std.specs.Prelude.{ℕ, List, codes}
use Rattle.pywheel_core.specs.declared.target.platform.LinuxArch.{LinuxArch}
use Rattle.pywheel_core.specs.declared.target.platform.LinuxArch.TheVariants as linux
use Rattle.pywheel_core.specs.declared.target.platform.MacArch.{MacArch}
use Rattle.pywheel_core.specs.declared.target.platform.MacArch.TheVariants as mac
use Rattle.pywheel_core.specs.declared.target.platform.Platform.{Platform}
use Rattle.pywheel_core.specs.declared.target.platform.Platform.TheVariants as platform
use Rattle.pywheel_core.specs.declared.target.platform.WindowsArch.{WindowsArch}
use Rattle.pywheel_core.specs.declared.target.platform.WindowsArch.TheVariants as windows

abbrev pub linux_arch_name : LinuxArch → List ℕ
linux_arch_name linux.X86_64 = codes "x86_64"
linux_arch_name linux.I686 = codes "i686"
linux_arch_name linux.Aarch64 = codes "aarch64"
linux_arch_name linux.Armv7l = codes "armv7l"
linux_arch_name linux.Ppc64le = codes "ppc64le"
linux_arch_name linux.S390x = codes "s390x"
linux_arch_name linux.Riscv64 = codes "riscv64"
linux_arch_name linux.Loongarch64 = codes "loongarch64"

abbrev pub mac_arch_name : MacArch → List ℕ
mac_arch_name mac.X86_64 = codes "x86_64"
mac_arch_name mac.Arm64 = codes "arm64"

abbrev pub windows_name : WindowsArch → List ℕ
windows_name windows.X86 = codes "win32"
windows_name windows.Amd64 = codes "win_amd64"
windows_name windows.Arm64 = codes "win_arm64"

-- ---- what Rust's target triples, which uv takes, call them

abbrev pub mac_triple : MacArch → List ℕ
mac_triple mac.X86_64 = codes "x86_64-apple-darwin"
mac_triple mac.Arm64 = codes "aarch64-apple-darwin"

abbrev pub windows_triple : WindowsArch → List ℕ
windows_triple windows.X86 = codes "i686-pc-windows-msvc"
windows_triple windows.Amd64 = codes "x86_64-pc-windows-msvc"
windows_triple windows.Arm64 = codes "aarch64-pc-windows-msvc"

-- ---- what `os`, `sys` and `platform` of Python say there

abbrev pub os_name : Platform → List ℕ
os_name (platform.Windows arch) = codes "nt"
os_name other = codes "posix"

abbrev pub sys_platform : Platform → List ℕ
sys_platform (platform.MacOs major minor arch) = codes "darwin"
sys_platform (platform.Windows arch) = codes "win32"
sys_platform other = codes "linux"

abbrev pub platform_system : Platform → List ℕ
platform_system (platform.MacOs major minor arch) = codes "Darwin"
platform_system (platform.Windows arch) = codes "Windows"
platform_system other = codes "Linux"

abbrev pub windows_machine : WindowsArch → List ℕ
windows_machine windows.X86 = codes "x86"
windows_machine windows.Amd64 = codes "AMD64"
windows_machine windows.Arm64 = codes "ARM64"

abbrev pub platform_machine : Platform → List ℕ
platform_machine (platform.Manylinux minor arch) = linux_arch_name arch
platform_machine (platform.Musllinux minor arch) = linux_arch_name arch
platform_machine (platform.MacOs major minor arch) = mac_arch_name arch
platform_machine (platform.Windows arch) = windows_machine arch
