-- The texts that `os_name`, `sys_platform` and `platform_system` have together (PEP 508,
-- "Environment Markers"): a table of three platforms, and a row for all others.
use Rattle.std.specs.Prelude.{◌≡◌, ℕ, Bool, true, not, List, [], ◌∷◌, codes, Option, Some, None}
use Rattle.std.specs.Prelude.{option_map, unwrap_or}
use Rattle.std.specs.List.{list_any}
use Rattle.std.specs.Str.{bytes_eq}
use Rattle.pymark_core.specs.Environment.{EnvironmentValue, variable_in}
use Rattle.pymark_core.specs.declared.variable.Var.{Var}
use Rattle.pymark_core.specs.declared.variable.Var.TheVariants.{OsName, SysPlatform}
use Rattle.pymark_core.specs.declared.variable.Var.TheVariants.{PlatformSystem}
use Rattle.pymark_algebra.specs.declared.platform.Platform.{Platform}
use Rattle.pymark_algebra.specs.declared.platform.Platform.TheVariants.{Linux, MacOs, Windows}
use Rattle.pymark_algebra.specs.declared.platform.Platform.TheVariants.{Other}

-- the text that a variable has on a platform of the table
abbrev pub known_text : Platform → Var → Option (List ℕ)
known_text Linux OsName = Some (codes "posix")
known_text Linux SysPlatform = Some (codes "linux")
known_text Linux PlatformSystem = Some (codes "Linux")
known_text MacOs OsName = Some (codes "posix")
known_text MacOs SysPlatform = Some (codes "darwin")
known_text MacOs PlatformSystem = Some (codes "Darwin")
known_text Windows OsName = Some (codes "nt")
known_text Windows SysPlatform = Some (codes "win32")
known_text Windows PlatformSystem = Some (codes "Windows")
known_text platform variable = None

-- The texts that only the platforms of the table have. Others have `posix` too.
abbrev pub taken_texts : Var → List (List ℕ)
taken_texts OsName = codes "nt" ∷ []
taken_texts SysPlatform = codes "linux" ∷ codes "darwin" ∷ codes "win32" ∷ []
taken_texts PlatformSystem = codes "Linux" ∷ codes "Darwin" ∷ codes "Windows" ∷ []
taken_texts variable = []

-- whether a variable may have this text on a platform
abbrev pub may_have : Platform → Var → List ℕ → Bool
may_have Other variable text = not (list_any (bytes_eq text) (taken_texts variable))
may_have platform variable text =
    unwrap_or (option_map (bytes_eq text) (known_text platform variable)) true

-- the variable, where it is set, has a text that it may have on the platform
abbrev pub HasItsText : Platform → Var → EnvironmentValue → Type 0
HasItsText platform variable environment =
    (text : List ℕ) → variable_in variable environment ≡ Some text
    → may_have platform variable text ≡ true

-- each variable has
abbrev pub IsOn : Platform → EnvironmentValue → Type 0
IsOn platform environment = (variable : Var) → HasItsText platform variable environment
