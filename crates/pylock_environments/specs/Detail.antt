-- What a person is told of a finding.
use Rattle.std.specs.Prelude.{◌≡◌, ℕ, ◌==◌, ◌||◌, ◌++◌, Bool, List, [], codes, Option, Some, None}
use Rattle.std.specs.Prelude.{if◌then◌else◌, option_map}
use Rattle.std.specs.Char.{encode_utf8, is_ascii_alphanumeric}
use Rattle.std.specs.Fmt.{decimal}
use Rattle.std.specs.List.{flat_map, list_all}
use Rattle.std.specs.Option.{option_map_or}
use Rattle.std.specs.Str.{chars}
use Rattle.pymark_core.specs.Environment.{AreNamesOf, EnvironmentValue, variable_in}
use Rattle.pymark_core.specs.Variables.{variable_name, variables}
use Rattle.pymark_core.specs.declared.variable.Var.{Var}
use Rattle.pymark_core.specs.declared.variable.Var.TheVariants.{PythonFullVersion}
use Rattle.pylock_shown.specs.Hidden.{hidden}
use Rattle.pylock_environments.specs.Releases.{is_release}
use Rattle.pylock_environments.specs.declared.finding.Found.{Found}
use Rattle.pylock_environments.specs.declared.finding.Found.TheVariants.{Clash, MayClash, Never}
use Rattle.pylock_environments.specs.declared.finding.Found.TheVariants.{MayNever}
use Rattle.pylock_environments.specs.declared.finding.Found.TheVariants.{NarrowerPython}
use Rattle.pylock_environments.specs.declared.finding.Found.TheVariants.{MayBeNarrower}

-- ---- words of a POSIX shell

-- an ASCII letter or digit, or one of `._+-`
abbrev pub is_plain : ℕ → Bool
is_plain b = is_ascii_alphanumeric b || (b == 46) || (b == 95) || (b == 43) || (b == 45)

-- a character between quotes: `'` ends them, stands behind `\`, and begins them again
abbrev pub quoted_character : ℕ → List ℕ
quoted_character c = if c == 39 then codes "'\\''" else encode_utf8 c

-- the text between quotes
abbrev pub quoted : List ℕ → List ℕ
quoted text = codes "'" ++ flat_map quoted_character (chars text) ++ codes "'"

-- a text as a word: as it stands, or between quotes
abbrev pub shell_word : List ℕ → List ℕ
shell_word text = if list_all is_plain text then text else quoted text

-- ---- the words of an environment

-- a variable, if it is set, whose text is shown without secrets
abbrev pub variable_words : EnvironmentValue → Var → List ℕ
variable_words environment variable =
    option_map_or
    (λ text. codes " --set " ++ variable_name variable ++ codes "=" ++ shell_word (hidden text))
    (variable_in variable environment) []

-- names, each behind its option
abbrev pub name_words : List ℕ → List (List ℕ) → List ℕ
name_words option names = flat_map (λ name. option ++ name) names

-- the variables that are set, the extras and the groups
pub record AreWordsOf (environment : EnvironmentValue) (words : List ℕ) : Type 0 where
  pub extras : List (List ℕ)
  pub groups : List (List ℕ)
  pub are_extras : AreNamesOf environment.extras extras
  pub are_groups : AreNamesOf environment.groups groups
  pub whole : words ≡ flat_map (variable_words environment) variables
      ++ name_words (codes " --extra ") extras ++ name_words (codes " --group ") groups

-- ---- the detail of a finding

-- the version of a Python, and whether CPython has no such release
abbrev pub python_words : List ℕ → List ℕ
python_words version =
    if is_release version then version else version ++ codes " (no known release)"

-- the number of the other entry, and of a clash the words of its environment; the version of the
-- Python that an entry doesn't admit
abbrev pub IsDetail : Found → Option (List ℕ) → Type 0
IsDetail (Clash other environment) detail =
    (words : List ℕ) × AreWordsOf environment words × (detail ≡ Some (decimal other ++ words))
IsDetail (MayClash other) detail = detail ≡ Some (decimal other)
IsDetail (NarrowerPython environment) detail =
    detail ≡ option_map python_words (variable_in PythonFullVersion environment)
IsDetail Never detail = detail ≡ None
IsDetail MayNever detail = detail ≡ None
IsDetail MayBeNarrower detail = detail ≡ None
