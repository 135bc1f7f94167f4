-- What a text is read as: the one thing that it spells, or the reason why it is refused. A text
-- that follows no grammar is refused for that, and only then one with a number past the limit.
use Rattle.std.specs.Prelude.{ℕ, if◌then◌else◌, List, Result, Ok, Err, ok_or}
use Rattle.pyver_core.specs.Version.Grammar.{has_large, numbers}
use Rattle.pyver_core.specs.Version.Parts.{Parts}
use Rattle.pyver_core.specs.Version.Reading.{version_of}
use Rattle.pytext.specs.Results.{◌>>=◌}
use Rattle.pyver_core.specs.Set.Grammar.{set_numbers, specifier_numbers}
use Rattle.pyver_core.specs.Set.Reading.{operand_of, set_of, specifier_of}
use Rattle.pyver_core.specs.declared.set.error.SpecifierError.{SpecifierError}
use Rattle.pyver_core.specs.declared.set.error.SpecifierError.TheVariants as specifier
use Rattle.pyver_core.specs.declared.version.error.VersionError.{VersionError}
use Rattle.pyver_core.specs.declared.version.error.VersionError.TheVariants as version
use Rattle.pyver_core.specs.declared.set.specifier.Operator.{Operator}
use Rattle.pyver_core.specs.declared.set.specifier.Specifier.{Specifier}

-- the value, or the refusal where one of these numbers is past the limit
abbrev pub within_limit : {X E : Type 0} → E → List ℕ → X → Result X E
within_limit refusal ns x = if has_large ns then Err refusal else Ok x

-- the version that a text spells
unfoldable pub parsed_version : List ℕ → Result Parts VersionError
parsed_version text = do
  v ← ok_or (version_of text) version.Syntax
  within_limit version.NumberTooLarge (numbers v) v

-- the specifier that an operator and the text of its operand make
unfoldable pub parsed_operand : Operator → List ℕ → Result Specifier SpecifierError
parsed_operand operator text = do
  s ← ok_or (operand_of operator text) specifier.Syntax
  within_limit specifier.NumberTooLarge (specifier_numbers s) s

-- the specifier that a text writes, with its operator
unfoldable pub parsed_specifier : List ℕ → Result Specifier SpecifierError
parsed_specifier text = do
  s ← ok_or (specifier_of text) specifier.Syntax
  within_limit specifier.NumberTooLarge (specifier_numbers s) s

-- the specifiers that a text writes, with commas between them
unfoldable pub parsed_set : List ℕ → Result (List Specifier) SpecifierError
parsed_set text = do
  specifiers ← ok_or (set_of text) specifier.Syntax
  within_limit specifier.NumberTooLarge (set_numbers specifiers) specifiers
