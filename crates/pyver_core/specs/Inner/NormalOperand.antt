-- Specifiers whose operand is a version in normal form without an epoch and a local part.
use Rattle.std.specs.Prelude.{ℕ, Option, Some, None}
use Rattle.pyver_core.specs.Version.Parts.{Parts}
use Rattle.pyver_core.specs.declared.set.specifier.Operator.{Operator}
use Rattle.pyver_core.specs.declared.set.specifier.Operator.TheVariants as operator
use Rattle.pyver_core.specs.declared.set.specifier.Specifier.{Specifier}
use Rattle.pyver_core.specs.declared.set.specifier.Specifier.TheVariants as specifier

-- how many numbers the release of a version has at least behind this operator, where a version
-- stands there
abbrev pub least_numbers : Operator → Option ℕ
least_numbers operator.Compatible = Some 2
least_numbers operator.Arbitrary = None
least_numbers other = Some 1

abbrev pub with_version : Operator → Parts → Option Specifier
with_version operator.Equal v = Some (specifier.Equal v)
with_version operator.NotEqual v = Some (specifier.NotEqual v)
with_version operator.AtMost v = Some (specifier.AtMost v)
with_version operator.AtLeast v = Some (specifier.AtLeast v)
with_version operator.Before v = Some (specifier.Before v)
with_version operator.After v = Some (specifier.After v)
with_version operator.Compatible v = Some (specifier.Compatible v)
with_version operator.Arbitrary v = None
