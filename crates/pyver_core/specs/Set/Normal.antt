-- The normal form of a specifier set (PEP 440, "Version specifiers").
use Rattle.std.specs.Prelude.{ℕ, List, [], ◌∷◌, ◌++◌, codes}
use Rattle.std.specs.List.{flat_map}
use Rattle.pyver_core.specs.Version.Normal.{epoch_text, normal_text, release_text}
use Rattle.pyver_core.specs.Set.Prefix.{Prefix}
use Rattle.pyver_core.specs.declared.set.specifier.Operator.{Operator}
use Rattle.pyver_core.specs.declared.set.specifier.Operator.TheVariants as operator
use Rattle.pyver_core.specs.declared.set.specifier.Specifier.{Specifier}
use Rattle.pyver_core.specs.declared.set.specifier.Specifier.TheVariants as specifier

abbrev pub operator_text : Operator → List ℕ
operator_text operator.Equal = codes "=="
operator_text operator.NotEqual = codes "!="
operator_text operator.AtMost = codes "<="
operator_text operator.AtLeast = codes ">="
operator_text operator.Before = codes "<"
operator_text operator.After = codes ">"
operator_text operator.Compatible = codes "~="
operator_text operator.Arbitrary = codes "==="

abbrev pub operator_of : Specifier → Operator
operator_of (specifier.Equal v) = operator.Equal
operator_of (specifier.EqualPrefix prefix) = operator.Equal
operator_of (specifier.NotEqual v) = operator.NotEqual
operator_of (specifier.NotEqualPrefix prefix) = operator.NotEqual
operator_of (specifier.AtMost v) = operator.AtMost
operator_of (specifier.AtLeast v) = operator.AtLeast
operator_of (specifier.Before v) = operator.Before
operator_of (specifier.After v) = operator.After
operator_of (specifier.Compatible v) = operator.Compatible
operator_of (specifier.Arbitrary text) = operator.Arbitrary

-- the normal form of a prefix
abbrev pub prefix_text : Prefix → List ℕ
prefix_text prefix = epoch_text prefix.epoch ++ (release_text prefix.release ++ codes ".*")

-- the normal form of what stands after the operator
abbrev pub operand_text : Specifier → List ℕ
operand_text (specifier.Equal v) = normal_text v
operand_text (specifier.EqualPrefix prefix) = prefix_text prefix
operand_text (specifier.NotEqual v) = normal_text v
operand_text (specifier.NotEqualPrefix prefix) = prefix_text prefix
operand_text (specifier.AtMost v) = normal_text v
operand_text (specifier.AtLeast v) = normal_text v
operand_text (specifier.Before v) = normal_text v
operand_text (specifier.After v) = normal_text v
operand_text (specifier.Compatible v) = normal_text v
operand_text (specifier.Arbitrary text) = text

abbrev pub specifier_text : Specifier → List ℕ
specifier_text s = operator_text (operator_of s) ++ operand_text s

-- a comma and a specifier
abbrev pub comma_specifier : Specifier → List ℕ
comma_specifier s = codes "," ++ specifier_text s

-- the specifiers in order, with commas between them
abbrev pub set_text : List Specifier → List ℕ
set_text [] = []
set_text (first ∷ rest) = specifier_text first ++ flat_map comma_specifier rest
