-- When specifiers are equal as they are written. Their order and each zero count: `>=1.0` isn't
-- `>=1`, though both admit the same versions. Letter case, spellings and white space don't, as in
-- the normal form.
use Rattle.std.specs.Prelude.{ℕ, Bool, nat_eq, List, [], ◌∷◌, codes}
use Rattle.std.specs.Cmp.Lexicographic.{pointwise}
use Rattle.pyver_core.specs.Set.Normal.{operator_of, operator_text}
use Rattle.pyver_core.specs.Set.Prefix.{Prefix}
use Rattle.pyver_core.specs.Version.Normal.{normal_text}
use Rattle.pyver_core.specs.declared.set.specifier.Specifier.{Specifier}
use Rattle.pyver_core.specs.declared.set.specifier.Specifier.TheVariants as specifier

-- `R.*`: the numbers, and `.*`
abbrev pub prefix_pieces : Prefix → List (List ℕ)
prefix_pieces prefix = (prefix.epoch ∷ prefix.release) ∷ codes ".*" ∷ []

-- what stands after the operator: the normal form of a version, a prefix, or a text as it is
abbrev pub operand_pieces : Specifier → List (List ℕ)
operand_pieces (specifier.Equal v) = normal_text v ∷ []
operand_pieces (specifier.EqualPrefix prefix) = prefix_pieces prefix
operand_pieces (specifier.NotEqual v) = normal_text v ∷ []
operand_pieces (specifier.NotEqualPrefix prefix) = prefix_pieces prefix
operand_pieces (specifier.AtMost v) = normal_text v ∷ []
operand_pieces (specifier.AtLeast v) = normal_text v ∷ []
operand_pieces (specifier.Before v) = normal_text v ∷ []
operand_pieces (specifier.After v) = normal_text v ∷ []
operand_pieces (specifier.Compatible v) = normal_text v ∷ []
operand_pieces (specifier.Arbitrary text) = text ∷ []

-- the operator, and what stands after it
abbrev pub specifier_pieces : Specifier → List (List ℕ)
specifier_pieces s = operator_text (operator_of s) ∷ operand_pieces s

-- the same operator, and the same operand
abbrev pub specifier_eq : Specifier → Specifier → Bool
specifier_eq s t = pointwise (pointwise nat_eq) (specifier_pieces s) (specifier_pieces t)

-- as many specifiers, each the same as the other at its position
abbrev pub set_eq : List Specifier → List Specifier → Bool
set_eq set other = pointwise specifier_eq set other
