-- Comparisons with an operand that reads as a specifier.
use Rattle.std.specs.Prelude.{◌≡◌, ℕ, List, Ok, Some}
use Rattle.pyver_core.specs.Parsed.{parsed_operand}
use Rattle.pyver_core.specs.declared.set.specifier.Operator.{Operator}
use Rattle.pyver_core.specs.declared.set.specifier.Specifier.{Specifier}
use Rattle.pymark_core.specs.Marker.Asked.{quoted_text}
use Rattle.pymark_core.specs.Marker.Comparison.{ComparisonValue}
use Rattle.pymark_core.specs.declared.operand.Comparator.TheVariants.{By}

-- the operator and the quoted text on the right make the specifier
pub record Asks (comparison : ComparisonValue) (specifier : Specifier) : Type 0 where
  pub operator : Operator
  pub text : List ℕ
  pub compares : comparison.comparator ≡ By operator
  pub quotes : quoted_text comparison.right ≡ Some text
  pub reads : parsed_operand operator text ≡ Ok specifier
