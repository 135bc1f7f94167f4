-- The comparisons of markers (PEP 508, "Environment Markers").
use Rattle.pymark_core.specs.declared.operand.Comparator.{Comparator}
use Rattle.pymark_core.specs.declared.operand.Operand.{Operand}

-- two operands with an operator between them
pub record ComparisonValue : Type 0 where
  pub left : Operand
  pub comparator : Comparator
  pub right : Operand
