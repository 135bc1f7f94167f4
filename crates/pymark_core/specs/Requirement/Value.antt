-- What a requirement is to a contract (PEP 508, "Grammar").
use Rattle.std.specs.Prelude.{ℕ, List, Option}
use Rattle.pyver_core.specs.declared.set.specifier.Specifier.{Specifier}
use Rattle.pymark_core.specs.Marker.Reading.{MarkerValue}

-- the name and the extras as they are written; the specifiers, of which there are none where a URL
-- stands
pub record RequirementValue : Type 0 where
  pub name : List ℕ
  pub extras : List (List ℕ)
  pub set : List Specifier
  pub url : Option (List ℕ)
  pub marker : Option MarkerValue
