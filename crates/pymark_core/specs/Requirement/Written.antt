-- The specifiers of a requirement as they are written (PEP 508, "Grammar").
use Rattle.std.specs.Prelude.{◌≡◌, ℕ, true, List, Option, Some, None, is_some, Ok}
use Rattle.pyver_core.specs.Parsed.{parsed_set}
use Rattle.pyver_core.specs.declared.set.specifier.Specifier.{Specifier}

-- they read as the set of a requirement that has no URL; none are written where it has one
abbrev pub IsWrittenSet : Option (List ℕ) → List Specifier → Option (List ℕ) → Type 0
IsWrittenSet None set url = is_some url ≡ true
IsWrittenSet (Some text) set url = (url ≡ None) × (parsed_set text ≡ Ok set)
