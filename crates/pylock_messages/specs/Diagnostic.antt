-- What is known of where a file is wrong.
use Rattle.std.specs.Prelude.{ℕ, List, Option}

-- The line that tells a person; the name that was given for the file; a line and a column, which
-- count from 1; the number of an entry, and its name as written; the path of a key, as `audit` has
-- it. All but the first may be unknown, and no contract says what they are.
pub record DiagnosticValue : Type 0 where
  pub message : List ℕ
  pub file : Option (List ℕ)
  pub line : Option ℕ
  pub column : Option ℕ
  pub entry : Option ℕ
  pub name : Option (List ℕ)
  pub key : Option (List ℕ)
