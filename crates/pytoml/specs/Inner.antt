-- How the steps of the short way stand to TOML's definitions. Only private clauses cite these
-- words.
use Rattle.std.specs.Prelude.{◌≡◌, ℕ, ◌<◌, List, length, Some, Result, IfOk}
use Rattle.std.specs.Borrow.{Bor}
use Rattle.toml_parser.specs.Lexical.{Read}
use Rattle.toml_parser.specs.Numbers.{unquoted}
use Rattle.toml.specs.Data.{Data}
use Rattle.toml.specs.Parse.{read_map, scalar_data}
use Rattle.pytoml.specs.declared.fault.Unread.{Unread}

-- what was read, seen through f, is what the definition reads
abbrev pub Reads : {A B : Type 0} → (A → B) → Result (A × Bor (List ℕ)) Unread → Read B → Type 0
Reads f r expected = IfOk r (λ p. expected ≡ Some (f p.0, p.1.now))

-- less text is left
abbrev pub Shortens : {A : Type 0} → List ℕ → Result (A × Bor (List ℕ)) Unread → Type 0
Shortens text r = IfOk r (λ p. length p.1.now < length text)

-- a boolean, a number or a date-time as data
abbrev pub read_scalar : List ℕ → Read Data
read_scalar text = read_map scalar_data (unquoted text)
