-- The picks that a map finds by their names are those that their rows have.
use Rattle.std.proofs.Common.{◌≡◌, ℕ, List}
use Rattle.toml.specs.Data.{Items}
use Rattle.pylock_metadata.specs.Dependencies.{dependencies_in}
use Rattle.pylock_metadata.specs.Named.{Find, Row, dependents_of, number_of}

pub found_by : (packages : Items) (find : Find) (rows : List Row) → ((name : List ℕ) → find name ≡ number_of rows name)
    → dependents_of packages find rows ≡ dependencies_in packages rows
found_by packages find rows found = λ i. dependents_of packages (λ name. found name i) rows
