-- Findings of two lists as one.
use Rattle.std.specs.Prelude.{ℕ, nat_lt, if◌then◌else◌, List, [], ◌∷◌, ◌++◌}
use Rattle.pylock_audit.specs.Finding.{LockFindingValue}

-- those from the front on that have a lower number, and what comes behind them
abbrev pub numbers_below : ℕ → List LockFindingValue → List LockFindingValue
numbers_below number [] = []
numbers_below number (other ∷ others) =
    if nat_lt other.number number then other ∷ numbers_below number others else []

abbrev pub from_number : ℕ → List LockFindingValue → List LockFindingValue
from_number number [] = []
from_number number (other ∷ others) =
    if nat_lt other.number number then from_number number others else other ∷ others

-- Both lists in one: in front of each of `found` stand the others that have a lower number, and
-- behind all of them the rest. So where both rise by number this one does, and of one number those
-- of `found` come first.
abbrev pub merged : List LockFindingValue → List LockFindingValue → List LockFindingValue
merged [] others = others
merged (one ∷ found) others =
    numbers_below one.number others ++ one ∷ merged found (from_number one.number others)
