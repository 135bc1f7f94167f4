-- The entries of a lock, one after the other.
use Rattle.std.proofs.Common.{◌≡◌, suc, List, [], ◌∷◌, length, ap, refl}
use Rattle.toml.specs.View.{items_view}
use Rattle.toml.specs.declared.value.Value.{Value}
use Rattle.pylock_readers.specs.Lock.Reading.{item_count}

-- as many items as values
pub count_of_items : (vs : List Value) → item_count (items_view vs) ≡ length vs
count_of_items [] = refl
count_of_items (v ∷ vs) = ap suc (count_of_items vs)
