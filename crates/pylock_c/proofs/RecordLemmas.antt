-- Items that stand in a field of a record.
use Rattle.std.proofs.Common.{◌≡◌, ℕ, List, [], ◌∷◌, map, length, false, Some, ap, sym}
use Rattle.std.specs.List.{join_by}
use Rattle.std.specs.Prelude.{◌==◌}
use Rattle.std.proofs.lemmas.Bool.{false≢true}
use Rattle.pylock_readers.proofs.Joined.{joined_texts}
use Rattle.pylock_values.specs.Record.{joined}

-- items that there are, by their texts
pub some_joined : {X : Type 0} (f : X → List ℕ) (sep : List ℕ) (xs : List X) → (length xs == 0) ≡ false
    → joined (λ t. t) sep (map f xs) ≡ Some (join_by f sep xs)
some_joined f sep [] none = absurd (false≢true (sym none))
some_joined f sep (x ∷ xs) some = ap Some (sym (joined_texts f sep (x ∷ xs)))
