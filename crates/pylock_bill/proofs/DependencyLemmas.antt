-- A list of dependencies that isn't empty is there.
use Rattle.std.proofs.Common.{◌≡◌, Bool, List, [], ◌∷◌, Some, false, length, map, nat_eq, refl}
use Rattle.pylock_json.specs.Json.{list_of}
use Rattle.pylock_metadata.specs.View.{dependents_view}
use Rattle.pylock_metadata.specs.declared.named.Dependent.{Dependent}
use Rattle.pylock_bill.specs.CycloneDx.{dependencies_data, dependency_data}

pub some_told : (ds : List Dependent) (is_empty : Bool) → is_empty ≡ false → is_empty ≡ nat_eq (length ds) 0
    → Some (list_of (map dependency_data (dependents_view ds))) ≡ dependencies_data (dependents_view ds)
some_told [] is_empty there is = absurd cc
some_told (d ∷ ds) is_empty there is = refl
