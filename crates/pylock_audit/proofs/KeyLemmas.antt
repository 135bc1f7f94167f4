-- The keys of a table.
use Rattle.std.proofs.Common.{◌≡◌, List, [], ◌∷◌, String, Global, map, string_bytes, refl, ap}
use Rattle.toml.specs.View.{members_view}
use Rattle.toml.specs.declared.value.Value.{Value}
use Rattle.pylock_audit.specs.Keys.{table_keys}

pub keys_shown : (ms : List (String Global × Value)) → table_keys (members_view ms) ≡ map string_bytes (map (λ m. m.0) ms)
keys_shown [] = refl
keys_shown (m ∷ ms) = ap (λ ks. string_bytes m.0 ∷ ks) (keys_shown ms)
