-- The keys of a table.
use Rattle.std.proofs.Common.{◌≡◌, ℕ, List, [], ◌∷◌, String, Global, Result, Ok, Err, if◌then◌else◌, map, string_bytes, refl, ap}
use Rattle.std.specs.Prelude.{⊤}
use Rattle.toml.specs.View.{members_view}
use Rattle.toml.specs.declared.value.Value.{Value}
use Rattle.pylock_settings.specs.Key.{is_setting}
use Rattle.pylock_settings.specs.Reading.{known_keys}
use Rattle.pylock_settings.specs.declared.error.SettingsError.{SettingsError}
use Rattle.pylock_settings.specs.declared.error.SettingsError.TheVariants as error

-- of these names the first that is none of a setting is refused
abbrev pub known_names : List (List ℕ) → Result ⊤ SettingsError
known_names [] = Ok tt
known_names (name ∷ rest) = if is_setting name then known_names rest else Err (error.UnknownKey name)

pub known_members : (ms : List (String Global × Value)) → known_keys (members_view ms) ≡ known_names (map string_bytes (map (λ m. m.0) ms))
known_members [] = refl
known_members (m ∷ ms) = ap (λ r. if is_setting (string_bytes m.0) then r else Err (error.UnknownKey (string_bytes m.0))) (known_members ms)
