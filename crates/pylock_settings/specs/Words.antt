-- The words of refused settings.
use Rattle.std.specs.Prelude.{ℕ, codes, List, Option, Some, None}
use Rattle.pylock_settings.specs.Key.{key_path}
use Rattle.pylock_settings.specs.declared.error.SettingsError.{SettingsError}
use Rattle.pylock_settings.specs.declared.error.SettingsError.TheVariants as error

-- what is wrong; out of memory is no refusal, and is never printed
abbrev pub settings_word : SettingsError → List ℕ
settings_word error.NotUtf8 = codes "not-utf8"
settings_word error.Toml = codes "toml"
settings_word (error.WrongType key) = codes "wrong-type"
settings_word (error.UnknownKey name) = codes "unknown-key"
settings_word error.Memory = codes "memory"

-- where it is wrong: the path of the key, or the key that isn't known
abbrev pub settings_place : SettingsError → Option (List ℕ)
settings_place (error.WrongType key) = Some (key_path key)
settings_place (error.UnknownKey name) = Some name
settings_place other = None
