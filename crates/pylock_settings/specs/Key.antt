-- The keys of a project file (`pyproject.toml`) on the way to the settings of an audit, and those
-- of the settings themselves.
use Rattle.std.specs.Prelude.{ℕ, Bool, ◌||◌, codes, List}
use Rattle.std.specs.Str.{bytes_eq}
use Rattle.pylock_settings.specs.declared.key.SettingsKey.{SettingsKey}
use Rattle.pylock_settings.specs.declared.key.SettingsKey.TheVariants as key

-- a key as it is written in its table
abbrev pub key_name : SettingsKey → List ℕ
key_name key.Tool = codes "tool"
key_name key.Pylock = codes "pylock"
key_name key.Audit = codes "audit"
key_name key.Environments = codes "environments"
key_name key.FailOn = codes "fail-on"
key_name key.Ignore = codes "ignore"
key_name key.Host = codes "host"

-- a key behind those of the tables that it is in
abbrev pub key_path : SettingsKey → List ℕ
key_path key.Tool = codes "tool"
key_path key.Pylock = codes "tool.pylock"
key_path key.Audit = codes "tool.pylock.audit"
key_path key.Environments = codes "tool.pylock.audit.environments"
key_path key.FailOn = codes "tool.pylock.audit.fail-on"
key_path key.Ignore = codes "tool.pylock.audit.ignore"
key_path key.Host = codes "tool.pylock.audit.host"

-- the name is that of a setting
abbrev pub is_setting : List ℕ → Bool
is_setting name =
    bytes_eq name (key_name key.Environments) || bytes_eq name (key_name key.FailOn)
    || bytes_eq name (key_name key.Ignore) || bytes_eq name (key_name key.Host)
