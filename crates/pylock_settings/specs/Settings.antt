-- What a project says of how its lock is audited. A text is the list of the bytes of its UTF-8.
use Rattle.std.specs.Prelude.{ℕ, Bool, false, List, [], Option, None}

pub record SettingsValue : Type 0 where
  pub environments : Bool
  pub fail_on : Option (List ℕ)
  pub ignored : List (List ℕ)
  pub hosts : List (List ℕ)

-- of a project that says nothing
abbrev pub no_settings : SettingsValue
no_settings = record { environments = false; fail_on = None; ignored = []; hosts = [] }
