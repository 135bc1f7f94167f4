-- A project that says nothing.
use Rattle.std.proofs.Common.{◌≡◌, ℕ, true, List, Some, Ok, refl}
use Rattle.std.specs.Str.{is_utf8}
use Rattle.toml.specs.Data.{Members, no_members}
use Rattle.toml.specs.Parse.{parse_document}
use Rattle.pylock_settings.specs.Reading.{audit_table, settings_in, settings_of}
use Rattle.pylock_settings.specs.Settings.{no_settings}

pub absent_settings : (bytes : List ℕ) (document : Members) → is_utf8 bytes ≡ true → parse_document bytes ≡ Some document → audit_table document ≡ Ok no_members
    → settings_of bytes ≡ Ok no_settings
unfolding settings_of settings_in
absent_settings bytes document text parsed table = rw (text, parsed, table) refl
