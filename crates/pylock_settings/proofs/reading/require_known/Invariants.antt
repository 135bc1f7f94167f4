use Rattle.std.proofs.Common.{◌≡◌, map, string_bytes}
use Rattle.toml.specs.View.{table_view}
use Rattle.pylock_settings.specs.Reading.{known_keys}
use Rattle.pylock_settings.proofs.KeyLemmas.{known_names}
use Rattle.pylock_settings.proofs.reading.require_known.Given as goal

-- the keys so far are those of settings
abbrev pub invariant-loop-name : goal.invariant-loop-name
invariant-loop-name l = known_names (map string_bytes l.name-iterator) ≡ known_keys (table_view l.table)
