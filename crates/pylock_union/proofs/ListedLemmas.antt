-- What is known of an entry, by what is known of all.
use Rattle.std.proofs.Common.{◌≡◌, ℕ, List, map, option_map, sym}
use Rattle.std.proofs.lemmas.Option.{slice_get-map}
use Rattle.std.specs.Prelude.{slice_get}
use Rattle.pylock_metadata.specs.View.{entry_view}
use Rattle.pylock_metadata.specs.declared.entry.EntryMetadata.{EntryMetadata}

pub said : (entries : List EntryMetadata) (place : ℕ)
    → option_map entry_view (slice_get entries place) ≡ slice_get (map entry_view entries) place
said entries place = sym (slice_get-map entry_view entries place)

pub ruleset entry_said = (said)
