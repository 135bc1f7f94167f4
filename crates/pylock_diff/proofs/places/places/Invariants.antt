use Rattle.std.proofs.Common.{◌≡◌, map, string_bytes, take}
use Rattle.std.specs.List.{flat_map}
use Rattle.pylock_core.specs.Session.Picks.{source_location}
use Rattle.pylock_diff.specs.Files.{shown_places}
use Rattle.pylock_diff.specs.Inner.Lent.{lent_sources}
use Rattle.pylock_diff.proofs.places.places.Given as goal

abbrev pub invariant-loop-file : goal.invariant-loop-file
invariant-loop-file l =
    map string_bytes l.list.items ≡ flat_map (λ file. shown_places (source_location file)) (lent_sources (take l.file-index l.files))
