use Rattle.std.proofs.Common.{◌≡◌, ◌++◌, map, take}
use Rattle.serde_json.specs.View.{view as data_of}
use Rattle.pylock_core.specs.Session.Picks.{lent_named}
use Rattle.pylock_documents.specs.Source.{source_data}
use Rattle.pylock_documents.proofs.files.push_sources.Given as goal

-- the sources so far are in the list
abbrev pub invariant-loop-source : goal.invariant-loop-source
invariant-loop-source l =
    map data_of l.list ≡ map data_of l.initial.list ++ map (λ s. source_data l.number l.entry s.1) (map lent_named (take l.source-index l.named))
