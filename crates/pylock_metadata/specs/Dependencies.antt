-- The picks on which the entries of picks depend (PEP 751, `packages.dependencies`).
use Rattle.std.specs.Prelude.{ℕ, codes, List, [], ◌∷◌, Option, option_and_then}
use Rattle.std.specs.List.{flat_map}
use Rattle.std.specs.Option.{option_map_or}
use Rattle.toml.specs.Data.{Items, Members}
use Rattle.toml.specs.Parse.{parse_document}
use Rattle.pylock_readers.specs.Text.{utf8_text}
use Rattle.pylock_core.specs.Session.State.{State, entry_at}
use Rattle.pylock_core.specs.declared.answer.Pick.{Pick}
use Rattle.pylock_metadata.specs.Named.{DependentValue, Row, dependents_of, number_of}
use Rattle.pylock_metadata.specs.Table.{items_at}

-- a pick by the name of its entry
abbrev pub row_of : State → Pick → List Row
row_of state pick =
    option_map_or (λ entry. (entry.name, pick.id) ∷ []) (entry_at pick.id state.entries) []

abbrev pub rows_of : State → List Pick → List Row
rows_of state picks = flat_map (row_of state) picks

-- of each of these rows whose entry has `dependencies`, those of them that it depends on
abbrev pub dependencies_in : Items → List Row → List DependentValue
dependencies_in packages rows = dependents_of packages (number_of rows) rows

-- the document that the bytes are
abbrev pub document_of : List ℕ → Option Members
document_of bytes = option_and_then parse_document (utf8_text bytes)

-- those of a lock for a plan; bytes that are no document have none
abbrev pub dependencies_of : List ℕ → State → List Pick → List DependentValue
dependencies_of lock state picks =
    option_map_or
    (λ document. dependencies_in (items_at (codes "packages") document) (rows_of state picks))
    (document_of lock) []
