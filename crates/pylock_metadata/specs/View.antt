-- What the structs of this crate stand for: their values, with lists as lists.
use Rattle.std.specs.Prelude.{List, map}
use Rattle.pylock_metadata.specs.Metadata.{EntryValue}
use Rattle.pylock_metadata.specs.Named.{DependentValue}
use Rattle.pylock_metadata.specs.declared.entry.EntryMetadata.{EntryMetadata}
use Rattle.pylock_metadata.specs.declared.entry.Metadata.{Metadata}
use Rattle.pylock_metadata.specs.declared.named.Dependent.{Dependent}

abbrev pub entry_view : EntryMetadata → EntryValue
entry_view entry = record {
  archive = entry.archive;
  sdist = entry.sdist;
  wheels = entry.wheels.items;
}

abbrev pub entries_view : List EntryMetadata → List EntryValue
entries_view entries = map entry_view entries

abbrev pub metadata_view : Metadata → List EntryValue
metadata_view metadata = entries_view metadata.entries.items

abbrev pub dependent_view : Dependent → DependentValue
dependent_view dependent = record {
  number = dependent.number;
  depends_on = dependent.depends_on.items;
}

abbrev pub dependents_view : List Dependent → List DependentValue
dependents_view dependents = map dependent_view dependents
