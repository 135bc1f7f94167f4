-- Locks as they are kept, as their definitions have them.
use Rattle.std.specs.Prelude.{List, map, option_map}
use Rattle.pylock_metadata.specs.View.{metadata_view}
use Rattle.pylock_program.specs.Files.{ReadValue}
use Rattle.pylock_program.specs.declared.files.ReadLock.{ReadLock}

abbrev pub read_view : ReadLock → ReadValue
read_view read = (read.lock, option_map metadata_view read.metadata)

abbrev pub reads_view : List ReadLock → List ReadValue
reads_view reads = map read_view reads
