-- The document of the files of several locks.
use Rattle.std.specs.Prelude.{Bool, ◌++◌, List, [], ◌∷◌, if◌then◌else◌, Some, None, codes, map}
use Rattle.serde_json.specs.Data.{Data}
use Rattle.pylock_json.specs.Json.{Row, list_of, maybe, maybe_numbered, object_of}
use Rattle.pylock_documents.specs.Source.{entry_rows, source_rows}
use Rattle.pylock_union.specs.Listed.{LockSourceValue}

-- what is known of the file besides, and with its lock that lock's number
abbrev pub known_rows : (tells_lock : Bool) → LockSourceValue → List Row
known_rows tells_lock one =
    (codes "size", maybe_numbered one.size)
    ∷ (codes "upload-time", maybe one.upload_time)
    ∷ (codes "lock", maybe_numbered (if tells_lock then Some one.lock else None))
    ∷ []

-- the object that a source has in the document of its own lock, with those members behind it
abbrev pub listed_data : (tells_lock : Bool) → LockSourceValue → Data
listed_data tells_lock one =
    object_of (entry_rows one.number one.entry one.entry.version ++ source_rows one.source
    ++ known_rows tells_lock one)

-- the members of the document
abbrev pub listed_rows : (tells_lock : Bool) → List LockSourceValue → List Row
listed_rows tells_lock list =
    (codes "files", Some (list_of (map (listed_data tells_lock) list))) ∷ []
