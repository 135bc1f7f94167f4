-- The text of a document.
use Rattle.std.specs.Prelude.{ℕ, ◌++◌, codes, List}
use Rattle.serde_json.specs.Data.{Data, Members, number, object, put, unsigned}
use Rattle.serde_json.specs.Written.{compact_text}
use Rattle.pylock_documents.specs.Safe.{safe_json}

-- an object without white space, safe to show at a terminal, and LF
abbrev pub object_text : Members → List ℕ
object_text members = safe_json (compact_text (object members)) ++ codes "\n"

-- an object whose member `pylock` is the number of the form of documents
abbrev pub document_data : Members → Data
document_data members = object (put (codes "pylock") (number (unsigned 1)) members)

-- its text without white space, safe to show at a terminal, and LF
abbrev pub document_text : Members → List ℕ
document_text members = safe_json (compact_text (document_data members)) ++ codes "\n"
