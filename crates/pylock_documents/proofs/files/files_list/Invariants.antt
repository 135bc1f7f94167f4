use Rattle.std.proofs.Common.{◌≡◌, ◌+◌, ◌++◌, drop, map}
use Rattle.serde_json.specs.View.{view as data_of}
use Rattle.pylock_documents.specs.Documents.{files_from}
use Rattle.pylock_documents.proofs.files.files_list.Given as goal

-- the sources of the entries that are left are still to be added
abbrev pub invariant-loop-place : goal.invariant-loop-place
invariant-loop-place l = map data_of l.list ++ files_from (l.place + 1) (drop l.place l.entries) ≡ files_from 1 l.entries
