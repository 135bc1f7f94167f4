use Rattle.std.proofs.Common.{◌≡◌, drop, map}
use Rattle.serde_json.specs.View.{members_view}
use Rattle.pylock_json.specs.Json.{members_of, with_rows}
use Rattle.pylock_readers.specs.Text.{text_pairs}
use Rattle.pylock_documents.specs.Source.{hash_row}
use Rattle.pylock_documents.proofs.source.hashes_object.Given as goal

-- the hashes that are left are still to be put
abbrev pub invariant-loop-algorithm : goal.invariant-loop-algorithm
invariant-loop-algorithm l =
    with_rows (map hash_row (text_pairs (drop l.algorithm-index l.hashes))) (members_view l.object) ≡ members_of (map hash_row (text_pairs l.hashes))
