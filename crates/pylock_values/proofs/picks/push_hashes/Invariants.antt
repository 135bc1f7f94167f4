use Rattle.std.proofs.Common.{◌≡◌, ◌++◌, take}
use Rattle.std.specs.List.{flat_map}
use Rattle.pylock_readers.specs.Text.{text_pairs}
use Rattle.pylock_run.specs.Text.Field.{fields_text}
use Rattle.pylock_values.specs.Picks.{hash_fields}
use Rattle.pylock_values.proofs.picks.push_hashes.Given as goal

abbrev pub invariant-loop-hash : goal.invariant-loop-hash
invariant-loop-hash l = l.out.items ≡ l.initial.out.items ++ fields_text (flat_map hash_fields (text_pairs (take l.hash-index l.hashes)))
