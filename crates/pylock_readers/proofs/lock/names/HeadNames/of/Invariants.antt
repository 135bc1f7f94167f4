use Rattle.std.proofs.Common.{◌≡◌, ◌++◌, map, string_bytes}
use Rattle.pylock_readers.specs.Lock.Head.{distinct_texts}
use Rattle.pylock_readers.proofs.DistinctLemmas.{Holds, unseen}
use Rattle.pylock_readers.proofs.lock.names.HeadNames.of.Given as goal

-- the texts so far, and those that are left and were not seen; the set has those so far
abbrev pub invariant-loop-text : goal.invariant-loop-text
invariant-loop-text l =
    (map string_bytes l.names.items ++ unseen l.set.keys (distinct_texts (map string_bytes l.text-iterator.rest.items))
    ≡ distinct_texts (map string_bytes l.fn.texts.items))
    × Holds l.set.keys (map string_bytes l.names.items)
