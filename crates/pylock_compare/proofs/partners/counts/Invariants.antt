use Rattle.std.proofs.Common.{◌≡◌, ◌+◌}
use Rattle.pylock_compare.specs.Counts.{count, count_in}
use Rattle.pylock_compare.specs.Texts.{Texts}
use Rattle.pylock_compare.proofs.partners.counts.Given as goal

abbrev pub invariant-loop-key : goal.invariant-loop-key
invariant-loop-key l =
    (key : Texts) → count_in l.table key + count key l.key-iterator.rest.items ≡ count key l.fn.keys.items
