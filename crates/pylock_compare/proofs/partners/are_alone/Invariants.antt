use Rattle.std.proofs.Common.{◌≡◌, ◌++◌, List}
use Rattle.pylock_compare.specs.Counts.{Counts}
use Rattle.pylock_compare.specs.Partners.{are_alone}
use Rattle.pylock_compare.specs.Texts.{Texts}
use Rattle.pylock_compare.proofs.partners.are_alone.Given as goal

-- the table has what is left of the others
abbrev pub invariant-loop-key : goal.invariant-loop-key
invariant-loop-key l =
    (others : List Texts) × Counts l.left others
    × (l.alone.items ++ are_alone l.key-iterator.rest.items others ≡ are_alone l.fn.keys.items l.fn.others.items)
