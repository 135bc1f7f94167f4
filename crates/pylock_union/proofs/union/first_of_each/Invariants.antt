use Rattle.std.proofs.Common.{◌≡◌, ◌++◌, [], drop, take}
use Rattle.std.specs.BTreeSet.{contains}
use Rattle.std.specs.List.{list_any}
use Rattle.pylock_compare.specs.Texts.{Texts, are_alike, texts_cmp}
use Rattle.pylock_union.specs.Listed.{all_lent}
use Rattle.pylock_union.specs.Union.{file_key, firsts_after}
use Rattle.pylock_union.proofs.union.first_of_each.Given as goal

-- those so far, and what is left with them is what the whole is; the set has the files so far
abbrev pub invariant-loop-source : goal.invariant-loop-source
invariant-loop-source l =
    (all_lent l.firsts.items ++ firsts_after (all_lent (take l.source-index l.list)) (all_lent (drop l.source-index l.list))
    ≡ firsts_after [] (all_lent l.list))
    × ((key : Texts) → contains texts_cmp l.seen key ≡ list_any (λ one. are_alike key (file_key one.source)) (all_lent (take l.source-index l.list)))
