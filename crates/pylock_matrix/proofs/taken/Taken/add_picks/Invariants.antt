use Rattle.std.proofs.Common.{◌≡◌, ◌||◌, take}
use Rattle.std.specs.List.{list_any}
use Rattle.pylock_matrix.specs.Files.{is_same_pick}
use Rattle.pylock_matrix.specs.Inner.Taken.{is_taken}
use Rattle.pylock_core.specs.declared.answer.Pick.{Pick}
use Rattle.pylock_matrix.proofs.taken.Taken.add_picks.Given as goal

abbrev pub invariant-loop-pick : goal.invariant-loop-pick
invariant-loop-pick l = (pick : Pick) → is_taken l.self pick
    ≡ (list_any (λ one. is_same_pick one pick) (take l.pick-index l.picks) || is_taken l.fn.self pick)
