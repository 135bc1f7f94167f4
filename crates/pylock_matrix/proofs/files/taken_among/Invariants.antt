use Rattle.std.proofs.Common.{◌≡◌, filter, take}
use Rattle.std.specs.List.{flat_map}
use Rattle.pylock_matrix.specs.Files.{picks_of}
use Rattle.pylock_matrix.specs.Inner.Taken.{is_taken}
use Rattle.pylock_matrix.proofs.files.taken_among.Given as goal

-- the files so far
abbrev pub invariant-loop-number : goal.invariant-loop-number
invariant-loop-number l =
    l.picks.items ≡ flat_map (λ f. filter (is_taken l.taken) (picks_of l.session.state f.0)) (take l.number-index l.fates)
