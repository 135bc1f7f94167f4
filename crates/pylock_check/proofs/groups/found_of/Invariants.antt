use Rattle.std.proofs.Common.{◌≡◌, ◌-◌, length, map}
use Rattle.pylock_check.specs.Groups.{after_rounds, is_so, lent_marked, unmarked}
use Rattle.pylock_check.proofs.groups.found_of.Given as goal

-- the rounds that are left give what all of them do
abbrev pub invariant-loop-round : goal.invariant-loop-round
invariant-loop-round l =
    after_rounds (is_so l.question) (length l.groups - l._round) (map lent_marked l.found.items)
    ≡ after_rounds (is_so l.question) (length l.groups) (map unmarked l.groups)
