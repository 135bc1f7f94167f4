use Rattle.std.proofs.Common.{◌≡◌, ◌++◌, take}
use Rattle.std.specs.List.{flat_map}
use Rattle.pylock_run.specs.Text.Plan.{pick_text}
use Rattle.pylock_program.proofs.text.files.push_picks.Given as goal

abbrev pub invariant-loop-pick : goal.invariant-loop-pick
invariant-loop-pick l = l.out.items ≡ l.initial.out.items ++ flat_map (pick_text l.session.state) (take l.pick-index l.picks)
