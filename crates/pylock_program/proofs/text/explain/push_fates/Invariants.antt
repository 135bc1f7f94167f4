use Rattle.std.proofs.Common.{◌≡◌, ◌++◌, take}
use Rattle.std.specs.List.{flat_map}
use Rattle.pylock_program.specs.Text.Explain.{fate_text}
use Rattle.pylock_program.proofs.text.explain.push_fates.Given as goal

abbrev pub invariant-loop-fate : goal.invariant-loop-fate
invariant-loop-fate l = l.out.items ≡ l.initial.out.items ++ flat_map (fate_text l.session.state) (take l.fate-index l.fates)
