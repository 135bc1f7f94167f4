use Rattle.std.proofs.Common.{◌≡◌, ◌++◌, take}
use Rattle.pylock_program.specs.Text.Summary.{summary_text}
use Rattle.pylock_program.proofs.text.summary.push_summary.Given as goal

-- the lines of the facts so far are there
abbrev pub invariant-loop-fact : goal.invariant-loop-fact
invariant-loop-fact l = l.out.items ≡ l.fn.out.items ++ summary_text (take l.fact-index l.facts)
