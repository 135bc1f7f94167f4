use denote.Shadow.{shadow}
use denote.Text.{Utf8}
use Rattle.std.proofs.Common.{length}
use Rattle.pylock_run.specs.Inner.Writes.{Pours}
use Rattle.pylock_run.specs.Stream.Terminal.{terminal_text}
use Rattle.pylock_run.proofs.stream.terminal.write_text.Given as goal

-- the rest of what a terminal is given is what it is given for the rest
abbrev pub invariant-parts : goal.invariant-parts
invariant-parts g l = shadow (Utf8 l.left) × Pours (g.S.Sink.value l.initial.sink) (g.S.Sink.value l.sink) (terminal_text l.text) (terminal_text l.left)

abbrev pub decreases-parts : goal.decreases-parts
decreases-parts g l = length l.left
