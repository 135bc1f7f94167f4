use Rattle.std.proofs.Common.{◌++◌, take}
use Rattle.std.specs.List.{flat_map}
use Rattle.pylock_run.specs.Inner.Writes.{Pours}
use Rattle.pylock_program.proofs.lines.print_lines.Given as goal

abbrev pub invariant-loop-line : goal.invariant-loop-line
invariant-loop-line g l =
    Pours (g.W.Sink.value l.initial.writer) (g.W.Sink.value l.writer)
    (l.fn.text.items ++ flat_map g.L.Line.line (take l.line-index l.lines)) l.out.items
