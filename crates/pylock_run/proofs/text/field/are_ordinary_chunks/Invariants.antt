use Rattle.std.proofs.Common.{◌≡◌, take, true}
use Rattle.std.specs.List.{list_all}
use Rattle.pylock_run.specs.Inner.Fields.{is_ordinary}
use Rattle.pylock_run.proofs.text.field.are_ordinary_chunks.Given as goal

abbrev pub invariant-loop-chunk : goal.invariant-loop-chunk
invariant-loop-chunk g l = list_all (list_all is_ordinary) (take l.chunk-index l.chunks) ≡ true
