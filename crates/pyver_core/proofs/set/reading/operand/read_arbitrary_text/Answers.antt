use Rattle.pyver_core.proofs.Lemmas.Set.Reading.Boundaries.{boundary_behind_arbitrary}
use Rattle.pyver_core.proofs.set.reading.operand.read_arbitrary_text.Goals as goal

pub split_at-requires : goal.split_at-requires
split_at-requires c = rw (c.arbitrary_len.ensures, c.as_bytes.ensures.value) (boundary_behind_arbitrary c.after_white-text.result.now)
