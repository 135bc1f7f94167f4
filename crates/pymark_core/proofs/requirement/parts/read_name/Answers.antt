use Rattle.pymark_core.proofs.BoundaryLemmas.{boundary_after_name}
use Rattle.pymark_core.proofs.requirement.parts.read_name.Goals as goal

pub split_at-requires : goal.split_at-requires
split_at-requires c = rw c.name_len.ensures (boundary_after_name c.args.text.now c.utf8.text)
