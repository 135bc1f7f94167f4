use Rattle.pymark_core.proofs.BoundaryLemmas.{boundary_after_url}
use Rattle.pymark_core.proofs.requirement.parts.read_url.Goals as goal

pub split_at-requires : goal.split_at-requires
split_at-requires c = rw c.url_len.ensures (boundary_after_url c.args.text.now)
