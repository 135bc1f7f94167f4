use Rattle.std.proofs.Common.{◌∙◌}
use Rattle.pylock_advisories.specs.Index.{has}
use Rattle.pylock_advisories.proofs.IndexLemmas.{added}
use Rattle.pylock_advisories.proofs.index.add_name.Goals as goal

pub returns-clause-added : goal.returns-clause-added
returns-clause-added c = λ other.
    c.in_ok-insert.ensures.updates.0 (record { ref_ptr = (0, 0); now = other })
    ∙ added c.args.name.now other (has c.args.seen.now other)
