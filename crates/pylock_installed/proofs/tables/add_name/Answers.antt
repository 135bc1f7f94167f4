use Rattle.std.proofs.Common.{◌∙◌}
use Rattle.pylock_installed.specs.Inner.Tables.{has}
use Rattle.pylock_installed.proofs.TableLemmas.{added}
use Rattle.pylock_installed.proofs.tables.add_name.Goals as goal

pub returns-clause-added : goal.returns-clause-added
returns-clause-added c = λ other.
    c.in_ok-insert.ensures.updates.0 (record { ref_ptr = (0, 0); now = other })
    ∙ added c.args.name.now other (has c.args.names.now other)
