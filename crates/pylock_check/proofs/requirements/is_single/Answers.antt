use Rattle.std.proofs.Common.{sym}
use Rattle.pylock_check.proofs.TableLemmas.{single}
use Rattle.pylock_check.proofs.requirements.is_single.Goals as goal

pub returns : goal.returns
returns c = rw c.len.ensures.len (sym (single c.args.table.now.entries))
