use Rattle.std.proofs.Common.{◌∙◌, Some, ap}
use Rattle.toml.specs.View.{view, members_view}
use Rattle.pylock_readers.proofs.TableLemmas.{left_behind, taken_member}
use Rattle.pylock_readers.proofs.field.take.Goals as goal

pub returns-in-Some-clause-taken : goal.returns-in-Some-clause-taken
returns-in-Some-clause-taken c =
    ap (λ v. Some (view v)) c.replace.ensures.value
    ∙ taken_member (Some c.in-Some.value.now) c.args.key.now c.args.table.now.entries
    (rw c.in-Some.is at c.get_mut.ensures.value)

pub returns-in-Some-clause-left : goal.returns-in-Some-clause-left
returns-in-Some-clause-left c =
    ap members_view (c.get_mut.follows.holds c.replace.new.dest).0
    ∙ rw c.replace.ensures.after (left_behind c.args.key.now c.args.table.now.entries)
