use Rattle.std.proofs.Common.{rules, append_assoc}
use Rattle.pylock_check.proofs.head.head_differences.Goals as goal

pub returns : goal.returns
returns c =
    let first = rw c.requires_python.ensures at c.in_ok-list.ensures in
    let both = rw c.requires_python-2.ensures at first in
    (c.in_ok-list.list.items, both, search (rules, append_assoc))
