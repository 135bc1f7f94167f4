use Rattle.std.proofs.Common.{◌∙◌, Ok, Err}
use Rattle.std.proofs.lemmas.List.Sorted.{searched}
use Rattle.pylock_core.proofs.Lemmas.Tables.Index.{in_order, put_in_at, put_in_there}
use Rattle.pylock_core.proofs.Lemmas.Tables.Capacity.{made}
use Rattle.pylock_core.proofs.session.tables.index.enter_number.Goals as goal

pub returns-in-Err : goal.returns-in-Err
returns-in-Err c =
    let xs = c.args.numbers.now.items in
    let position = rw c.deref.ensures.value at c.in-Err.ensures.position in
    let found = searched xs c.args.number (Err c.in-Err.place) position (in_order 0 xs c.requires.rises) in
    c.insert.ensures.items ∙ made c.insert.result _ _ (c.insert.ensures.succeeds c.requires.capacity)
    ∙ put_in_at c.args.number xs c.in-Err.place found.0 found.1 found.2

pub returns-in_default : goal.returns-in_default
returns-in_default c =
    let xs = c.args.numbers.now.items in
    let position = rw c.deref.ensures.value at c.in_default.ensures.position in
    let found = searched xs c.args.number (Ok c.in_default.field-0) position (in_order 0 xs c.requires.rises) in
    put_in_there 0 c.args.number xs c.in_default.field-0 c.requires.rises found.0 found.1
