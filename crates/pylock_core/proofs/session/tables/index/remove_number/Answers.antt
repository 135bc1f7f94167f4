use Rattle.std.proofs.Common.{◌∙◌, Ok, Err}
use Rattle.std.proofs.lemmas.List.Sorted.{searched}
use Rattle.pylock_core.proofs.Lemmas.Tables.Index.{in_order, take_out_at, take_out_absent}
use Rattle.pylock_core.proofs.session.tables.index.remove_number.Goals as goal

pub returns-in-Ok : goal.returns-in-Ok
returns-in-Ok c =
    let xs = c.args.numbers.now.items in
    let position = rw c.deref.ensures.value at c.in-Ok.ensures.position in
    let found = searched xs c.args.number (Ok c.in-Ok.place) position (in_order 0 xs c.requires) in
    c.remove.ensures.items ∙ take_out_at 0 c.args.number xs c.in-Ok.place c.requires found.0 found.1

pub returns-in_default : goal.returns-in_default
returns-in_default c =
    let xs = c.args.numbers.now.items in
    let position = rw c.deref.ensures.value at c.in_default.ensures.position in
    let found = searched xs c.args.number (Err c.in_default.field-0) position (in_order 0 xs c.requires) in
    take_out_absent c.args.number xs c.in_default.field-0 found.0 found.1 found.2
