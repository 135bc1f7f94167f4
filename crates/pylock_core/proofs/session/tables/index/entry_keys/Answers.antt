use Rattle.std.proofs.Common.{◌≡◌, ◌∙◌, is_some, not, sym, rules}
use Rattle.pylock_core.specs.Session.Judgement.{keys}
use Rattle.pylock_readers.specs.Entry.Kinds.{is_any}
use Rattle.pylock_core.proofs.Lemmas.Tables.Index.{entry_by_one}
use Rattle.pylock_core.proofs.session.tables.index.entry_keys.Goals as goal

pub returns-in-Some : goal.returns-in-Some
returns-in-Some c =
    let entry = c.args.entry.now in
    let check : c.is_some-check.result ≡ is_some entry.requires_python = search rules in
    let wheels : not c.is_empty-wheels.result ≡ is_any entry.wheels = search rules in
    (rw (c.from_ref.ensures.value, check, wheels) at c.keys_read.ensures)
    ∙ entry_by_one entry c.in-Some.marker.now (sym c.in-Some.ensures) keys
