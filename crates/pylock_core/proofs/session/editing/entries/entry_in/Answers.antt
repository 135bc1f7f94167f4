use Rattle.std.proofs.Common.{◌∙◌, sym, None, arith}
use Rattle.pylock_core.proofs.Lemmas.Editing.Entries.{entry_at_row}
use Rattle.pylock_core.proofs.session.editing.entries.entry_in.Goals as goal

pub returns : goal.returns
returns c =
    c.as_ref.ensures.value ∙ c.in_ok-get.ensures.lookup.3.1 None
    ∙ sym (entry_at_row c.args.number 1 c.in_ok-place.place c.args.entries.now (omega (arith, c.in_ok-place.ensures)))
