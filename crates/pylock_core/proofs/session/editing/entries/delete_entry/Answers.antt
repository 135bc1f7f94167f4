use Rattle.std.proofs.Common.{◌∙◌, ap, sym, arith}
use Rattle.std.proofs.lemmas.List.{append-nil}
use Rattle.pylock_core.specs.Inner.Parts.{state_of}
use Rattle.pylock_core.specs.Inner.Tables.TagSets.{set_number}
use Rattle.pylock_core.proofs.Lemmas.Editing.Entries.{accepted_there, without_row, no_capacity}
use Rattle.pylock_core.proofs.Lemmas.Tables.Rows.{some_within}
use Rattle.pylock_core.proofs.Lemmas.Tables.TagSets.{no_numbers}
use Rattle.pylock_core.proofs.session.editing.entries.delete_entry.Goals as goal

pub write_entry-requires-clause-within : goal.write_entry-requires-clause-within
write_entry-requires-clause-within c = some_within c.args.parts.now.entries.items c.in_ok-place.place c.in_ok-place.ensures.there

pub write_entry-requires-clause-index : goal.write_entry-requires-clause-index
write_entry-requires-clause-index c = no_capacity c.args.parts.now.index

pub write_entry-requires-clause-sets : goal.write_entry-requires-clause-sets
write_entry-requires-clause-sets c = no_numbers (set_number c.args.parts.now.sets) c.new.result.items c.new.ensures.items

pub returns-clause-left : goal.returns-clause-left
returns-clause-left c = λ judged.
    let p = c.args.parts.now in
    record {
      applied = accepted_there c.args.number (state_of p) _ (state_of c.write_entry.new.parts) c.in_ok-place.ensures.known
          (c.write_entry.ensures.state
          ∙ ap (λ entries. record (state_of p) { entries = entries }) (without_row c.args.number 1 c.in_ok-place.place p.entries.items (omega (arith, c.in_ok-place.ensures.place))));
      judged = sym (append-nil judged);
    }
