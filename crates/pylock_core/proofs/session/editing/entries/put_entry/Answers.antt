use Rattle.std.proofs.Common.{◌∙◌, None, IsSome, get_or, subst, ap, sym, arith}
use Rattle.pylock_readers.specs.Entry.{wheel_names}
use Rattle.pylock_core.specs.Inner.Parts.{state_of}
use Rattle.pylock_core.specs.Inner.Tables.TagSets.{AreNumbers, set_number}
use Rattle.pylock_core.specs.Session.State.{State, with_entry}
use Rattle.pylock_core.proofs.Lemmas.Editing.Entries.{accepted_there, with_entry_row}
use Rattle.pylock_core.proofs.Lemmas.Tables.Rows.{some_within}
use Rattle.pylock_core.proofs.session.editing.entries.put_entry.Goals as goal

pub write_entry-requires-clause-within : goal.write_entry-requires-clause-within
write_entry-requires-clause-within c = some_within c.prepare_row.new.parts.entries.items c.in_ok-place.place (rw (c.in_ok-row.ensures.entries, c.in_ok-sets.ensures.entries) c.in_ok-place.ensures.there)

pub write_entry-requires-clause-sets : goal.write_entry-requires-clause-sets
write_entry-requires-clause-sets c =
    subst (λ ts. AreNumbers (set_number ts) (wheel_names c.args.entry) c.in_ok-sets.sets.items) (sym c.in_ok-row.ensures.sets) c.in_ok-sets.ensures.numbers

pub returns-clause-left : goal.returns-clause-left
returns-clause-left c =
    let p = c.prepare_row.new.parts in
    let n = c.args.number in
    let place = c.in_ok-place.place in
    let there : IsSome (get_or p.entries.items place None) = rw (c.in_ok-row.ensures.entries, c.in_ok-sets.ensures.entries) c.in_ok-place.ensures.there in
    let written : State → State = λ state. record state { entries = with_entry n c.args.entry state.entries } in
    record {
      applied = accepted_there n (state_of c.args.parts.now) _ (state_of c.write_entry.new.parts) c.in_ok-place.ensures.known
          (c.write_entry.ensures.state
          ∙ ap (λ entries. record (state_of p) { entries = entries }) (with_entry_row n 1 place c.args.entry p.entries.items (omega (arith, c.in_ok-place.ensures.place)) there)
          ∙ ap (λ v. written v.state) (c.in_ok-row.ensures.shown ∙ c.in_ok-sets.ensures.shown));
      judged = c.in_ok-row.ensures.count;
    }
