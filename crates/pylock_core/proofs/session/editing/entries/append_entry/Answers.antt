use Rattle.std.proofs.Common.{◌≡◌, ◌+◌, ◌∙◌, ◌<◌, ◌++◌, ◌∷◌, [], Some, None, Ok, length, set, refl, ap, sym, subst, arith}
use Rattle.std.proofs.lemmas.List.{length-set}
use Rattle.pylock_core.specs.Inner.Parts.{AreLiving, AreMembers, IsIndex, IsJudged, IsNamed, state_of}
use Rattle.pylock_readers.specs.Entry.{wheel_names}
use Rattle.pylock_core.specs.Session.State.{in_rows, State, with_next}
use Rattle.pylock_core.specs.Inner.Tables.TagSets.{AreNumbers, AreSets, set_number}
use Rattle.pylock_core.proofs.Lemmas.Tables.Conditions.{fits_wider, numbered_wider}
use Rattle.pylock_core.proofs.Lemmas.Tables.Names.{length_more}
use Rattle.pylock_core.proofs.Lemmas.Editing.Entries.{next_state, index_wider, living_wider, members_wider, on_err, set_last}
use Rattle.pylock_core.proofs.Lemmas.Tables.TagSets.{sets_wider}
use Rattle.pylock_core.proofs.Lemmas.Tables.Rows.{of_rows_wider}
use Rattle.pylock_core.proofs.Lemmas.Parts.{shown_capacity}
use Rattle.pylock_core.proofs.session.editing.entries.append_entry.Goals as goal

pub write_entry-requires-clause-session : goal.write_entry-requires-clause-session
write_entry-requires-clause-session c =
    let p = c.prepare_row.new.parts in
    let s = c.in_ok-row.ensures.session in
    let entries = c.push_within-2.ensures.items ∙ ap (λ es. es ++ None ∷ []) c.in_ok-reserve.ensures.items in
    let rows = c.push_within.ensures.items ∙ ap (λ rs. rs ++ None ∷ []) c.in_ok-reserve-2.ensures.items in
    let before : length p.entries.items < 100000 = rw (c.in_ok-row.ensures.entries, c.in_ok-sets.ensures.entries) c.requires.capacity in
    let long = ap length entries ∙ length_more p.entries.items None in
    record {
      few = omega (arith, before, long);
      named = rw (entries, rows) (of_rows_wider (IsNamed p.names) p.entries.items p.rows.items s.named);
      judged = rw (entries, rows) (of_rows_wider (IsJudged p.environment p.tags p.names.policies.items) p.entries.items p.rows.items s.judged);
      head = s.head;
      names = s.names;
      members = subst (AreMembers p.names) (sym entries) (members_wider p.names p.entries.items s.members);
      index = subst (IsIndex p.index p.head) (sym entries) (index_wider p.index p.head p.entries.items s.index);
      living = subst (AreLiving c.reserve-3.new.self.items) (sym entries) (living_wider c.reserve-3.new.self.items p.entries.items (c.in_ok-reserve-3.ensures.items ∙ s.living));
      sets = subst (AreSets (record p.sets { of_entries = c.push_within-3.new.items })) (sym entries)
          (sets_wider p.sets c.push_within-3.new.items c.new.result p.entries.items s.sets
          (c.push_within-3.ensures.items ∙ ap (λ ls. ls ++ c.new.result ∷ []) c.in_ok-reserve-4.ensures.items) c.new.ensures.items);
      conditions = rw (entries, rows) (numbered_wider p.conditions.count p.entries.items p.rows.items s.conditions);
    }

pub write_entry-requires-clause-fits : goal.write_entry-requires-clause-fits
write_entry-requires-clause-fits c =
    let p = c.prepare_row.new.parts in
    let entries = c.push_within-2.ensures.items ∙ ap (λ es. es ++ None ∷ []) c.in_ok-reserve.ensures.items in
    let rows = c.push_within.ensures.items ∙ ap (λ rs. rs ++ None ∷ []) c.in_ok-reserve-2.ensures.items in
    rw (entries, rows) (fits_wider p.conditions.count p.entries.items p.rows.items (Some c.args.entry) (Some c.in_ok-row.row) c.in_ok-row.ensures.fits)

pub write_entry-requires-clause-sets : goal.write_entry-requires-clause-sets
write_entry-requires-clause-sets c =
    subst (λ ts. AreNumbers (set_number ts) (wheel_names c.args.entry) c.in_ok-sets.sets.items) (sym c.in_ok-row.ensures.sets) c.in_ok-sets.ensures.numbers

pub write_entry-requires-clause-within : goal.write_entry-requires-clause-within
write_entry-requires-clause-within c =
    let p = c.prepare_row.new.parts in
    let entries = c.push_within-2.ensures.items ∙ ap (λ es. es ++ None ∷ []) c.in_ok-reserve.ensures.items in
    let long = ap length entries ∙ length_more p.entries.items None in
    let same = ap length (c.in_ok-row.ensures.entries ∙ c.in_ok-sets.ensures.entries) in
    omega (arith, long, same, c.len-place.ensures)

pub returns-in_err-reserve-2-clause-kept : goal.returns-in_err-reserve-2-clause-kept
returns-in_err-reserve-2-clause-kept c =
    on_err _
    (shown_capacity c.prepare_row.new.parts c.reserve.new.self c.reserve-2.new.self c.in_ok-reserve.ensures.items c.in_err-reserve-2.ensures.items ∙ c.in_ok-row.ensures.shown ∙ c.in_ok-sets.ensures.shown)

pub returns-clause-made : goal.returns-clause-made
returns-clause-made c =
    let p = c.prepare_row.new.parts in
    let made = c.in_ok-row.ensures in
    let place = c.len-place.result in
    let wider = c.push_within-2.new.items.items in
    let entries = c.push_within-2.ensures.items ∙ ap (λ es. es ++ None ∷ []) c.in_ok-reserve.ensures.items in
    let same = made.entries ∙ c.in_ok-sets.ensures.entries in
    let before : length p.entries.items < 100000 = rw same c.requires.capacity in
    let at : place ≡ length p.entries.items = c.len-place.ensures ∙ c.args.parts.now.entries.ok.0 ∙ ap length (sym same) in
    let more = ap (λ xs. set xs place (Some c.args.entry)) entries ∙ ap (λ k. set (p.entries.items ++ None ∷ []) k (Some c.args.entry)) at ∙ set_last p.entries.items None (Some c.args.entry) in
    let long = sym (length-set wider place (Some c.args.entry)) in
    let last : ◌≡◌ {A = State} (record (state_of p) { entries = in_rows 1 (set wider place (Some c.args.entry)); last = length wider }) (record (state_of p) { entries = in_rows 1 (set wider place (Some c.args.entry)); last = length (set wider place (Some c.args.entry)) }) =
    (λ i. record (state_of p) { entries = in_rows 1 (set wider place (Some c.args.entry)); last = long i }) in
    record {
      applied = ap (λ v. with_next c.args.entry v.state) (sym (made.shown ∙ c.in_ok-sets.ensures.shown))
          ∙ next_state (state_of p) c.args.entry p.entries.items (set wider place (Some c.args.entry)) refl refl before more
          ∙ ap Ok (sym (c.write_entry.ensures.state ∙ last));
      judged = made.count ∙ ap (λ n. c.args.judged.now ++ (n + 1) ∷ []) (at ∙ ap length same);
    }
