use Rattle.std.proofs.Common.{◌∙◌, is_some, ◌+◌, ◌<◌, ◌≤◌, length, IfSome, subst, ap, sym, arith}
use Rattle.std.proofs.lemmas.List.{length-set}
use Rattle.pylock_core.specs.Inner.Tables.Index.{HaveCapacity, list_at, moved}
use Rattle.pylock_core.specs.Session.State.{Rises, in_rows}
use Rattle.pylock_core.specs.Inner.Tables.Names.{HasCapacity, is_at}
use Rattle.pylock_core.specs.Inner.Parts.{AreLiving, AreMembers, IsIndex, IsJudged, IsNamed, state_of}
use Rattle.pylock_core.specs.Inner.Tables.TagSets.{AreSets}
use Rattle.pylock_core.proofs.Lemmas.Tables.Conditions.{row_numbered}
use Rattle.pylock_core.proofs.Lemmas.Tables.Rows.{of_rows_set}
use Rattle.pylock_core.proofs.Lemmas.Parts.{session_even, both_named_as, rows_named_as}
use Rattle.pylock_core.proofs.Lemmas.Editing.Entries.{both_at, index_rises, index_written, living_rises, living_written, members_written, old_at, row_below, row_name, row_rises, row_capacity}
use Rattle.pylock_core.proofs.Lemmas.Tables.TagSets.{sets_written}
use Rattle.pylock_core.proofs.session.editing.entries.write_entry.Goals as goal

pub move_in_lists-requires-clause-capacity : goal.move_in_lists-requires-clause-capacity
move_in_lists-requires-clause-capacity c = subst (λ is. HaveCapacity c.args.parts.now.index is 0) (sym c.keys_at-is.ensures) c.requires.index

pub move_in_lists-requires-clause-rise : goal.move_in_lists-requires-clause-rise
move_in_lists-requires-clause-rise c = index_rises c.args.parts.now.index c.args.parts.now.head c.args.parts.now.entries.items c.requires.session.index

pub index-requires-2 : goal.index-requires-2
index-requires-2 c = let even = session_even c.args.parts.now c.requires.session in omega (arith, c.requires.within, even)

pub move_member-requires : goal.move_member-requires
move_member-requires c =
    let p = c.args.parts.now in
    let s = c.requires.session in
    let before = both_at p.names p.entries.items p.rows.items c.args.place c.index.result.now c.index-2.result.now s.named c.requires.within c.index.ensures c.index-2.ensures in
    record {
      names = s.names;
      was = subst (λ o. IfSome o (λ n. n < length p.names.policies.items)) (sym c.name_of-was.ensures) (row_below p.names c.index.result.now c.index-2.result.now s.names before);
      is = subst (λ o. IfSome o (λ n. n < length p.names.policies.items)) (sym c.name_of.ensures) (row_below p.names c.args.entry c.args.row s.names c.requires.named);
      capacity = subst (λ o. IfSome o (λ n. HasCapacity p.names n)) (sym c.name_of.ensures) (row_capacity p.names c.args.row c.requires.name);
      was_rises = subst (λ o. IfSome o (λ n. Rises 0 (list_at p.names.members.items n))) (sym c.name_of-was.ensures) (row_rises p.names p.entries.items c.index.result.now c.index-2.result.now s.members before);
      is_rises = subst (λ o. IfSome o (λ n. Rises 0 (list_at p.names.members.items n))) (sym c.name_of.ensures) (row_rises p.names p.entries.items c.args.entry c.args.row s.members c.requires.named);
    }

pub move_in_list-requires-clause-rises : goal.move_in_list-requires-clause-rises
move_in_list-requires-clause-rises c = living_rises c.args.parts.now.living.items c.args.parts.now.entries.items c.requires.session.living

pub put_at-requires : goal.put_at-requires
put_at-requires c = let even = session_even c.args.parts.now c.requires.session in omega (arith, c.requires.within, even)

pub put-requires : goal.put-requires
put-requires c = omega (arith, c.requires.within, c.requires.session.sets.long)

pub returns-clause-session : goal.returns-clause-session
returns-clause-session c =
    let p = c.args.parts.now in
    let s = c.requires.session in
    let place = c.args.place in
    let two = c.move_member.new.names in
    let few : length p.entries.items ≤ 100000 = s.few in
    let long = ap length c.put_at-2.ensures ∙ length-set p.entries.items place c.args.entry in
    let old = c.index.result.now in
    let gone = c.index-2.result.now in
    let there = old_at p.entries.items place old c.requires.within c.index.ensures in
    let before = both_at p.names p.entries.items p.rows.items place old gone s.named c.requires.within c.index.ensures c.index-2.ensures in
    let named = both_named_as p.names two c.move_member.ensures.same.numbers c.args.entry c.args.row c.requires.named in
    record {
      few = omega (arith, few, long);
      named = rw (c.put_at-2.ensures, c.put_at.ensures) (of_rows_set (IsNamed two) p.entries.items p.rows.items place c.args.entry c.args.row
          (rows_named_as p.names two c.move_member.ensures.same.numbers p.entries.items p.rows.items s.named) named);
      judged = rw (c.put_at-2.ensures, c.put_at.ensures, c.move_member.ensures.same.items) (of_rows_set (IsJudged p.environment p.tags p.names.policies.items) p.entries.items p.rows.items place c.args.entry c.args.row s.judged c.requires.judged);
      head = s.head;
      names = c.move_member.ensures.same.is;
      members = subst (AreMembers two) (sym c.put_at-2.ensures) (members_written p.names two p.entries.items place (place + 1) old c.args.entry gone c.args.row s.names there before c.requires.named s.members
          (omega arith) c.requires.within c.move_member.ensures.same.numbers
          (λ n. c.move_member.ensures.members n ∙ ap (λ was. moved (place + 1) (is_at n was) (is_at n c.name_of.result) (list_at p.names.members.items n)) c.name_of-was.ensures
          ∙ ap (λ is. moved (place + 1) (is_at n (row_name gone)) (is_at n is) (list_at p.names.members.items n)) c.name_of.ensures));
      index = subst (IsIndex c.move_in_lists.new.lists p.head) (sym c.put_at-2.ensures) (index_written p.index c.move_in_lists.new.lists c.keys_at-was.result c.keys_at-is.result p.head p.entries.items place (place + 1) old c.args.entry
          s.index there c.keys_at-was.ensures c.keys_at-is.ensures (omega arith) c.requires.within c.move_in_lists.ensures.long c.move_in_lists.ensures.changed);
      living = subst (AreLiving c.move_in_list.new.numbers.items) (sym c.put_at-2.ensures) (living_written p.living.items c.move_in_list.new.numbers.items p.entries.items place (place + 1) c.is_some-stood.result c.is_some.result c.args.entry
          s.living (ap is_some (sym (old_at p.entries.items place c.index-3.result.now c.requires.within c.index-3.ensures)) ∙ sym c.is_some-stood.ensures) (sym c.is_some.ensures) (omega arith) c.requires.within c.move_in_list.ensures);
      sets = subst (AreSets _) (sym c.put_at-2.ensures) (sets_written p.sets c.put.new.self c.args.sets p.entries.items place c.args.entry s.sets c.requires.within c.requires.sets c.put.ensures.numbers c.put.ensures.of_entries);
      conditions = rw (c.put_at-2.ensures, c.put_at.ensures) (row_numbered p.conditions.count p.entries.items p.rows.items place c.args.entry c.args.row c.requires.fits);
    }

pub returns-clause-state : goal.returns-clause-state
returns-clause-state c =
    let p = c.args.parts.now in
    let rows = ap (in_rows 1) c.put_at-2.ensures in
    let long = ap length c.put_at-2.ensures ∙ length-set p.entries.items c.args.place c.args.entry in
    let policies = c.move_member.ensures.same.policies in
    λ i. record (state_of p) { entries = rows i; last = long i; policies = policies i }
