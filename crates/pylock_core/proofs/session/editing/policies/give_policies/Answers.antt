use Rattle.std.proofs.Common.{◌≡◌, ◌∙◌, ◌++◌, Ok, length, map, ap, sym, ℕ, Bool, List, Option, arith, cond}
use Rattle.pylock_readers.specs.Entry.{EntryValue}
use Rattle.pylock_core.specs.Inner.Editing.{Leaves}
use Rattle.pylock_core.specs.Inner.Judging.Judgement.{AllStand, fresh_row}
use Rattle.pylock_core.specs.Inner.Parts.{AreNumbered, IsJudged, IsNamed, IsSession, OfRows, state_of}
use Rattle.pylock_core.specs.Inner.Tables.Names.{AreMarks, number_named, policies_in, policy_at}
use Rattle.pylock_core.specs.Inner.Tables.Rows.{is_marked, with_rows}
use Rattle.pylock_core.specs.Session.Judgement.{numbers_where, verdict_of}
use Rattle.pylock_core.specs.Session.State.{in_rows, is_among, policy_of, with_policies}
use Rattle.pylock_core.specs.declared.edit.Policy.{Policy}
use Rattle.pylock_core.specs.declared.session.parts.Parts.{Parts}
use Rattle.pylock_core.specs.declared.session.tables.names.Names.{Names}
use Rattle.pylock_core.specs.declared.session.tables.rows.Row.{Row}
use Rattle.pylock_core.proofs.Lemmas.Editing.Policies.{marked_here, policies_given}
use Rattle.pylock_core.proofs.Lemmas.Judging.Judgement.{AreAnew, Suffices, all_stand, all_within, anew_judged, anew_named, anew_numbered, with_rows_anew}
use Rattle.pylock_core.proofs.Lemmas.Parts.{policy_here, session_even, session_kept, shown_kept}
use Rattle.pylock_core.proofs.Lemmas.Tables.Index.{passing}
use Rattle.pylock_core.proofs.Lemmas.Tables.Rows.{of_rows_weaker}
use Rattle.pylock_core.proofs.session.editing.policies.give_policies.Goals as goal
use Rattle.pylock_core.proofs.session.editing.policies.give_policies.Goals.{In_ok-number_all, In_ok-numbers}

-- the entries of these names
abbrev of_these : List (List ℕ) → EntryValue → Bool
of_these list entry = is_among list entry.name

-- what the names have under these policies suffices
these_suffice : (parts : Parts) (two : Names) (list : List (List ℕ)) (policy : Policy) → IsSession parts
    → ((q : List ℕ) → number_named two q ≡ number_named parts.names q) → policies_in two ≡ with_policies (policies_in parts.names) list policy
    → Suffices parts (of_these list) parts.environment parts.tags two.policies.items (λ n. policy)
these_suffice parts two list policy s numbers policies = record {
  hit = λ e r named is. sym (now e r named ∙ ap (λ b. cond b policy (policy_of (policies_in parts.names) e.name)) is);
  miss = λ e r named is. ap (verdict_of e parts.environment parts.tags)
      (sym (now e r named ∙ ap (λ b. cond b policy (policy_of (policies_in parts.names) e.name)) is ∙ policy_here parts.names e.name r.name named.name));
}
  where
    now : (e : EntryValue) (r : Row) → IsNamed parts.names e r → policy_at two.policies.items r.name ≡ cond (is_among list e.name) policy (policy_of (policies_in parts.names) e.name)
    now e r named =
        sym (policy_here two e.name r.name (numbers e.name ∙ named.name))
        ∙ ap (λ ps. policy_of ps e.name) policies
        ∙ policies_given (policies_in parts.names) list policy e.name

-- the rows under policies that are written, where those of the names are judged again
these_again : (parts : Parts) (two : Names) (list : List (List ℕ)) (policy : Policy) (rows : List (Option Row)) → IsSession parts
    → ((q : List ℕ) → number_named two q ≡ number_named parts.names q) → policies_in two ≡ with_policies (policies_in parts.names) list policy
    → rows ≡ with_rows (map (fresh_row parts.environment parts.tags (λ n. policy) parts.entries.items parts.rows.items) (passing (of_these list) 1 parts.entries.items)) parts.rows.items
    → OfRows (IsNamed two) parts.entries.items rows × OfRows (IsJudged parts.environment parts.tags two.policies.items) parts.entries.items rows
    × AreNumbered parts.conditions.count parts.entries.items rows
these_again parts two list policy rows s numbers policies made =
    let is : AreAnew parts (of_these list) parts.environment parts.tags (λ n. policy) rows = with_rows_anew parts (of_these list) parts.environment parts.tags (λ n. policy) rows made in (
      of_rows_weaker (IsNamed parts.names) (IsNamed two) (λ e r h. record { name = numbers e.name ∙ h.name; sources = h.sources }) parts.entries.items rows
          (anew_named parts (of_these list) parts.environment parts.tags (λ n. policy) rows s is),
      anew_judged parts (of_these list) parts.environment parts.tags two.policies.items (λ n. policy) rows s (these_suffice parts two list policy s numbers policies) is,
      anew_numbered parts (of_these list) parts.environment parts.tags (λ n. policy) rows s is,
    )

-- the session where the names have numbers
numbered : (c : In_ok-number_all) → IsSession (record c.args.parts.now { names = c.number_all.new.names })
numbered c = session_kept c.args.parts.now c.number_all.new.names c.in_ok-number_all.ensures.kept c.requires

-- the numbers of the entries that are judged again
these : (parts : Parts) (list all : List (List ℕ)) (marks marked : List Bool) (rows : List (Option Row)) (numbers : List ℕ) → IsSession parts → AreMarks parts.names list marks
    → list ≡ all → marked ≡ marks → rows ≡ parts.rows.items → numbers ≡ numbers_where (is_marked marked) (in_rows 1 rows)
    → numbers ≡ passing (of_these all) 1 parts.entries.items
these parts list all marks marked rows numbers s are same marks_same rows_same found =
    found ∙ (λ i. passing (is_marked (marks_same i)) 1 (rows_same i))
    ∙ marked_here parts.names list marks are 1 parts.entries.items parts.rows.items s.named
    ∙ ap (λ list. passing (of_these list) 1 parts.entries.items) same

these_here : (c : In_ok-numbers) → c.in_ok-numbers.numbers.items ≡ passing (of_these c.args.names.items) 1 c.args.parts.now.entries.items
these_here c =
    let start = c.args.parts.now in
    these (record start { names = c.number_all.new.names }) c.as_slice-list.result.now c.args.names.items c.in_ok-marks.marks.items
    c.as_slice-2.result.now c.as_slice.result.now c.in_ok-numbers.numbers.items
    (session_kept start c.number_all.new.names c.in_ok-number_all.ensures.kept c.requires) c.in_ok-marks.ensures
    c.as_slice-list.ensures.value c.as_slice-2.ensures.value c.as_slice.ensures.value c.in_ok-numbers.ensures

pub returns-in_err-number_all-clause-session : goal.returns-in_err-number_all-clause-session
returns-in_err-number_all-clause-session c = session_kept c.args.parts.now c.number_all.new.names c.in_err-number_all.ensures.kept c.requires

pub returns-in_err-marks-clause-session : goal.returns-in_err-marks-clause-session
returns-in_err-marks-clause-session c = numbered (goal.at.returns-in_err-marks-clause-session c).In_ok-number_all

pub marked_entries-requires : goal.marked_entries-requires
marked_entries-requires c = omega (arith, session_even c.args.parts.now c.requires, c.requires.few)

pub returns-in_err-numbers-clause-session : goal.returns-in_err-numbers-clause-session
returns-in_err-numbers-clause-session c = numbered (goal.at.returns-in_err-numbers-clause-session c).In_ok-number_all

pub rows_under_policy-requires-clause-session : goal.rows_under_policy-requires-clause-session
rows_under_policy-requires-clause-session c = numbered (goal.at.rows_under_policy-requires-clause-session c).In_ok-number_all

pub rows_under_policy-requires-clause-stand : goal.rows_under_policy-requires-clause-stand
rows_under_policy-requires-clause-stand c =
    all_stand (of_these c.args.names.items) c.args.parts.now.entries.items c.as_slice-3.result.now
    (c.as_slice-3.ensures.value ∙ these_here (goal.at.rows_under_policy-requires-clause-stand c).In_ok-numbers)

pub returns-in_err-fresh-clause-session : goal.returns-in_err-fresh-clause-session
returns-in_err-fresh-clause-session c = numbered (goal.at.returns-in_err-fresh-clause-session c).In_ok-number_all

pub put_rows-requires : goal.put_rows-requires
put_rows-requires c =
    let p = c.args.parts.now in
    let numbers = c.as_slice-3.result.now in
    rw c.in_ok-fresh.ensures.fresh
    (all_within p.environment p.tags (λ n. c.args.policy) p.entries.items p.rows.items (length p.rows.items) numbers (session_even p c.requires)
    (all_stand (of_these c.args.names.items) p.entries.items numbers (c.as_slice-3.ensures.value ∙ these_here (goal.at.put_rows-requires c).In_ok-numbers)))

pub set_policies-requires-clause-known : goal.set_policies-requires-clause-known
set_policies-requires-clause-known c = c.in_ok-number_all.ensures.known

pub returns-clause-session : goal.returns-clause-session
returns-clause-session c =
    let p = c.args.parts.now in
    let s = numbered (goal.at.returns-clause-session c).In_ok-number_all in
    let made = c.put_rows.ensures ∙ ap (λ fresh. with_rows fresh p.rows.items) c.in_ok-fresh.ensures.fresh
    ∙ ap (λ ns. with_rows (map (fresh_row p.environment p.tags (λ n. c.args.policy) p.entries.items p.rows.items) ns) p.rows.items)
    (c.as_slice-3.ensures.value ∙ these_here (goal.at.returns-clause-session c).In_ok-numbers) in
    let policies = c.set_policies.ensures.policies ∙ ap (λ list. with_policies (policies_in c.number_all.new.names) list c.args.policy) c.as_slice-list.ensures.value in
    let all = these_again (record p { names = c.number_all.new.names }) c.set_policies.new.names c.args.names.items c.args.policy c.put_rows.new.rows.items s
    c.set_policies.ensures.numbers policies made in
    record {
      few = s.few;
      named = all.0;
      judged = all.1;
      head = s.head;
      names = c.set_policies.ensures.is;
      members = λ q. c.set_policies.ensures.members q ∙ s.members q;
      index = s.index;
      living = s.living;
      sets = s.sets;
      conditions = all.2;
    }

pub returns-clause-left : goal.returns-clause-left
returns-clause-left c =
    let p = c.args.parts.now in
    let policies = c.set_policies.ensures.policies
    ∙ (λ i. with_policies (c.in_ok-number_all.ensures.kept.policies i) (c.as_slice-list.ensures.value i) c.args.policy) in
    record {
      applied = λ i. Ok (record (state_of p) { policies = sym policies i });
      judged = c.in_ok-fresh.ensures.judged
          ∙ ap (λ ns. c.args.judged.now ++ ns) (c.as_slice-3.ensures.value ∙ these_here (goal.at.returns-clause-left c).In_ok-numbers);
    }
