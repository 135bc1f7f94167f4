use Rattle.std.proofs.Common.{◌≡◌, ◌∙◌, List, ap, subst, sym}
use Rattle.std.proofs.lemmas.List.{get_or_default}
use Rattle.pylock_core.specs.Inner.Parts.{IsSession, NumberFits, shown}
use Rattle.pylock_core.specs.Inner.Tables.Index.{HaveCapacity}
use Rattle.pylock_core.specs.Inner.Tables.Names.{policy_at}
use Rattle.pylock_core.specs.Session.Judgement.{verdict_of}
use Rattle.pylock_core.specs.declared.edit.Policy.{Policy}
use Rattle.pylock_core.specs.declared.edit.Policy.TheVariants.{Any}
use Rattle.pylock_core.proofs.Lemmas.Parts.{same_kept, session_index, session_kept, shown_index, shown_kept}
use Rattle.pylock_core.proofs.Lemmas.Tables.Conditions.{fits_are, session_conditions}
use Rattle.pylock_core.proofs.session.editing.entries.prepare_row.Goals as goal
use Rattle.pylock_core.proofs.session.editing.entries.prepare_row.Goals.{After-number_of_condition-condition, After-reserve_member}

-- the session where the condition has a number
numbered : (c : After-number_of_condition-condition) → IsSession (record c.args.parts.now { conditions = c.number_of_condition-condition.new.conditions })
numbered c =
    let p = c.args.parts.now in
    let kept = c.number_of_condition-condition.new.conditions in
    let number = c.number_of_condition-condition.result in
    let fits = subst (λ entries. NumberFits kept.count entries p.rows.items c.args.entry.now number) c.as_slice.ensures.value
    (subst (λ rows. NumberFits kept.count c.as_slice.result.now rows c.args.entry.now number) c.as_slice-2.ensures.value c.number_of_condition-condition.ensures) in
    session_conditions p kept (fits_are kept.count p.entries.items p.rows.items c.args.entry.now number fits) c.requires

-- the names have room, and what is shown stays
ample : (c : After-reserve_member) → IsSession (record c.args.parts.now { conditions = c.number_of_condition-condition.new.conditions; names = c.number_of.new.names })
    → IsSession (record c.args.parts.now { conditions = c.number_of_condition-condition.new.conditions; index = c.reserve_in_lists.new.lists; names = c.reserve_member.new.names })
    × (shown (record c.args.parts.now { conditions = c.number_of_condition-condition.new.conditions; index = c.reserve_in_lists.new.lists; names = c.reserve_member.new.names }) ≡ shown c.args.parts.now)
ample c s =
    let p = record c.args.parts.now { conditions = c.number_of_condition-condition.new.conditions; names = c.number_of.new.names } in
    let lists = c.reserve_in_lists.new.lists in
    let kept = same_kept p.names c.reserve_member.new.names c.reserve_member.ensures.same c.reserve_member.ensures.members in (
      session_kept (record p { index = lists }) c.reserve_member.new.names kept (session_index p lists c.in_ok-reserve_in_lists.ensures.kept s),
      shown_kept (record p { index = lists }) c.reserve_member.new.names kept ∙ shown_index p lists c.in_ok-reserve_in_lists.ensures.kept
          ∙ shown_kept c.args.parts.now c.number_of.new.names c.in_ok-name.ensures.kept,
    )

pub returns-in_err-name-clause-session : goal.returns-in_err-name-clause-session
returns-in_err-name-clause-session c = session_kept _ c.number_of.new.names c.in_err-name.ensures.kept (numbered (goal.at.returns-in_err-name-clause-session c).After-number_of_condition-condition)

pub returns-in_err-verdict-clause-session : goal.returns-in_err-verdict-clause-session
returns-in_err-verdict-clause-session c = session_kept _ c.number_of.new.names c.in_ok-name.ensures.kept (numbered (goal.at.returns-in_err-verdict-clause-session c).After-number_of_condition-condition)

pub returns-in_err-reserve_in_lists-clause-session : goal.returns-in_err-reserve_in_lists-clause-session
returns-in_err-reserve_in_lists-clause-session c =
    session_index _ c.reserve_in_lists.new.lists c.in_err-reserve_in_lists.ensures.kept
    (session_kept _ c.number_of.new.names c.in_ok-name.ensures.kept (numbered (goal.at.returns-in_err-reserve_in_lists-clause-session c).After-number_of_condition-condition))

pub returns-in_err-reserve_in_lists-clause-shown : goal.returns-in_err-reserve_in_lists-clause-shown
returns-in_err-reserve_in_lists-clause-shown c =
    shown_index (record c.args.parts.now { names = c.number_of.new.names }) c.reserve_in_lists.new.lists c.in_err-reserve_in_lists.ensures.kept ∙ shown_kept c.args.parts.now c.number_of.new.names c.in_ok-name.ensures.kept

pub reserve_member-requires-clause-is : goal.reserve_member-requires-clause-is
reserve_member-requires-clause-is c = c.in_ok-name.ensures.kept.is

pub reserve_member-requires-clause-within : goal.reserve_member-requires-clause-within
reserve_member-requires-clause-within c = c.in_ok-name.ensures.kept.is.numbering.below _ _ c.in_ok-name.ensures.found

pub returns-in_err-reserve_member-clause-session : goal.returns-in_err-reserve_member-clause-session
returns-in_err-reserve_member-clause-session c =
    (ample (goal.at.returns-in_err-reserve_member-clause-session c).After-reserve_member
    (session_kept _ c.number_of.new.names c.in_ok-name.ensures.kept (numbered (goal.at.returns-in_err-reserve_member-clause-session c).After-number_of_condition-condition))).0

pub returns-in_err-reserve_member-clause-shown : goal.returns-in_err-reserve_member-clause-shown
returns-in_err-reserve_member-clause-shown c =
    (ample (goal.at.returns-in_err-reserve_member-clause-shown c).After-reserve_member
    (session_kept _ c.number_of.new.names c.in_ok-name.ensures.kept (numbered (goal.at.returns-in_err-reserve_member-clause-shown c).After-number_of_condition-condition))).1

pub returns-clause-judged : goal.returns-clause-judged
returns-clause-judged c =
    let p = c.args.parts.now in
    let policies = c.number_of.new.names.policies.items in
    let within = c.in_ok-name.ensures.kept.is.numbering.below _ _ c.in_ok-name.ensures.found in
    subst (λ (ps : List Policy). c.in_ok-verdict.verdict ≡ verdict_of c.args.entry.now p.environment p.tags (policy_at ps c.in_ok-name.name)) (sym c.in_ok-reserve_member.ensures.same.items)
    (c.in_ok-verdict.ensures.verdict ∙ ap (verdict_of c.args.entry.now p.environment p.tags) (c.index.ensures ∙ get_or_default policies c.in_ok-name.name c.index.result.now Any within))

pub returns-clause-index : goal.returns-clause-index
returns-clause-index c = subst (λ is. HaveCapacity c.reserve_in_lists.new.lists is 0) c.entry_keys.ensures c.in_ok-reserve_in_lists.ensures.capacity

pub returns-clause-session : goal.returns-clause-session
returns-clause-session c =
    (ample (goal.at.returns-clause-session c).After-reserve_member
    (session_kept _ c.number_of.new.names c.in_ok-name.ensures.kept (numbered (goal.at.returns-clause-session c).After-number_of_condition-condition))).0

pub returns-clause-shown : goal.returns-clause-shown
returns-clause-shown c =
    (ample (goal.at.returns-clause-shown c).After-reserve_member
    (session_kept _ c.number_of.new.names c.in_ok-name.ensures.kept (numbered (goal.at.returns-clause-shown c).After-number_of_condition-condition))).1
