use Rattle.std.proofs.Common.{◌≡◌, ◌∙◌, ◌++◌, Ok, length, ap, sym, ℕ, Bool, List, map, set, Option, Some, unwrap_or, subst}
use Rattle.std.specs.Str.{bytes_eq}
use Rattle.pylock_core.specs.Inner.Tables.Rows.{with_rows}
use Rattle.pylock_core.specs.Inner.Tables.Index.{list_at}
use Rattle.pylock_core.specs.Inner.Parts.{IsSession, state_of, AreNumbered, IsJudged, IsNamed, OfRows}
use Rattle.pylock_core.specs.Session.State.{in_rows, with_policy}
use Rattle.pylock_core.specs.Session.Judgement.{numbers_where, verdict_of}
use Rattle.std.proofs.lemmas.Slice.Eq.{bytes_eq-Decides}
use Rattle.std.proofs.lemmas.List.{get_or-set_same, get_or-set_other}
use Rattle.pylock_readers.specs.Entry.{EntryValue}
use Rattle.pylock_core.specs.Inner.Judging.Judgement.{AllStand, fresh_row}
use Rattle.pylock_core.specs.Inner.Tables.Names.{members_under, number_named, policy_at}
use Rattle.pylock_core.specs.declared.edit.Policy.{Policy}
use Rattle.pylock_core.specs.declared.edit.Policy.TheVariants.{Any}
use Rattle.pylock_core.specs.declared.session.tables.names.Names.{Names}
use Rattle.pylock_core.specs.declared.session.parts.Parts.{Parts}
use Rattle.pylock_core.specs.declared.session.tables.rows.Row.{Row}
use Rattle.pylock_core.proofs.Lemmas.Judging.Judgement.{all_within, all_stand, AreAnew, with_rows_anew, anew_named, anew_numbered, Suffices, anew_judged, no_and_yes}
use Rattle.pylock_core.proofs.Lemmas.Parts.{session_even, session_kept}
use Rattle.pylock_core.proofs.Lemmas.Tables.Index.{passing}
use Rattle.pylock_core.proofs.Lemmas.Tables.Rows.{of_rows_weaker}
use Rattle.pylock_core.proofs.session.editing.policies.give_policy.Goals as goal
use Rattle.pylock_core.proofs.session.editing.policies.give_policy.Goals.{In_ok-number}

-- the entries of a name
members_here : (parts : Parts) (name : List ℕ) (number : ℕ) → IsSession parts → number_named parts.names name ≡ Some number
    → list_at parts.names.members.items number ≡ passing (λ entry. bytes_eq name entry.name) 1 parts.entries.items
members_here parts name number s found = ap (members_under parts.names.members.items) (sym found) ∙ s.members name

members_stand : (parts : Parts) (name : List ℕ) (number : ℕ) → IsSession parts → number_named parts.names name ≡ Some number
    → AllStand parts.entries.items (list_at parts.names.members.items number)
members_stand parts name number s found =
    all_stand (λ entry. bytes_eq name entry.name) parts.entries.items (list_at parts.names.members.items number) (members_here parts name number s found)

policy_suffices : (parts : Parts) (name : List ℕ) (number : ℕ) (policy : Policy) → IsSession parts → number_named parts.names name ≡ Some number
    → Suffices parts (λ entry. bytes_eq name entry.name) parts.environment parts.tags (set parts.names.policies.items number policy) (λ n. policy)
policy_suffices parts name number policy s found = record {
  hit = λ e r named is.
      let same : name ≡ e.name = (bytes_eq-Decides name e.name).0 is in
      let numbers : number ≡ r.name = ap (λ o. unwrap_or o 0) (sym found ∙ ap (number_named parts.names) same ∙ named.name) in
      subst (λ (n : ℕ). policy ≡ policy_at (set policies number policy) n) numbers (sym (get_or-set_same policies number policy Any (s.names.numbering.below name number found)));
  miss = λ e r named is.
      let ne : (r.name ≡ number → ⊥) = (λ same. let texts = s.names.numbering.apart name e.name number found (named.name ∙ ap Some same) in
      no_and_yes (bytes_eq name e.name) is ((bytes_eq-Decides name e.name).1 texts)) in
      ap (verdict_of e parts.environment parts.tags) (sym (get_or-set_other policies number r.name policy Any ne));
}
  where
    policies : List Policy
    policies = parts.names.policies.items

-- the rows under a policy that is written, where those of the name are judged again
policy_again : (parts : Parts) (two : Names) (name : List ℕ) (number : ℕ) (policy : Policy) (rows : List (Option Row)) → IsSession parts → number_named parts.names name ≡ Some number
    → ((q : List ℕ) → number_named two q ≡ number_named parts.names q) → two.policies.items ≡ set parts.names.policies.items number policy
    → rows ≡ with_rows (map (fresh_row parts.environment parts.tags (λ n. policy) parts.entries.items parts.rows.items) (list_at parts.names.members.items number)) parts.rows.items
    → OfRows (IsNamed two) parts.entries.items rows × OfRows (IsJudged parts.environment parts.tags two.policies.items) parts.entries.items rows
    × AreNumbered parts.conditions.count parts.entries.items rows
policy_again parts two name number policy rows s found numbers policies made =
    let test : EntryValue → Bool = λ entry. bytes_eq name entry.name in
    let is : AreAnew parts test parts.environment parts.tags (λ n. policy) rows =
    with_rows_anew parts test parts.environment parts.tags (λ n. policy) rows (made ∙ ap (λ ns. with_rows (map (fresh_row parts.environment parts.tags (λ n. policy) parts.entries.items parts.rows.items) ns) parts.rows.items) (members_here parts name number s found)) in
    let named = anew_named parts test parts.environment parts.tags (λ n. policy) rows s is in
    let judged = anew_judged parts test parts.environment parts.tags (set parts.names.policies.items number policy) (λ n. policy) rows s (policy_suffices parts name number policy s found) is in (
      of_rows_weaker (IsNamed parts.names) (IsNamed two) (λ e r h. record { name = numbers e.name ∙ h.name; sources = h.sources }) parts.entries.items rows named,
      subst (λ (ps : List Policy). OfRows (IsJudged parts.environment parts.tags ps) parts.entries.items rows) (sym policies) judged,
      anew_numbered parts test parts.environment parts.tags (λ n. policy) rows s is,
    )

-- the session where the name has a number
numbered : (c : In_ok-number) → IsSession (record c.args.parts.now { names = c.number_of.new.names })
numbered c = session_kept c.args.parts.now c.number_of.new.names c.in_ok-number.ensures.kept c.requires

pub returns-in_err-number-clause-session : goal.returns-in_err-number-clause-session
returns-in_err-number-clause-session c = session_kept c.args.parts.now c.number_of.new.names c.in_err-number.ensures.kept c.requires

pub judge_name-requires-clause-session : goal.judge_name-requires-clause-session
judge_name-requires-clause-session c = numbered (goal.at.judge_name-requires-clause-session c).In_ok-number

pub judge_name-requires-clause-stand : goal.judge_name-requires-clause-stand
judge_name-requires-clause-stand c =
    members_stand (record c.args.parts.now { names = c.number_of.new.names }) c.as_str.result.now c.in_ok-number.number (numbered (goal.at.judge_name-requires-clause-stand c).In_ok-number) c.in_ok-number.ensures.found

pub returns-in_err-fresh-clause-session : goal.returns-in_err-fresh-clause-session
returns-in_err-fresh-clause-session c = numbered (goal.at.returns-in_err-fresh-clause-session c).In_ok-number

pub put_rows-requires : goal.put_rows-requires
put_rows-requires c =
    let p = c.args.parts.now in
    let members = list_at c.number_of.new.names.members.items c.in_ok-number.number in
    rw c.in_ok-fresh.ensures.rows
    (all_within p.environment p.tags (λ n. c.args.policy) p.entries.items p.rows.items (length p.rows.items) members (session_even p c.requires)
    (members_stand (record p { names = c.number_of.new.names }) c.as_str.result.now c.in_ok-number.number (numbered (goal.at.put_rows-requires c).In_ok-number) c.in_ok-number.ensures.found))

pub returns-clause-session : goal.returns-clause-session
returns-clause-session c =
    let p = c.args.parts.now in
    let s = numbered (goal.at.returns-clause-session c).In_ok-number in
    let both = policy_again (record p { names = c.number_of.new.names }) c.set_policy.new.names c.as_str.result.now c.in_ok-number.number c.args.policy c.put_rows.new.rows.items s
    c.in_ok-number.ensures.found c.set_policy.ensures.numbers c.set_policy.ensures.items
    (c.put_rows.ensures ∙ ap (λ fresh. with_rows fresh p.rows.items) c.in_ok-fresh.ensures.rows) in
    record {
      few = s.few;
      named = both.0;
      judged = both.1;
      head = s.head;
      names = c.set_policy.ensures.is;
      members = λ q. c.set_policy.ensures.members q ∙ s.members q;
      index = s.index;
      living = s.living;
      sets = s.sets;
      conditions = both.2;
    }

pub returns-clause-left : goal.returns-clause-left
returns-clause-left c =
    let p = c.args.parts.now in
    let policies = c.set_policy.ensures.policies c.as_str.result.now c.in_ok-number.ensures.found
    ∙ (λ i. with_policy (c.in_ok-number.ensures.kept.policies i) (c.as_str.ensures.text i) c.args.policy) in
    record {
      applied = λ i. Ok (record (state_of p) { policies = sym policies i });
      judged = c.in_ok-fresh.ensures.judged ∙ ap (λ ns. c.args.judged.now ++ ns)
          (members_here (record p { names = c.number_of.new.names }) c.as_str.result.now c.in_ok-number.number (numbered (goal.at.returns-clause-left c).In_ok-number) c.in_ok-number.ensures.found
          ∙ ap (λ name. numbers_where (λ entry. bytes_eq name entry.name) (in_rows 1 p.entries.items)) c.as_str.ensures.text);
    }
