-- Lemmas on the start of a session, and on what is kept of it: what judging all of its state afresh gives.
use Rattle.std.proofs.Common.{[], ◌≡◌, ℕ, ◌+◌, ◌∙◌, List, ◌∷◌, map, Option, Some, None, ap, sym, refl, Bool, true, false, nat_lt, ◌++◌, length, Result, Ok, Err, cond, append_assoc, arith}
use Rattle.pymark_core.specs.Environment.{EnvironmentValue}
use Rattle.pywheel_core.specs.Tag.{TagValue}
use Rattle.pylock_readers.specs.Entry.{EntryValue}
use Rattle.pylock_core.specs.Inner.Tables.Names.{policies_in}
use Rattle.pylock_core.specs.Inner.Parts.{IsJudged, IsNamed, IsSession, OfRows, shown, state_of, verdict_in}
use Rattle.pylock_core.specs.Session.State.{in_rows, policy_of, State, with_next}
use Rattle.pylock_core.specs.Session.Judgement.{Verdicts, VerdictValue, verdict_of, verdicts_of, all_numbers}
use Rattle.pylock_core.specs.declared.answer.FaultCode.{FaultCode}
use Rattle.pylock_core.specs.declared.session.tables.names.Names.{Names}
use Rattle.pylock_core.specs.declared.session.parts.Parts.{Parts}
use Rattle.pylock_core.specs.declared.session.tables.rows.Row.{Row}
use Rattle.pylock_core.proofs.Lemmas.Parts.{NamedAndJudged, policy_here}
use Rattle.pylock_core.proofs.Lemmas.Tables.Rows.{of_rows_and}
use Rattle.std.specs.List.{enumerate_from}
use Rattle.std.proofs.lemmas.List.{map-append}
use Rattle.pylock_core.specs.declared.edit.EditError.{EditError}
use Rattle.pylock_core.specs.declared.edit.EditError.TheVariants.{TooMany}

-- ---- the start

abbrev unwrap_ok : State → Result State EditError → State
unwrap_ok other (Ok state) = state
unwrap_ok other (Err error) = other

-- the state with these entries after its own
abbrev pub with_all : State → List EntryValue → State
with_all state rest = record state { entries = state.entries ++ enumerate_from (state.last + 1) rest; last = state.last + length rest }

pub with_all_next : (state next : State) (entry : EntryValue) (rest : List EntryValue) → with_next entry state ≡ Ok next → with_all next rest ≡ with_all state (entry ∷ rest)
with_all_next state next entry rest is = by (nat_lt state.last 100000) is
  where
    more : State
    more = record state { entries = state.entries ++ (state.last + 1, entry) ∷ []; last = state.last + 1 }

    front : with_all more rest ≡ with_all state (entry ∷ rest)
    front =
        let entries : (state.entries ++ (state.last + 1, entry) ∷ []) ++ enumerate_from (state.last + 1 + 1) rest ≡ state.entries ++ enumerate_from (state.last + 1) (entry ∷ rest) = simp append_assoc in
        let long : state.last + 1 + length rest ≡ state.last + length (entry ∷ rest) = omega arith in
        (λ i. record state { entries = entries i; last = long i })

    by : (b : Bool) → cond b (Ok more) (Err TooMany) ≡ Ok next → with_all next rest ≡ with_all state (entry ∷ rest)
    by true same = let inner : next ≡ more = sym (ap (λ r. unwrap_ok more r) same) in ap (λ s. with_all s rest) inner ∙ front
    by false same = let e : ◌≡◌ {A = Result State EditError} (Err TooMany) (Ok next) = same in cc

-- the numbers with that of the entry that was added
pub all_numbers_next : (state next : State) (entry : EntryValue) → with_next entry state ≡ Ok next → all_numbers next ≡ all_numbers state ++ (state.last + 1) ∷ []
all_numbers_next state next entry is = by (nat_lt state.last 100000) is
  where
    more : State
    more = record state { entries = state.entries ++ (state.last + 1, entry) ∷ []; last = state.last + 1 }

    by : (b : Bool) → cond b (Ok more) (Err TooMany) ≡ Ok next → all_numbers next ≡ all_numbers state ++ (state.last + 1) ∷ []
    by true same =
        let inner : next ≡ more = sym (ap (λ r. unwrap_ok more r) same) in
        ap all_numbers inner ∙ ap (λ ns. 0 ∷ ns) (map-append (λ e. e.0) state.entries ((state.last + 1, entry) ∷ []))
    by false same = let e : ◌≡◌ {A = Result State EditError} (Err TooMany) (Ok next) = same in cc

-- ---- what is kept

both_same : (head other : Option FaultCode) (xs ys : List (ℕ × VerdictValue)) → head ≡ other → xs ≡ ys
    → ◌≡◌ {A = Verdicts} (record { head = head; entries = xs }) (record { head = other; entries = ys })
both_same head other xs ys same equal = rw (same, equal)

-- the verdict of an entry under the policy of its name
abbrev afresh : Names → EnvironmentValue → List TagValue → EntryValue → VerdictValue
afresh names environment tags entry = verdict_of entry environment tags (policy_of (policies_in names) entry.name)

rows_verdicts : (names : Names) (environment : EnvironmentValue) (tags : List TagValue) (n : ℕ) (es : List (Option EntryValue)) (rs : List (Option Row))
    → OfRows (NamedAndJudged names environment tags) es rs
    → in_rows n (map verdict_in rs) ≡ map (λ e. (e.0, afresh names environment tags e.1)) (in_rows n es)
rows_verdicts names environment tags n [] [] h = refl
rows_verdicts names environment tags n [] (r ∷ rs) h = absurd h
rows_verdicts names environment tags n (e ∷ es) [] h = absurd h
rows_verdicts names environment tags n (None ∷ es) (None ∷ rs) h = rows_verdicts names environment tags (n + 1) es rs h.1
rows_verdicts names environment tags n (None ∷ es) (Some r ∷ rs) h = absurd h.0
rows_verdicts names environment tags n (Some e ∷ es) (None ∷ rs) h = absurd h.0
rows_verdicts names environment tags n (Some e ∷ es) (Some r ∷ rs) h =
    let same : r.verdict ≡ afresh names environment tags e =
    h.0.1 ∙ ap (verdict_of e environment tags) (sym (policy_here names e.name r.name h.0.0.name)) in
    ap (λ v. (n, v) ∷ in_rows (n + 1) (map verdict_in rs)) same
    ∙ ap (λ rest. (n, afresh names environment tags e) ∷ rest) (rows_verdicts names environment tags (n + 1) es rs h.1)

pub verdicts_kept : (parts : Parts) → IsSession parts → (shown parts).verdicts ≡ verdicts_of (state_of parts)
verdicts_kept parts s =
    both_same _ _ _ _ s.head
    (rows_verdicts parts.names parts.environment parts.tags 1 parts.entries.items parts.rows.items
    (of_rows_and (IsNamed parts.names) (IsJudged parts.environment parts.tags parts.names.policies.items) parts.entries.items parts.rows.items s.named s.judged))
