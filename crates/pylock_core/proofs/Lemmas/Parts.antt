-- Lemmas on the parts of a session, and on what of them is replaced.
use Rattle.std.proofs.Common.{[], ◌≡◌, ℕ, suc, zero, ◌<◌, ◌∙◌, List, ◌∷◌, length, Option, Some, None, subst, ap, sym, map}
use Rattle.pymark_core.specs.Environment.{EnvironmentValue}
use Rattle.pywheel_core.specs.Tag.{TagValue}
use Rattle.pylock_readers.specs.Entry.{EntryValue}
use Rattle.pylock_core.specs.Inner.Tables.Names.{IsNames, Kept, number_named, policies_in, policy_at, Same, members_named}
use Rattle.pylock_core.specs.Inner.Parts.{IsJudged, IsNamed, IsSession, OfBoth, OfRows, shown, state_of, verdict_in}
use Rattle.pylock_core.specs.Inner.Answering.Steps.{NamesBelow}
use Rattle.pylock_core.specs.Session.Judgement.{verdict_of}
use Rattle.pylock_core.specs.Session.State.{policy_of, in_rows}
use Rattle.pylock_core.specs.declared.session.tables.names.Names.{Names}
use Rattle.pylock_core.specs.declared.session.parts.Parts.{Parts}
use Rattle.pylock_core.specs.declared.session.tables.rows.Row.{Row}
use Rattle.pylock_core.proofs.Lemmas.Tables.Names.{policy_of_in, policy_under}
use Rattle.pylock_core.proofs.Lemmas.Tables.Rows.{same_length, of_rows_weaker, of_rows_and, of_both_weaker}
use Rattle.std.specs.Global.{Global}
use Rattle.std.specs.declared.vec.Vec.{Vec}
use Rattle.pylock_core.specs.Inner.Tables.Index.{numbers_in}

-- ---- names

below_one : (names : Names) → IsNames names → (e : Option EntryValue) (r : Option Row) → OfBoth (IsNamed names) e r → (row : Row) → r ≡ Some row → row.name < length names.policies.items
below_one names is None None h row stands = let e : ◌≡◌ {A = Option Row} None (Some row) = stands in cc
below_one names is None (Some r) h row stands = absurd h
below_one names is (Some e) None h row stands = absurd h
below_one names is (Some e) (Some r) h row stands =
    let same : r.name ≡ row.name = ap (λ o. option_name o) stands in
    subst (λ (n : ℕ). n < length names.policies.items) same (is.numbering.below e.name r.name h.name)
  where
    option_name : Option Row → ℕ
    option_name None = 0
    option_name (Some x) = x.name

pub names_below : (names : Names) → IsNames names → (es : List (Option EntryValue)) (rs : List (Option Row)) → OfRows (IsNamed names) es rs → NamesBelow (length names.policies.items) rs
names_below names is [] [] h k row stands = let e : ◌≡◌ {A = Option Row} None (Some row) = stands in cc
names_below names is [] (r ∷ rs) h k row stands = absurd h
names_below names is (e ∷ es) [] h k row stands = absurd h
names_below names is (e ∷ es) (r ∷ rs) h zero row stands = below_one names is e r h.0 row stands
names_below names is (e ∷ es) (r ∷ rs) h (suc k) row stands = names_below names is es rs h.1 k row stands

-- the policy of an entry's name stands under the number that its row has
pub policy_here : (names : Names) (q : List ℕ) (n : ℕ) → number_named names q ≡ Some n → policy_of (policies_in names) q ≡ policy_at names.policies.items n
policy_here names q n is = policy_of_in names q ∙ ap (policy_under names.policies.items) is

pub named_kept : (old new : Names) → Kept old new → (es : List (Option EntryValue)) (rs : List (Option Row)) → OfRows (IsNamed old) es rs → OfRows (IsNamed new) es rs
named_kept old new kept es rs h = of_rows_weaker (IsNamed old) (IsNamed new) (λ e r is. record { name = kept.numbers e.name r.name is.name; sources = is.sources }) es rs h

pub judged_kept : (old new : Names) → Kept old new → (environment : EnvironmentValue) (tags : List TagValue) (es : List (Option EntryValue)) (rs : List (Option Row))
    → OfRows (IsNamed old) es rs → OfRows (IsJudged environment tags old.policies.items) es rs → OfRows (IsJudged environment tags new.policies.items) es rs
judged_kept old new kept environment tags es rs named judged =
    of_rows_weaker (λ e r. IsNamed old e r × IsJudged environment tags old.policies.items e r) (IsJudged environment tags new.policies.items)
    (λ e r is. is.1 ∙ ap (verdict_of e environment tags)
    (sym (policy_here old e.name r.name is.0.name) ∙ ap (λ p. policy_of p e.name) (sym kept.policies)
    ∙ policy_here new e.name r.name (kept.numbers e.name r.name is.0.name)))
    es rs (of_rows_and (IsNamed old) (IsJudged environment tags old.policies.items) es rs named judged)

pub session_kept : (parts : Parts) (names : Names) → Kept parts.names names → IsSession parts → IsSession (record parts { names = names })
session_kept parts names kept s = record {
  few = s.few;
  named = named_kept parts.names names kept parts.entries.items parts.rows.items s.named;
  judged = judged_kept parts.names names kept parts.environment parts.tags parts.entries.items parts.rows.items s.named s.judged;
  head = s.head;
  names = kept.is;
  members = λ q. kept.members q ∙ s.members q;
  index = s.index;
  living = s.living;
  sets = s.sets;
  conditions = s.conditions;
}

pub shown_kept : (parts : Parts) (names : Names) → Kept parts.names names → shown (record parts { names = names }) ≡ shown parts
shown_kept parts names kept = ap (λ p. record (shown parts) { state = record (state_of parts) { policies = p } }) kept.policies

-- ---- the answer from the rows is that from the entries

abbrev pub NamedAndJudged : Names → EnvironmentValue → List TagValue → EntryValue → Row → Type 0
NamedAndJudged names environment tags e r = IsNamed names e r × IsJudged environment tags names.policies.items e r

pub session_even : (parts : Parts) → IsSession parts → length parts.rows.items ≡ length parts.entries.items
session_even parts s = same_length (IsNamed parts.names) parts.entries.items parts.rows.items s.named

pub session_below : (parts : Parts) → IsSession parts → NamesBelow (length parts.names.policies.items) parts.rows.items
session_below parts s = names_below parts.names s.names parts.entries.items parts.rows.items s.named

-- ---- the parts

pub session_index : (p : Parts) (lists : _) → numbers_in lists ≡ numbers_in p.index → IsSession p → IsSession (record p { index = lists })
session_index p lists kept s = record {
  few = s.few;
  named = s.named;
  judged = s.judged;
  head = s.head;
  names = s.names;
  members = s.members;
  index = kept ∙ s.index;
  living = s.living;
  sets = s.sets;
  conditions = s.conditions;
}

pub shown_index : (p : Parts) (lists : _) → numbers_in lists ≡ numbers_in p.index → shown (record p { index = lists }) ≡ shown p
shown_index p lists kept = ap (λ all. record (shown p) { index = all }) kept

-- names that are the same and keep the entries too
pub same_kept : (old new : Names) → Same old new → ((q : List ℕ) → members_named new q ≡ members_named old q) → Kept old new
same_kept old new same members = record {
  numbers = λ q n has. same.numbers q ∙ has;
  policies = same.policies;
  members = members;
  is = same.is;
}

pub named_as : (old new : Names) → ((q : List ℕ) → number_named new q ≡ number_named old q) → (e : EntryValue) (r : Row) → IsNamed old e r → IsNamed new e r
named_as old new numbers e r h = record { name = numbers e.name ∙ h.name; sources = h.sources }

pub rows_named_as : (old new : Names) → ((q : List ℕ) → number_named new q ≡ number_named old q) → (es : List (Option EntryValue)) (rs : List (Option Row))
    → OfRows (IsNamed old) es rs → OfRows (IsNamed new) es rs
rows_named_as old new numbers es rs h = of_rows_weaker (IsNamed old) (IsNamed new) (named_as old new numbers) es rs h

pub both_named_as : (old new : Names) → ((q : List ℕ) → number_named new q ≡ number_named old q) → (e : Option EntryValue) (r : Option Row)
    → OfBoth (IsNamed old) e r → OfBoth (IsNamed new) e r
both_named_as old new numbers e r h = of_both_weaker (IsNamed old) (IsNamed new) (named_as old new numbers) e r h

-- entries and rows that have other room
pub shown_capacity : (p : Parts) (entries : Vec (Option EntryValue) Global) (rows : Vec (Option Row) Global) → entries.items ≡ p.entries.items → rows.items ≡ p.rows.items → shown (record p { entries = entries; rows = rows }) ≡ shown p
shown_capacity p entries rows es rs = λ i. record (shown p) {
  state = record (state_of p) { entries = in_rows 1 (es i); last = length (es i) };
  verdicts = record { head = p.head_verdict; entries = in_rows 1 (map verdict_in (rs i)) };
}
