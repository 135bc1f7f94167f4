-- Lemmas on what becomes of each entry.
use Rattle.std.proofs.Common.{[], ◌≡◌, ◌∙◌, ℕ, suc, zero, Bool, true, false, ◌+◌, ◌&&◌, nat_eq, List, ◌∷◌, ◌++◌, Option, None, Some, append_assoc, cond, ap, map, option_map, get_or, refl, sym, arith}
use Rattle.std.specs.Str.{bytes_eq}
use Rattle.pytext.specs.Options.{either}
use Rattle.pymark_core.specs.Environment.{EnvironmentValue}
use Rattle.pywheel_core.specs.Tag.{TagValue}
use Rattle.pylock_readers.specs.Entry.{EntryValue}
use Rattle.pylock_core.specs.Inner.Answering.Fates.{fate_among, first_active_row, numbered_fate, row_fate, row_fates}
use Rattle.pylock_core.specs.Inner.Tables.Names.{IsNames, number_named, policies_in, policy_at}
use Rattle.pylock_core.specs.Inner.Parts.{IsJudged, IsNamed, IsSession, OfBoth, OfRows, state_of}
use Rattle.pylock_core.specs.Inner.Answering.Steps.{is_active}
use Rattle.pylock_core.specs.Inner.Tables.Rows.{row_at}
use Rattle.pylock_core.specs.Session.Fates.{fate, fate_at, fate_by, fates, first_active, own_fate, stands_active}
use Rattle.pylock_core.specs.Session.State.{in_rows, policy_of}
use Rattle.pylock_core.specs.Session.Steps.{source_of, standing}
use Rattle.pylock_readers.specs.Entry.Kinds.{has_conflict}
use Rattle.pylock_core.specs.declared.edit.Policy.{Policy}
use Rattle.pylock_core.specs.declared.fate.Fate.{Fate}
use Rattle.pylock_core.specs.declared.session.tables.names.Names.{Names}
use Rattle.pylock_core.specs.declared.session.parts.Parts.{Parts}
use Rattle.pylock_core.specs.declared.session.tables.rows.Row.{Row}
use Rattle.pylock_core.proofs.Lemmas.Parts.{NamedAndJudged, policy_here}
use Rattle.pylock_core.proofs.Lemmas.Tables.Rows.{of_rows_and, of_rows_at}
use Rattle.pylock_core.proofs.Lemmas.Editing.Entries.{entry_at_row, entry_at_zero}
use Rattle.pylock_core.proofs.Lemmas.Tables.Names.{same_number}
use Rattle.pylock_core.proofs.Lemmas.Answering.Steps.{source_of_row}

-- what is noted of one row, and then of the rest, is what is noted of both
either_first : (b : Bool) (n : ℕ) (rest : Option ℕ) → either (cond b (Some n) None) rest ≡ cond b (Some n) rest
either_first true n rest = refl
either_first false n rest = refl

pub noted : (front : Option ℕ) (n : ℕ) (row : Row) (rest : List (ℕ × Row)) (name : ℕ)
    → either (either front (first_active_row ((n, row) ∷ []) name)) (first_active_row rest name) ≡ either front (first_active_row ((n, row) ∷ rest) name)
noted (Some first) n row rest name = refl
noted None n row rest name = either_first (is_active row && nat_eq name row.name) n (first_active_row rest name)

-- one more is made
pub one_more_fate : (every rest more : List (ℕ × Row)) (policies : List Policy) (made new : List (ℕ × Fate)) (n : ℕ) (row : Row) (f : Fate)
    → rest ≡ (n, row) ∷ more → f ≡ fate_among every policies (n, row) → new ≡ made ++ (n, f) ∷ []
    → made ++ map (numbered_fate every policies) rest ≡ row_fates every policies → new ++ map (numbered_fate every policies) more ≡ row_fates every policies
one_more_fate every rest more policies made new n row f here is pushed all =
    ap (λ front. front ++ map (numbered_fate every policies) more) pushed
    ∙ append_assoc made ((n, f) ∷ []) (map (numbered_fate every policies) more)
    ∙ ap (λ (x : Fate). made ++ (n, x) ∷ map (numbered_fate every policies) more) is
    ∙ ap (λ rows. made ++ map (numbered_fate every policies) rows) (sym here) ∙ all

module _ (names : Names) (environment : EnvironmentValue) (tags : List TagValue) (is : IsNames names) where
  stands : (e : EntryValue) (r : Row) → NamedAndJudged names environment tags e r → standing e environment ≡ r.verdict.standing
  stands e r both = sym (ap (λ v. v.standing) both.1)

  -- the first active entry of a name is the first active row of its number
  first_same : (es : List (Option EntryValue)) (rs : List (Option Row)) (k : ℕ) → OfRows (NamedAndJudged names environment tags) es rs
      → (q : List ℕ) (n : ℕ) → number_named names q ≡ Some n → first_active (in_rows k es) environment q ≡ first_active_row (in_rows k rs) n
  first_same [] [] k h q n has = refl
  first_same [] (r ∷ rs) k h q n has = absurd h
  first_same (e ∷ es) [] k h q n has = absurd h
  first_same (None ∷ es) (None ∷ rs) k h q n has = first_same es rs (k + 1) h.1 q n has
  first_same (None ∷ es) (Some r ∷ rs) k h q n has = absurd h.0
  first_same (Some e ∷ es) (None ∷ rs) k h q n has = absurd h.0
  first_same (Some e ∷ es) (Some r ∷ rs) k h q n has =
      let here : (stands_active (standing e environment) && bytes_eq q e.name) ≡ (stands_active r.verdict.standing && nat_eq n r.name) =
      ap (λ s. stands_active s && bytes_eq q e.name) (stands e r h.0)
      ∙ ap (λ b. stands_active r.verdict.standing && b) (same_number names is q e.name n r.name has h.0.0.name) in
      ap (λ b. cond b (Some k) (first_active (in_rows (k + 1) es) environment q)) here
      ∙ ap (cond (stands_active r.verdict.standing && nat_eq n r.name) (Some k)) (first_same es rs (k + 1) h.1 q n has)

  -- what becomes of an entry is what becomes of its row
  fate_same : (n : ℕ) (e : EntryValue) (r : Row) → NamedAndJudged names environment tags e r → (first other : Option ℕ) → first ≡ other
      → fate_by (standing e environment) n first (own_fate (has_conflict e) (policy_of (policies_in names) e.name) (source_of e tags (policy_of (policies_in names) e.name)))
      ≡ row_fate (policy_at names.policies.items r.name) other (n, r)
  fate_same n e r both first other same =
      let conflict : has_conflict e ≡ r.sources.conflict = sym (ap (λ s. s.conflict) both.0.sources) in
      let source = source_of_row names environment tags e r both in
      ap (λ s. fate_by s n first (own_fate (has_conflict e) (policy_of (policies_in names) e.name) (source_of e tags (policy_of (policies_in names) e.name)))) (stands e r both)
      ∙ ap (λ f. fate_by r.verdict.standing n f (own_fate (has_conflict e) (policy_of (policies_in names) e.name) (source_of e tags (policy_of (policies_in names) e.name)))) same
      ∙ ap (λ c. fate_by r.verdict.standing n other (own_fate c (policy_of (policies_in names) e.name) (source_of e tags (policy_of (policies_in names) e.name)))) conflict
      ∙ ap (λ p. fate_by r.verdict.standing n other (own_fate r.sources.conflict p (source_of e tags (policy_of (policies_in names) e.name)))) (policy_here names e.name r.name both.0.name)
      ∙ ap (λ s. fate_by r.verdict.standing n other (own_fate r.sources.conflict (policy_at names.policies.items r.name) s)) source

  abbrev of_entry : List (ℕ × EntryValue) → ℕ × EntryValue → ℕ × Fate
  of_entry all e = (
    e.0,
    fate_by (standing e.1 environment) e.0 (first_active all environment e.1.name)
        (own_fate (has_conflict e.1) (policy_of (policies_in names) e.1.name) (source_of e.1 tags (policy_of (policies_in names) e.1.name))),
  )

  fates_same : (all : List (ℕ × EntryValue)) (every : List (ℕ × Row)) → ((q : List ℕ) (n : ℕ) → number_named names q ≡ Some n → first_active all environment q ≡ first_active_row every n)
      → (es : List (Option EntryValue)) (rs : List (Option Row)) (k : ℕ) → OfRows (NamedAndJudged names environment tags) es rs
      → map (of_entry all) (in_rows k es) ≡ map (numbered_fate every names.policies.items) (in_rows k rs)
  fates_same all every first [] [] k h = refl
  fates_same all every first [] (r ∷ rs) k h = absurd h
  fates_same all every first (e ∷ es) [] k h = absurd h
  fates_same all every first (None ∷ es) (None ∷ rs) k h = fates_same all every first es rs (k + 1) h.1
  fates_same all every first (None ∷ es) (Some r ∷ rs) k h = absurd h.0
  fates_same all every first (Some e ∷ es) (None ∷ rs) k h = absurd h.0
  fates_same all every first (Some e ∷ es) (Some r ∷ rs) k h =
      let one = fate_same k e r h.0 (first_active all environment e.name) (first_active_row every r.name) (first e.name r.name h.0.0.name) in
      λ i. (k, one i) ∷ fates_same all every first es rs (k + 1) h.1 i

  -- and what becomes of one that may be there
  fate_of_both : (all : List (ℕ × EntryValue)) (every : List (ℕ × Row)) → ((q : List ℕ) (n : ℕ) → number_named names q ≡ Some n → first_active all environment q ≡ first_active_row every n)
      → (n : ℕ) (e : Option EntryValue) (r : Option Row) → OfBoth (NamedAndJudged names environment tags) e r
      → option_map (λ r. fate_among every names.policies.items (n, r)) r ≡ option_map (λ e. (of_entry all (n, e)).1) e
  fate_of_both all every first n None None h = refl
  fate_of_both all every first n None (Some r) h = absurd h
  fate_of_both all every first n (Some e) None h = absurd h
  fate_of_both all every first n (Some e) (Some r) h =
      ap Some (sym (fate_same n e r h (first_active all environment e.name) (first_active_row every r.name) (first e.name r.name h.0.name)))

-- of a session
module _ (parts : Parts) (s : IsSession parts) where
  both : OfRows (NamedAndJudged parts.names parts.environment parts.tags) parts.entries.items parts.rows.items
  both = of_rows_and (IsNamed parts.names) (IsJudged parts.environment parts.tags parts.names.policies.items) parts.entries.items parts.rows.items s.named s.judged

  first : (q : List ℕ) (n : ℕ) → number_named parts.names q ≡ Some n → first_active (in_rows 1 parts.entries.items) parts.environment q ≡ first_active_row (in_rows 1 parts.rows.items) n
  first = first_same parts.names parts.environment parts.tags s.names parts.entries.items parts.rows.items 1 both

  pub session_fates : row_fates (in_rows 1 parts.rows.items) parts.names.policies.items ≡ fates (state_of parts)
  session_fates = sym (fates_same parts.names parts.environment parts.tags s.names (in_rows 1 parts.entries.items) (in_rows 1 parts.rows.items) first parts.entries.items parts.rows.items 1 both)

  pub session_fate : (n : ℕ) → option_map (λ r. fate_among (in_rows 1 parts.rows.items) parts.names.policies.items (n, r)) (row_at parts.rows.items n) ≡ fate_at n (state_of parts)
  session_fate zero = ap (option_map (λ e. fate (state_of parts) (zero, e))) (sym (entry_at_zero parts.entries.items))
  session_fate (suc k) =
      fate_of_both parts.names parts.environment parts.tags s.names (in_rows 1 parts.entries.items) (in_rows 1 parts.rows.items) first (suc k) (get_or parts.entries.items k None) (get_or parts.rows.items k None)
      (of_rows_at (NamedAndJudged parts.names parts.environment parts.tags) parts.entries.items parts.rows.items k _ _ both refl refl)
      ∙ ap (option_map (λ e. fate (state_of parts) (suc k, e))) (sym (entry_at_row (suc k) 1 k parts.entries.items (omega arith)))
