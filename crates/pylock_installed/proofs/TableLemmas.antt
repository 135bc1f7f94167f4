-- What is found in tables of names and projects.
use Rattle.std.proofs.Common.{◌≡◌, ◌∙◌, ℕ, Bool, true, false, ◌||◌, cond, not, List, [], ◌∷◌, ◌++◌, Option, Some, None, refl, sym, ap, filter, is_some, map, option_map}
use Rattle.std.specs.Borrow.{Bor}
use Rattle.std.specs.List.{flat_map, list_any}
use Rattle.std.specs.Option.{option_map_or}
use Rattle.std.specs.Ordering.{is_eq, nat_cmp}
use Rattle.std.specs.Cmp.Lexicographic.{nat_list_eq_equiv, slice_cmp}
use Rattle.std.specs.Str.{bytes_eq}
use Rattle.std.proofs.Math.Bool.{or-false, or-true}
use Rattle.std.proofs.lemmas.List.Folds.{list_any-append}
use Rattle.std.proofs.lemmas.Map.Text.{is_eq-slice_cmp}
use Rattle.std.proofs.lemmas.Slice.Eq.{bytes_eq-Decides}
use Rattle.pytext.specs.Options.{either}
use Rattle.pylock_readers.specs.Entry.{EntryValue}
use Rattle.pylock_core.specs.Session.State.{State, entry_at}
use Rattle.pylock_core.specs.declared.answer.Pick.{Pick}
use Rattle.pylock_installed.specs.Project.{ProjectValue, is_named, project_named}
use Rattle.pylock_installed.specs.Steps.{is_planned, other_step, pick_steps, step_for, steps}

-- ---- the project of a name, of one more project

abbrev pub one_named : List ℕ → ProjectValue → Option ProjectValue
one_named name project = cond (is_named name project) (Some project) None

either_none : (o : Option ProjectValue) → o ≡ either o None
either_none None = refl
either_none (Some p) = refl

pub named_more : (name : List ℕ) (projects : List ProjectValue) (project : ProjectValue)
    → project_named name (projects ++ project ∷ []) ≡ either (project_named name projects) (one_named name project)
named_more name [] project = refl
named_more name (p ∷ ps) project = by (is_named name p) (named_more name ps project)
  where
    by : (b : Bool) → project_named name (ps ++ project ∷ []) ≡ either (project_named name ps) (one_named name project)
        → cond b (Some p) (project_named name (ps ++ project ∷ [])) ≡ either (cond b (Some p) (project_named name ps)) (one_named name project)
    by true e = refl
    by false e = e

-- ---- a project that is put under its name

module _ (key name : List ℕ) (project : ProjectValue) (before : List ℕ → Option ProjectValue) where
  -- another stands there
  pub stays : (other : ProjectValue) → before key ≡ Some other → project.name ≡ key → before name ≡ either (before name) (one_named name project)
  stays other is same = by (is_named name project) refl (before name) refl
    where
      by : (b : Bool) → is_named name project ≡ b → (found : Option ProjectValue) → before name ≡ found → found ≡ either found (cond b (Some project) None)
      by b named (Some p) e = refl
      by false named None e = refl
      by true named None e = absurd (some_none (sym is ∙ ap before (sym same ∙ sym ((bytes_eq-Decides name project.name).0 named)) ∙ e))
        where
          some_none : Some other ≡ None → ⊥
          some_none h = cc

  -- none does
  pub is_put : (after : Option ProjectValue) → before key ≡ None → project.name ≡ key → after ≡ cond (bytes_eq key name) (Some project) (before name)
      → after ≡ either (before name) (one_named name project)
  is_put after none same put = put ∙ by (bytes_eq key name) refl
    where
      turned : bytes_eq key name ≡ is_named name project
      turned = nat_list_eq_equiv.symm key name ∙ ap (bytes_eq name) (sym same)

      by : (b : Bool) → bytes_eq key name ≡ b → cond b (Some project) (before name) ≡ either (before name) (one_named name project)
      by true e =
          let here : before name ≡ None = ap before (sym ((bytes_eq-Decides key name).0 e)) ∙ none in
          ap (λ c. either None (cond c (Some project) None)) (sym e ∙ turned) ∙ ap (λ o. either o (one_named name project)) (sym here)
      by false e = either_none (before name) ∙ ap (λ c. either (before name) (cond c (Some project) None)) (sym e ∙ turned)

abbrev pub now_of : Bor ProjectValue → ProjectValue
now_of project = project.now

pub absent : (before : Option (Bor ProjectValue)) → is_some before ≡ false → option_map now_of before ≡ None
absent None none = refl
absent (Some project) none = absurd (true_false none)
  where
    true_false : true ≡ false → ⊥
    true_false h = cc

pub put_found : (is : Bool) (project : Bor ProjectValue) (before : Option (Bor ProjectValue))
    → option_map now_of (cond is (Some project) before) ≡ cond is (Some project.now) (option_map now_of before)
put_found true project before = refl
put_found false project before = refl

-- ---- a name that is added to a set

pub added : (name other : List ℕ) (before : Bool) → cond (is_eq (slice_cmp nat_cmp name other)) true before ≡ (bytes_eq name other || before)
added name other before = ap (λ b. cond b true before) (is_eq-slice_cmp name other) ∙ by (bytes_eq name other)
  where
    by : (b : Bool) → cond b true before ≡ (b || before)
    by true = refl
    by false = refl

pub either_has : (is before : Bool) → cond is true before ≡ (is || before)
either_has true before = refl
either_has false before = refl

pub names_more : (key name : List ℕ) (project : ProjectValue) (projects : List ProjectValue) (before : Bool) → key ≡ project.name
    → before ≡ list_any (is_named name) projects → (bytes_eq key name || before) ≡ list_any (is_named name) (projects ++ project ∷ [])
names_more key name project projects before same is =
    ap (λ b. b || before) (nat_list_eq_equiv.symm key name ∙ ap (bytes_eq name) same)
    ∙ ap (λ b. is_named name project || b) is
    ∙ by (is_named name project) (list_any (is_named name) projects)
    ∙ sym (list_any-append (is_named name) projects (project ∷ []))
  where
    by : (is has : Bool) → (is || has) ≡ (has || (is || false))
    by true has = sym (or-true has)
    by false has = sym (or-false has)

-- ---- the steps, where all is found

pub same_picks : (state : State) (installed : List ProjectValue) (found : List ℕ → Option ProjectValue) (picks : List Pick)
    → ((name : List ℕ) → found name ≡ project_named name installed)
    → flat_map (λ pick. option_map_or (λ (entry : EntryValue). step_for pick entry (found entry.name) ∷ []) (entry_at pick.id state.entries) []) picks
    ≡ flat_map (pick_steps state installed) picks
same_picks state installed found [] same = refl
same_picks state installed found (pick ∷ picks) same =
    ap (λ rest. option_map_or (λ (entry : EntryValue). step_for pick entry (found entry.name) ∷ []) (entry_at pick.id state.entries) [] ++ rest)
    (same_picks state installed found picks same)
    ∙ ap (λ first. first ++ flat_map (pick_steps state installed) picks) (by (entry_at pick.id state.entries))
  where
    by : (e : Option EntryValue) → option_map_or (λ (entry : EntryValue). step_for pick entry (found entry.name) ∷ []) e []
        ≡ option_map_or (λ (entry : EntryValue). step_for pick entry (project_named entry.name installed) ∷ []) e []
    by None = refl
    by (Some entry) = ap (λ o. step_for pick entry o ∷ []) (same entry.name)

pub same_others : (state : State) (picks : List Pick) (has : List ℕ → Bool) (projects : List ProjectValue)
    → ((project : ProjectValue) → has project.name ≡ is_planned state picks project)
    → filter (λ p. not (has p.name)) projects ≡ filter (λ p. not (is_planned state picks p)) projects
same_others state picks has [] same = refl
same_others state picks has (p ∷ ps) same =
    ap (λ b. cond (not b) (p ∷ filter (λ p. not (has p.name)) ps) (filter (λ p. not (has p.name)) ps)) (same p)
    ∙ ap (λ rest. cond (not (is_planned state picks p)) (p ∷ rest) rest) (same_others state picks has ps same)

-- what is found gives the steps
pub same_steps : (state : State) (picks : List Pick) (installed : List ProjectValue) (is_exact : Bool) (found : List ℕ → Option ProjectValue) (has : List ℕ → Bool)
    → ((name : List ℕ) → found name ≡ project_named name installed) → ((project : ProjectValue) → has project.name ≡ is_planned state picks project)
    → flat_map (λ pick. option_map_or (λ (entry : EntryValue). step_for pick entry (found entry.name) ∷ []) (entry_at pick.id state.entries) []) picks
    ++ map (other_step is_exact) (filter (λ p. not (has p.name)) installed)
    ≡ steps state picks installed is_exact
unfolding steps
same_steps state picks installed is_exact found has finds names =
    ap (λ front. front ++ map (other_step is_exact) (filter (λ p. not (has p.name)) installed)) (same_picks state installed found picks finds)
    ∙ ap (λ others. flat_map (pick_steps state installed) picks ++ map (other_step is_exact) others) (same_others state picks has installed names)
