-- What the findings mean for the answers of the installation steps.
use Rattle.std.proofs.Common.{◌≡◌, ℕ, zero, suc, ◌+◌, ◌<◌, arith, Bool, true, false, cond, ◌||◌, List, [], ◌∷◌, Option, Some, None, Result, Ok, Err, ap, ◌∙◌, sym, subst, inl, inr, refl}
use Rattle.std.specs.Prelude.{◌⊎◌, slice_get}
use Rattle.std.specs.List.{All, Contains, enumerate_from}
use Rattle.std.specs.Str.{bytes_eq}
use Rattle.std.proofs.lemmas.List.Elements.{All-cons, All-contains, All-nil, All-weaker}
use Rattle.std.proofs.lemmas.Slice.Eq.{bytes_eq-Decides}
use Rattle.pymark_core.specs.Environment.{EnvironmentValue}
use Rattle.pywheel_core.specs.Tag.{TagValue}
use Rattle.pylock_readers.specs.Entry.{EntryValue}
use Rattle.pylock_readers.specs.Entry.Kinds.{has_conflict}
use Rattle.pylock_readers.specs.Lock.{HeadValue}
use Rattle.pylock_core.specs.Session.State.{Policies, State, is_among, policy_of}
use Rattle.pylock_core.specs.Session.Steps.{FirstFault, answer, answer_after, answer_by, by_standing, head_fault, pick_before, picks, picks_after, put_before, slate, source_of, standing}
use Rattle.pylock_core.specs.declared.answer.Answer.TheVariants.{Plan, Fault}
use Rattle.pylock_core.specs.declared.answer.FaultCode.{FaultCode}
use Rattle.pylock_core.specs.declared.answer.FaultCode.TheVariants.{Ambiguous, NoFile, PythonNotMet, Sources}
use Rattle.pylock_core.specs.declared.answer.Pick.{Pick}
use Rattle.pylock_core.specs.declared.answer.PickSource.{PickSource}
use Rattle.pylock_core.specs.declared.answer.Standing.{Standing}
use Rattle.pylock_core.specs.declared.answer.Standing.TheVariants.{Skipped, Faulty, Active}
use Rattle.pylock_environments.specs.Environments.{Stands}
use Rattle.pylock_environments.specs.Findings.{AreWhole, Clashes, IsEntry, FindNothing, IsShown, Pythons}
use Rattle.pylock_environments.specs.States.{IsStateOf}
use Rattle.pylock_environments.specs.declared.finding.EnvironmentFinding.{EnvironmentFinding}
use Rattle.pylock_environments.specs.declared.finding.Found.TheVariants.{Clash, Never}
use Rattle.pylock_environments.proofs.RowLemmas.{same_entry}
use Rattle.pylock_environments.proofs.StandingLemmas.{is_narrower}
use Rattle.pylock_environments.proofs.StandingLemmas as standings

abbrev Slated : Type 0
Slated = Result (List (ℕ × EntryValue)) FirstFault

-- the entry has this number among those of which the first has the number k
abbrev At : ℕ → List EntryValue → ℕ → EntryValue → Type 0
At k es n e = (j : ℕ) × (n ≡ k + j) × (slice_get es j ≡ Some e)

here : (k : ℕ) (x : EntryValue) (es : List EntryValue) → At k (x ∷ es) k x
here k x es = (zero, omega arith, refl)

there : (k : ℕ) (x : EntryValue) (es : List EntryValue) (n : ℕ) (e : EntryValue) → At (k + 1) es n e → At k (x ∷ es) n e
there k x es n e at = (suc at.0, omega (arith, at.1), at.2)

first_code : FirstFault → FaultCode
first_code f = f.1

same_fault : (f g : FirstFault) → ◌≡◌ {A = Slated} (Err f) (Err g) → f ≡ g
same_fault f g is = cc

put_fault : (x : ℕ × EntryValue) (later : Slated) (f : FirstFault) → put_before x later ≡ Err f → later ≡ Err f
put_fault x (Ok slated) f is = let no : ◌≡◌ {A = Slated} (Ok (x ∷ slated)) (Err f) = is in absurd cc
put_fault x (Err g) f is = is

-- the turn of one entry, where a fault comes of it
turn : (s : Standing) (among conflict : Bool) (k : ℕ) (x : EntryValue) (skipped later : Slated) (n : ℕ) (code : FaultCode) (P : Type 0)
    → (skipped ≡ Err (n, code) → P)
    → (s ≡ Active → later ≡ Err (n, code) → P)
    → (s ≡ Faulty code → k ≡ n → P)
    → (s ≡ Active → among ≡ true → code ≡ Ambiguous → k ≡ n → P)
    → (code ≡ Sources → P)
    → by_standing s skipped (λ c. Err (k, c)) (cond among (Err (k, Ambiguous)) (cond conflict (Err (k, Sources)) (put_before (k, x) later))) ≡ Err (n, code)
    → P
turn Skipped among conflict k x skipped later n code P pass put own shared other is = pass is
turn (Faulty c) among conflict k x skipped later n code P pass put own shared other is =
    let same : ◌≡◌ {A = FirstFault} (k, c) (n, code) = same_fault (k, c) (n, code) is in
    own (ap (λ (f : FirstFault). Faulty f.1) same) (ap (λ (f : FirstFault). f.0) same)
turn Active true conflict k x skipped later n code P pass put own shared other is =
    let same : ◌≡◌ {A = FirstFault} (k, Ambiguous) (n, code) = same_fault (k, Ambiguous) (n, code) is in
    shared refl refl (sym (ap (λ (f : FirstFault). f.1) same)) (ap (λ (f : FirstFault). f.0) same)
turn Active false true k x skipped later n code P pass put own shared other is =
    let same : ◌≡◌ {A = FirstFault} (k, Sources) (n, code) = same_fault (k, Sources) (n, code) is in
    other (sym (ap (λ (f : FirstFault). f.1) same))
turn Active false false k x skipped later n code P pass put own shared other is = put refl (put_fault (k, x) later (n, code) is)

or_true : (a b : Bool) → (a || b) ≡ true → (a ≡ true) ⊎ (b ≡ true)
or_true true b is = inl refl
or_true false b is = inr is

or_left : (a b : Bool) → a ≡ true → (a || b) ≡ true
or_left a b is = rw is refl

or_right : (a b : Bool) → b ≡ true → (a || b) ≡ true
or_right true b is = refl
or_right false b is = is

equal : (x y : List ℕ) → bytes_eq x y ≡ true → x ≡ y
equal x y is = (bytes_eq-Decides x y).0 is

equal_is : (x y : List ℕ) → x ≡ y → bytes_eq x y ≡ true
equal_is x y is = (bytes_eq-Decides x y).1 is

module _ (environment : EnvironmentValue) where
  -- ---- where the fault is that the Python isn't admitted, an entry is narrower

  unmet : (k : ℕ) (es : List EntryValue) (names : List (List ℕ)) (n : ℕ) → slate (enumerate_from k es) environment names ≡ Err (n, PythonNotMet)
      → (e : EntryValue) × At k es n e × (standing e environment ≡ Faulty PythonNotMet)
  unmet k [] names n is = let no : ◌≡◌ {A = Slated} (Ok []) (Err (n, PythonNotMet)) = is in absurd cc
  unmet k (x ∷ es) names n is =
      turn (standing x environment) (is_among names x.name) (has_conflict x) k x
      (slate (enumerate_from (k + 1) es) environment names) (slate (enumerate_from (k + 1) es) environment (x.name ∷ names)) n PythonNotMet _
      (λ rest. let later = unmet (k + 1) es names n rest in (later.0, there k x es n later.0 later.1, later.2))
      (λ active rest. let later = unmet (k + 1) es (x.name ∷ names) n rest in (later.0, there k x es n later.0 later.1, later.2))
      (λ faulty same. (x, subst (λ (m : ℕ). At k (x ∷ es) m x) same (here k x es), faulty))
      (λ active among other same. let no : PythonNotMet ≡ Ambiguous = other in absurd cc)
      (λ sources. let no : PythonNotMet ≡ Sources = sources in absurd cc)
      is

  -- ---- where the fault is that an entry is ambiguous, an earlier one of its name stands beside it

  abbrev Beside : ℕ → List EntryValue → List (List ℕ) → ℕ → EntryValue → Type 0
  Beside k es names n e =
      (is_among names e.name ≡ true)
      ⊎ ((m : ℕ) × (o : EntryValue) × At k es m o × (m < n) × (o.name ≡ e.name) × Stands o environment)

  later_beside : (k : ℕ) (x : EntryValue) (es : List EntryValue) (names : List (List ℕ)) (n : ℕ) (e : EntryValue)
      → Beside (k + 1) es names n e → Beside k (x ∷ es) names n e
  later_beside k x es names n e (inl among) = inl among
  later_beside k x es names n e (inr o) = inr (o.0, o.1, there k x es o.0 o.1 o.2, o.3, o.4, o.5)

  put_beside : (k : ℕ) (x : EntryValue) (es : List EntryValue) (names : List (List ℕ)) (n : ℕ) (e : EntryValue) → Stands x environment
      → At (k + 1) es n e → Beside (k + 1) es (x.name ∷ names) n e → Beside k (x ∷ es) names n e
  put_beside k x es names n e stands at (inr o) = inr (o.0, o.1, there k x es o.0 o.1 o.2, o.3, o.4, o.5)
  put_beside k x es names n e stands at (inl among) = elim (or_true (bytes_eq e.name x.name) (is_among names e.name) among) [
    | inl first ↦ inr (k, x, here k x es, omega (arith, at.1), sym (equal e.name x.name first), stands)
    | inr rest ↦ inl rest
  ]

  ambiguous : (k : ℕ) (es : List EntryValue) (names : List (List ℕ)) (n : ℕ) → slate (enumerate_from k es) environment names ≡ Err (n, Ambiguous)
      → (e : EntryValue) × At k es n e × Stands e environment × Beside k es names n e
  ambiguous k [] names n is = let no : ◌≡◌ {A = Slated} (Ok []) (Err (n, Ambiguous)) = is in absurd cc
  ambiguous k (x ∷ es) names n is =
      turn (standing x environment) (is_among names x.name) (has_conflict x) k x
      (slate (enumerate_from (k + 1) es) environment names) (slate (enumerate_from (k + 1) es) environment (x.name ∷ names)) n Ambiguous _
      (λ rest. let later = ambiguous (k + 1) es names n rest in
      (later.0, there k x es n later.0 later.1, later.2, later_beside k x es names n later.0 later.3))
      (λ active rest. let later = ambiguous (k + 1) es (x.name ∷ names) n rest in
      (later.0, there k x es n later.0 later.1, later.2, put_beside k x es names n later.0 active later.1 later.3))
      (λ faulty same. absurd (standings.never_ambiguous x environment faulty))
      (λ active among other same. (x, subst (λ (m : ℕ). At k (x ∷ es) m x) same (here k x es), active, inl among))
      (λ sources. let no : Ambiguous ≡ Sources = sources in absurd cc)
      is

  -- ---- what is slated stands, and no two have one name

  abbrev IsSlated : ℕ → List EntryValue → ℕ × EntryValue → Type 0
  IsSlated k es x = At k es x.0 x.1 × Stands x.1 environment

  put_slated : (x : ℕ × EntryValue) (later : Slated) (slated : List (ℕ × EntryValue)) → put_before x later ≡ Ok slated
      → (rest : List (ℕ × EntryValue)) × (later ≡ Ok rest) × (slated ≡ x ∷ rest)
  put_slated x (Ok rest) slated is = (rest, refl, (let same : ◌≡◌ {A = Slated} (Ok (x ∷ rest)) (Ok slated) = is in cc))
  put_slated x (Err f) slated is = let no : ◌≡◌ {A = Slated} (Err f) (Ok slated) = is in absurd cc

  -- the turn of one entry, where no fault comes of it
  good_turn : (s : Standing) (among conflict : Bool) (k : ℕ) (x : EntryValue) (skipped later : Slated) (slated : List (ℕ × EntryValue)) (P : Type 0)
      → (s ≡ Skipped → skipped ≡ Ok slated → P)
      → (s ≡ Active → among ≡ false → (rest : List (ℕ × EntryValue)) → later ≡ Ok rest → slated ≡ (k, x) ∷ rest → P)
      → by_standing s skipped (λ c. Err (k, c)) (cond among (Err (k, Ambiguous)) (cond conflict (Err (k, Sources)) (put_before (k, x) later))) ≡ Ok slated
      → P
  good_turn Skipped among conflict k x skipped later slated P pass put is = pass refl is
  good_turn (Faulty c) among conflict k x skipped later slated P pass put is = let no : ◌≡◌ {A = Slated} (Err (k, c)) (Ok slated) = is in absurd cc
  good_turn Active true conflict k x skipped later slated P pass put is = let no : ◌≡◌ {A = Slated} (Err (k, Ambiguous)) (Ok slated) = is in absurd cc
  good_turn Active false true k x skipped later slated P pass put is = let no : ◌≡◌ {A = Slated} (Err (k, Sources)) (Ok slated) = is in absurd cc
  good_turn Active false false k x skipped later slated P pass put is =
      let rest = put_slated (k, x) later slated is in put refl refl rest.0 rest.1 rest.2

  all_slated : (k : ℕ) (es : List EntryValue) (names : List (List ℕ)) (slated : List (ℕ × EntryValue))
      → slate (enumerate_from k es) environment names ≡ Ok slated → All (IsSlated k es) slated
  all_slated k [] names slated is =
      let same : slated ≡ [] = (let e : ◌≡◌ {A = Slated} (Ok []) (Ok slated) = is in cc) in
      subst (All (IsSlated k [])) (sym same) (All-nil (IsSlated k []))
  all_slated k (x ∷ es) names slated is =
      good_turn (standing x environment) (is_among names x.name) (has_conflict x) k x
      (slate (enumerate_from (k + 1) es) environment names) (slate (enumerate_from (k + 1) es) environment (x.name ∷ names)) slated _
      (λ skipped rest. All-weaker (IsSlated (k + 1) es) (IsSlated k (x ∷ es)) (λ y is. (there k x es y.0 y.1 is.0, is.1)) slated (all_slated (k + 1) es names slated rest))
      (λ active alone rest later whole. subst (All (IsSlated k (x ∷ es))) (sym whole)
      (All-cons (IsSlated k (x ∷ es)) (k, x) rest (here k x es, active)
      (All-weaker (IsSlated (k + 1) es) (IsSlated k (x ∷ es)) (λ y is. (there k x es y.0 y.1 is.0, is.1)) rest (all_slated (k + 1) es (x.name ∷ names) rest later))))
      is

  -- an entry that stands shares its name with none before
  abbrev IsAlone : ℕ → List EntryValue → List (List ℕ) → ℕ → EntryValue → Type 0
  IsAlone k es names n e =
      (is_among names e.name ≡ true → ⊥)
      × ((m : ℕ) (o : EntryValue) → At k es m o → m < n → Stands o environment → o.name ≡ e.name → ⊥)

  alone : (k : ℕ) (es : List EntryValue) (names : List (List ℕ)) (slated : List (ℕ × EntryValue))
      → slate (enumerate_from k es) environment names ≡ Ok slated
      → (n : ℕ) (e : EntryValue) (j : ℕ) → n ≡ k + j → slice_get es j ≡ Some e → Stands e environment → IsAlone k es names n e
  alone k [] names slated is n e j at entry stands = let no : ◌≡◌ {A = Option EntryValue} None (Some e) = entry in absurd cc
  alone k (x ∷ es) names slated is n e zero at entry stands =
      let same : x ≡ e = (let f : Some x ≡ Some e = entry in cc) in
      good_turn (standing x environment) (is_among names x.name) (has_conflict x) k x
      (slate (enumerate_from (k + 1) es) environment names) (slate (enumerate_from (k + 1) es) environment (x.name ∷ names)) slated _
      (λ skipped rest. let no : Skipped ≡ Active = sym skipped ∙ ap (λ (y : EntryValue). standing y environment) same ∙ stands in absurd cc)
      (λ active unshared rest later whole. (
        λ among. let no : false ≡ true = sym unshared ∙ ap (λ (y : EntryValue). is_among names y.name) same ∙ among in cc,
        λ m o other before also name. omega (arith, at, other.1, before),
      ))
      is
  alone k (x ∷ es) names slated is n e (suc j) at entry stands =
      good_turn (standing x environment) (is_among names x.name) (has_conflict x) k x
      (slate (enumerate_from (k + 1) es) environment names) (slate (enumerate_from (k + 1) es) environment (x.name ∷ names)) slated _
      (λ skipped rest.
      let after = alone (k + 1) es names slated rest n e j (omega (arith, at)) entry stands in (
        after.0,
        λ m o other. unless_first m o other
            (λ same also name. let no : Skipped ≡ Active = sym skipped ∙ ap (λ (y : EntryValue). standing y environment) same ∙ also in cc)
            (λ later before also name. after.1 m o later before also name),
      ))
      (λ active unshared rest later whole.
      let after = alone (k + 1) es (x.name ∷ names) rest later n e j (omega (arith, at)) entry stands in (
        λ among. after.0 (or_right (bytes_eq e.name x.name) (is_among names e.name) among),
        λ m o other. unless_first m o other
            (λ same also name. after.0 (or_left (bytes_eq e.name x.name) (is_among names e.name)
            (equal_is e.name x.name (sym (ap (λ (y : EntryValue). y.name) same ∙ name)))))
            (λ there before also name. after.1 m o there before also name),
      ))
      is
    where
      -- another entry is the first, or one behind it
      unless_first : (m : ℕ) (o : EntryValue) → At k (x ∷ es) m o
          → (x ≡ o → Stands o environment → o.name ≡ e.name → ⊥)
          → (At (k + 1) es m o → m < n → Stands o environment → o.name ≡ e.name → ⊥)
          → m < n → Stands o environment → o.name ≡ e.name → ⊥
      unless_first m o (zero, same, entry) first behind before also name =
          first (let f : Some x ≡ Some o = entry in cc) also name
      unless_first m o (suc j, same, entry) first behind before also name =
          behind (j, omega (arith, same), entry) before also name

-- ---- step 6 has one fault alone, and picks what is slated

one_pick : (n : ℕ) (source : Option PickSource) (rest : Result (List Pick) FirstFault) (m : ℕ) (code : FaultCode) → pick_before n source rest ≡ Err (m, code)
    → (rest ≡ Err (m, code) → code ≡ NoFile) → code ≡ NoFile
one_pick n None rest m code is later =
    let same : ◌≡◌ {A = FirstFault} (n, NoFile) (m, code) = (let e : ◌≡◌ {A = Result (List Pick) FirstFault} (Err (n, NoFile)) (Err (m, code)) = is in cc) in
    sym (ap (λ (f : FirstFault). f.1) same)
one_pick n (Some s) (Ok plan) m code is later =
    let no : ◌≡◌ {A = Result (List Pick) FirstFault} (Ok (record { id = n; source = s } ∷ plan)) (Err (m, code)) = is in absurd cc
one_pick n (Some s) (Err f) m code is later = later is

picks_code : (slated : List (ℕ × EntryValue)) (tags : List TagValue) (policies : Policies) (m : ℕ) (code : FaultCode) → picks slated tags policies ≡ Err (m, code) → code ≡ NoFile
picks_code [] tags policies m code is = let no : ◌≡◌ {A = Result (List Pick) FirstFault} (Ok []) (Err (m, code)) = is in absurd cc
picks_code (x ∷ slated) tags policies m code is =
    one_pick x.0 (source_of x.1 tags (policy_of policies x.1.name)) (picks slated tags policies) m code is (picks_code slated tags policies m code)

abbrev IsOfSlated : List (ℕ × EntryValue) → Pick → Type 0
IsOfSlated slated pick = (e : EntryValue) × Contains slated (pick.id, e)

contains_first : {X : Type 0} (x : X) (xs : List X) → Contains (x ∷ xs) x
contains_first x xs = (0, omega arith, refl)

contains_later : {X : Type 0} (x : X) (xs : List X) (t : X) → Contains xs t → Contains (x ∷ xs) t
contains_later x xs t h = (suc h.0, omega (arith, h.1), h.2)

made_pick : (x : ℕ × EntryValue) (slated : List (ℕ × EntryValue)) (source : Option PickSource) (rest : Result (List Pick) FirstFault) (plan : List Pick)
    → pick_before x.0 source rest ≡ Ok plan → ((later : List Pick) → rest ≡ Ok later → All (IsOfSlated slated) later) → All (IsOfSlated (x ∷ slated)) plan
made_pick x slated None rest plan is later = let no : ◌≡◌ {A = Result (List Pick) FirstFault} (Err (x.0, NoFile)) (Ok plan) = is in absurd cc
made_pick x slated (Some s) (Ok more) plan is later =
    let same : record { id = x.0; source = s } ∷ more ≡ plan =
    (let e : ◌≡◌ {A = Result (List Pick) FirstFault} (Ok (record { id = x.0; source = s } ∷ more)) (Ok plan) = is in cc) in
    subst (All (IsOfSlated (x ∷ slated))) same
    (All-cons (IsOfSlated (x ∷ slated)) (record { id = x.0; source = s }) more (x.1, contains_first x slated)
    (All-weaker (IsOfSlated slated) (IsOfSlated (x ∷ slated)) (λ p is. (is.0, contains_later x slated (p.id, is.0) is.1)) more (later more refl)))
made_pick x slated (Some s) (Err f) plan is later = let no : ◌≡◌ {A = Result (List Pick) FirstFault} (Err f) (Ok plan) = is in absurd cc

all_picked : (slated : List (ℕ × EntryValue)) (tags : List TagValue) (policies : Policies) (plan : List Pick) → picks slated tags policies ≡ Ok plan → All (IsOfSlated slated) plan
all_picked [] tags policies plan is =
    let same : [] ≡ plan = (let e : ◌≡◌ {A = Result (List Pick) FirstFault} (Ok []) (Ok plan) = is in cc) in
    subst (All (IsOfSlated [])) same (All-nil (IsOfSlated []))
all_picked (x ∷ slated) tags policies plan is =
    made_pick x slated (source_of x.1 tags (policy_of policies x.1.name)) (picks slated tags policies) plan is (all_picked slated tags policies)

-- ---- answers

same_answer : (id n : ℕ) (c d : FaultCode) → Fault id c ≡ Fault n d → (id ≡ n) × (c ≡ d)
same_answer id n c d is = (cc, cc)

-- a fault that isn't want of a file comes from step 5
fault_of_picks : (slated : Slated) (tags : List TagValue) (policies : Policies) (n : ℕ) (code : FaultCode) → (code ≡ NoFile → ⊥)
    → answer_by (picks_after slated tags policies) ≡ Fault n code → slated ≡ Err (n, code)
fault_of_picks (Err f) tags policies n code other is =
    let same = same_answer f.0 n f.1 code is in
    ap (λ (g : FirstFault). Err g) (λ i. (same.0 i, same.1 i))
fault_of_picks (Ok slated) tags policies n code other is = at (picks slated tags policies) refl is
  where
    at : (made : Result (List Pick) FirstFault) → picks slated tags policies ≡ made → answer_by made ≡ Fault n code → ◌≡◌ {A = Slated} (Ok slated) (Err (n, code))
    at (Ok plan) made is = let no : Plan plan ≡ Fault n code = is in absurd cc
    at (Err f) made is =
        let same = same_answer f.0 n f.1 code is in
        let fault : f ≡ (n, code) = λ i. (same.0 i, same.1 i) in
        absurd (other (picks_code slated tags policies n code (made ∙ ap (λ (g : FirstFault). Err g) fault)))

-- a plan is picked from what is slated
plan_of_picks : (slated : Slated) (tags : List TagValue) (policies : Policies) (plan : List Pick) → answer_by (picks_after slated tags policies) ≡ Plan plan
    → (list : List (ℕ × EntryValue)) × (slated ≡ Ok list) × All (IsOfSlated list) plan
plan_of_picks (Err f) tags policies plan is = let no : Fault f.0 f.1 ≡ Plan plan = is in absurd cc
plan_of_picks (Ok slated) tags policies plan is = at (picks slated tags policies) refl is
  where
    at : (made : Result (List Pick) FirstFault) → picks slated tags policies ≡ made → answer_by made ≡ Plan plan
        → (list : List (ℕ × EntryValue)) × (◌≡◌ {A = Slated} (Ok slated) (Ok list)) × All (IsOfSlated list) plan
    at (Ok other) made is =
        let same : other ≡ plan = (let e : Plan other ≡ Plan plan = is in cc) in
        (slated, refl, all_picked slated tags policies plan (made ∙ ap (λ (p : List Pick). Ok p) same))
    at (Err f) made is = let no : Fault f.0 f.1 ≡ Plan plan = is in absurd cc

module _ (head : HeadValue) (entries : List EntryValue) (state : State) (of : IsStateOf head entries state) where
  answer_is : answer state ≡ answer_by (picks_after (slate (enumerate_from 1 entries) state.environment []) state.tags state.policies)
  answer_is =
      ap (λ (h : HeadValue). answer_after (head_fault h state.environment) (answer_by (picks_after (slate state.entries state.environment []) state.tags state.policies))) of.of_head
      ∙ ap (λ f. answer_after f (answer_by (picks_after (slate state.entries state.environment []) state.tags state.policies))) of.in_environment.admitted
      ∙ ap (λ (es : List (ℕ × EntryValue)). answer_by (picks_after (slate es state.environment []) state.tags state.policies)) of.of_entries

  entry_of : (n : ℕ) (e : EntryValue) → At 1 entries n e → IsEntry entries n e
  entry_of n e at = (at.0, omega (arith, at.1), at.2)

  at_of : (n : ℕ) (e : EntryValue) → IsEntry entries n e → At 1 entries n e
  at_of n e is = (is.0, omega (arith, is.1), is.2)

  pub never_ambiguous : (found : List EnvironmentFinding) (n : ℕ) → AreWhole head entries found → FindNothing found n Clashes → answer state ≡ Fault n Ambiguous → ⊥
  never_ambiguous found n whole nothing is =
      let fault = fault_of_picks (slate (enumerate_from 1 entries) state.environment []) state.tags state.policies n Ambiguous
      (λ no. let e : Ambiguous ≡ NoFile = no in cc) (sym answer_is ∙ is) in
      let entry = ambiguous state.environment 1 entries [] n fault in
      elim entry.3 [
        | inl among ↦ (let no : false ≡ true = among in cc)
        | inr o ↦ whole n entry.0 Clashes (entry_of n entry.0 entry.1) nothing o.0 o.1
            (record { stands = entry_of o.0 o.1 o.2; before = o.3; named = o.4 }) state.environment of.in_environment (o.5, entry.2)
      ]

  pub never_unmet : (found : List EnvironmentFinding) (n : ℕ) → AreWhole head entries found → FindNothing found n Pythons → answer state ≡ Fault n PythonNotMet → ⊥
  never_unmet found n whole nothing is =
      let fault = fault_of_picks (slate (enumerate_from 1 entries) state.environment []) state.tags state.policies n PythonNotMet
      (λ no. let e : PythonNotMet ≡ NoFile = no in cc) (sym answer_is ∙ is) in
      let entry = unmet state.environment 1 entries [] n fault in
      whole n entry.0 Pythons (entry_of n entry.0 entry.1) nothing state.environment of.in_environment (is_narrower entry.0 state.environment entry.2)

  pub never_is_unplanned : (found : List EnvironmentFinding) (n : ℕ) (plan : List Pick) → All (IsShown head entries) found
      → Contains found (record { entry = n; found = Never }) → answer state ≡ Plan plan → All (λ pick. pick.id ≡ n → ⊥) plan
  never_is_unplanned found n plan shown among is =
      let made = plan_of_picks (slate (enumerate_from 1 entries) state.environment []) state.tags state.policies plan (sym answer_is ∙ is) in
      let never = All-contains (IsShown head entries) found (record { entry = n; found = Never }) shown among in
      let stands = all_slated state.environment 1 entries [] made.0 made.1 in
      All-weaker (IsOfSlated made.0) (λ pick. pick.id ≡ n → ⊥)
      (λ pick picked same.
      let slated = All-contains (IsSlated state.environment 1 entries) made.0 (pick.id, picked.0) stands picked.1 in
      let at : IsEntry entries n picked.0 = subst (λ (m : ℕ). IsEntry entries m picked.0) same (entry_of pick.id picked.0 slated.0) in
      let entry : picked.0 ≡ never.0 = same_entry entries n never.0 picked.0 never.1 at in
      never.2 state.environment of.in_environment (subst (λ (e : EntryValue). Stands e state.environment) entry slated.1))
      plan made.2

  pub clash_is_no_plan : (found : List EnvironmentFinding) (n other : ℕ) (environment : EnvironmentValue) (plan : List Pick) → All (IsShown head entries) found
      → Contains found (record { entry = n; found = Clash other environment }) → state.environment ≡ environment → answer state ≡ Plan plan → ⊥
  clash_is_no_plan found n other environment plan shown among same is =
      let made = plan_of_picks (slate (enumerate_from 1 entries) state.environment []) state.tags state.policies plan (sym answer_is ∙ is) in
      let clash = All-contains (IsShown head entries) found (record { entry = n; found = Clash other environment }) shown among in
      let earlier = clash.2.0 in
      let both = clash.2.3 in
      let stands = λ (e : EntryValue) (h : Stands e environment). subst (λ (v : EnvironmentValue). Stands e v) (sym same) h in
      let at = at_of n clash.0 clash.1 in
      (alone state.environment 1 entries [] made.0 made.1 n clash.0 at.0 at.1 at.2 (stands clash.0 both.1)).1
      other earlier (at_of other earlier clash.2.1.stands) clash.2.1.before (stands earlier both.0) clash.2.1.named
