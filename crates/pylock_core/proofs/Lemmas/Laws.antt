-- Lemmas on what the picks and the fault of an answer name, and on the answer that fates give.
use Rattle.std.proofs.Common.{[], ◌≡◌, ℕ, suc, ◌<◌, Bool, true, false, List, ◌∷◌, length, Option, Some, None, is_some, option_map, Result, Ok, Err, cond, subst, ap, refl, inl, inr, arith, ◌∙◌, ◌+◌, ◌≤◌, ◌||◌, ◌&&◌, IfSome, map, sym, eq-eqb}
use Rattle.std.specs.List.{All, Contains}
use Rattle.std.proofs.lemmas.List.{length-map}
use Rattle.std.proofs.lemmas.List.Elements.{All-contains, All-cons, All-nil, All-weaker}
use Rattle.std.proofs.lemmas.Option.{slice_get_within}
use Rattle.pytext.specs.Options.{either}
use Rattle.pymark_core.specs.Environment.{EnvironmentValue}
use Rattle.pywheel_core.specs.Choice.{IsBest, best}
use Rattle.pywheel_core.specs.Tag.{TagValue}
use Rattle.pywheel_core.specs.Wheel.Value.{WheelValue}
use Rattle.pylock_readers.specs.Entry.{EntryValue, wheel_name, wheel_names}
use Rattle.pylock_core.specs.Session.Picks.{HasSource, IsFaultIn, IsPickAmong, StandsAmong}
use Rattle.pylock_core.specs.Session.State.{Policies, State, is_among, policy_of, NumbersRise, Rises}
use Rattle.pylock_core.specs.Session.Steps.{FirstFault, answer, answer_after, answer_by, best_wheel, by_standing, head_fault, pick_before, picks, picks_after, put_before, sdist_source, slate, source_of, standing}
use Rattle.pylock_readers.specs.Entry.Kinds.{has_conflict}
use Rattle.pylock_core.specs.declared.answer.Answer.{Answer}
use Rattle.pylock_core.specs.declared.answer.Answer.TheVariants.{Plan, Fault}
use Rattle.pylock_core.specs.declared.answer.FaultCode.{FaultCode}
use Rattle.pylock_core.specs.declared.answer.FaultCode.TheVariants.{Ambiguous, Sources}
use Rattle.pylock_core.specs.declared.answer.Pick.{Pick}
use Rattle.pylock_core.specs.declared.answer.PickSource.{PickSource}
use Rattle.pylock_core.specs.declared.answer.PickSource.TheVariants as kind
use Rattle.pylock_core.specs.declared.answer.Standing.{Standing}
use Rattle.pylock_core.specs.declared.answer.Standing.TheVariants.{Skipped, Faulty, Active}
use Rattle.pylock_core.specs.declared.edit.Policy.{Policy}
use Rattle.pylock_core.specs.declared.edit.Policy.TheVariants.{Any, Wheel, Source}
use Rattle.std.proofs.lemmas.Bool.{ne_eqb}
use Rattle.std.specs.Option.{option_map_or}
use Rattle.std.specs.Str.{bytes_eq}
use Rattle.pylock_core.specs.Session.Fates.{explained_answer, fate_by, fate_picks, first_active, first_slating_fault, own_fate, picked, stands_active}
use Rattle.pylock_core.specs.declared.fate.Fate.{Fate}
use Rattle.pylock_core.proofs.Lemmas.Tables.Names.{text_itself}

-- ---- elements of a list

contains_here : {X : Type 0} (x : X) (xs : List X) → Contains (x ∷ xs) x
contains_here x xs = (0, omega arith, refl)

contains_there : {X : Type 0} (x : X) (xs : List X) (t : X) → Contains xs t → Contains (x ∷ xs) t
contains_there x xs t h = (suc h.0, omega (arith, h.1), h.2)

-- ---- the slated entries stand among the entries

abbrev Entries : Type 0
Entries = List (ℕ × EntryValue)

abbrev IsSlateOf : Entries → Result Entries FirstFault → Type 0
IsSlateOf es (Ok slated) = All (Contains es) slated
IsSlateOf es (Err fault) = StandsAmong es fault.0

slate_more : (e : ℕ × EntryValue) (es : Entries) (slated : Result Entries FirstFault) → IsSlateOf es slated → IsSlateOf (e ∷ es) slated
slate_more e es (Ok slated) h = All-weaker (Contains es) (Contains (e ∷ es)) (λ x is. contains_there e es x is) slated h
slate_more e es (Err fault) h = (h.0, contains_there e es (fault.0, h.0) h.1)

slate_put : (e : ℕ × EntryValue) (es : Entries) (slated : Result Entries FirstFault) → IsSlateOf es slated → IsSlateOf (e ∷ es) (put_before e slated)
slate_put e es (Ok slated) h = All-cons (Contains (e ∷ es)) e slated (contains_here e es) (slate_more e es (Ok slated) h)
slate_put e es (Err fault) h = slate_more e es (Err fault) h

slate_one : (e : ℕ × EntryValue) (es : Entries) (s : Standing) (shared conflict : Bool) (skipped later : Result Entries FirstFault) → IsSlateOf es skipped → IsSlateOf es later
    → IsSlateOf (e ∷ es) (by_standing s skipped (λ code. Err (e.0, code)) (cond shared (Err (e.0, Ambiguous)) (cond conflict (Err (e.0, Sources)) (put_before e later))))
slate_one e es Skipped shared conflict skipped later h k = slate_more e es skipped h
slate_one e es (Faulty code) shared conflict skipped later h k = (e.1, contains_here e es)
slate_one e es Active true conflict skipped later h k = (e.1, contains_here e es)
slate_one e es Active false true skipped later h k = (e.1, contains_here e es)
slate_one e es Active false false skipped later h k = slate_put e es later k

slate_stands : (es : Entries) (environment : EnvironmentValue) (names : List (List ℕ)) → IsSlateOf es (slate es environment names)
slate_stands [] environment names = All-nil (Contains [])
slate_stands (e ∷ es) environment names =
    slate_one e es (standing e.1 environment) (is_among names e.1.name) (has_conflict e.1)
    (slate es environment names) (slate es environment (e.1.name ∷ names))
    (slate_stands es environment names) (slate_stands es environment (e.1.name ∷ names))

-- ---- an entry has its source

-- the place that is best, as the statement over pairs of places says
abbrev pub BestStands : Type 0
BestStands = (wheels : List (Option WheelValue)) (tags : List TagValue) → IsBest wheels tags (best wheels tags)

abbrev Has : EntryValue → Option PickSource → Type 0
Has entry chosen = IfSome chosen (λ s. HasSource s entry)

either_has : (entry : EntryValue) (one other : Option PickSource) → Has entry one → Has entry other → Has entry (either one other)
either_has entry None other h k = k
either_has entry (Some s) other h k = h

-- where the source is there, the entry has what is chosen
there_has : {X : Type 0} (entry : EntryValue) (chosen : PickSource) (source : Option X) → (is_some source ≡ true → HasSource chosen entry) → Has entry (option_map (λ x. chosen) source)
there_has entry chosen None has = tt
there_has entry chosen (Some x) has = has refl

best_within : (entry : EntryValue) (tags : List TagValue) (chosen : Option ℕ) → IsBest (wheel_names entry) tags chosen → Has entry (option_map kind.Wheel chosen)
best_within entry tags None h = tt
best_within entry tags (Some place) h =
    let stands : place < length (wheel_names entry) = slice_get_within (wheel_names entry) place (Some h.0) h.2.0 in
    let same : length (wheel_names entry) ≡ length entry.wheels = length-map entry.wheels wheel_name in
    omega (arith, stands, same)

wheel_has : BestStands → (entry : EntryValue) (tags : List TagValue) (policy : Policy) → Has entry (option_map kind.Wheel (best_wheel entry tags policy))
wheel_has stands entry tags Any = best_within entry tags (best (wheel_names entry) tags) (stands (wheel_names entry) tags)
wheel_has stands entry tags Wheel = best_within entry tags (best (wheel_names entry) tags) (stands (wheel_names entry) tags)
wheel_has stands entry tags Source = tt

file_has : (entry : EntryValue) (policy : Policy) → Has entry (sdist_source entry policy)
file_has entry Any = there_has entry kind.Sdist entry.sdist (λ there. there)
file_has entry Wheel = tt
file_has entry Source = there_has entry kind.Sdist entry.sdist (λ there. there)

source_has : BestStands → (entry : EntryValue) (tags : List TagValue) (policy : Policy) → Has entry (source_of entry tags policy)
source_has stands entry tags policy =
    either_has entry _ _ (there_has entry kind.Vcs entry.vcs (λ there. there))
    (either_has entry _ _ (there_has entry kind.Directory entry.directory (λ there. there))
    (either_has entry _ _ (there_has entry kind.Archive entry.archive (λ there. there))
    (either_has entry _ _ (wheel_has stands entry tags policy) (file_has entry policy))))

-- ---- each pick names an entry that has its source

abbrev IsPlanOf : Entries → Result (List Pick) FirstFault → Type 0
IsPlanOf es (Ok plan) = All (IsPickAmong es) plan
IsPlanOf es (Err fault) = StandsAmong es fault.0

pick_wider : (es others : Entries) → ((x : ℕ × EntryValue) → Contains es x → Contains others x) → (plan : Result (List Pick) FirstFault) → IsPlanOf es plan → IsPlanOf others plan
pick_wider es others within (Ok plan) h =
    All-weaker (IsPickAmong es) (IsPickAmong others) (λ p is. (is.0, within (p.id, is.0) is.1, is.2)) plan h
pick_wider es others within (Err fault) h = (h.0, within (fault.0, h.0) h.1)

pick_one : (e : ℕ × EntryValue) (es : Entries) (chosen : Option PickSource) → Has e.1 chosen → (plan : Result (List Pick) FirstFault) → IsPlanOf (e ∷ es) plan
    → IsPlanOf (e ∷ es) (pick_before e.0 chosen plan)
pick_one e es None has plan h = (e.1, contains_here e es)
pick_one e es (Some s) has (Ok plan) h = All-cons (IsPickAmong (e ∷ es)) _ plan (e.1, contains_here e es, has) h
pick_one e es (Some s) has (Err fault) h = h

picks_among : BestStands → (es : Entries) (tags : List TagValue) (policies : Policies) → IsPlanOf es (picks es tags policies)
picks_among stands [] tags policies = All-nil (IsPickAmong [])
picks_among stands (e ∷ es) tags policies =
    pick_one e es (source_of e.1 tags (policy_of policies e.1.name)) (source_has stands e.1 tags (policy_of policies e.1.name))
    (picks es tags policies) (pick_wider es (e ∷ es) (λ x is. contains_there e es x is) (picks es tags policies) (picks_among stands es tags policies))

after_slate : BestStands → (es : Entries) (slated : Result Entries FirstFault) (tags : List TagValue) (policies : Policies) → IsSlateOf es slated → IsPlanOf es (picks_after slated tags policies)
after_slate stands es (Ok slated) tags policies h =
    pick_wider slated es (λ x is. All-contains (Contains es) slated x h is) (picks slated tags policies) (picks_among stands slated tags policies)
after_slate stands es (Err fault) tags policies h = h

-- ---- the answer

abbrev IsAnswerOf : State → Answer → Type 0
IsAnswerOf state (Plan plan) = All (IsPickAmong state.entries) plan
IsAnswerOf state (Fault id code) = IsFaultIn state id code

answer_one : (state : State) → head_fault state.head state.environment ≡ None → (plan : Result (List Pick) FirstFault) → IsPlanOf state.entries plan → IsAnswerOf state (answer_by plan)
answer_one state none (Ok plan) h = h
answer_one state none (Err fault) h = inr (none, h)

answer_head : (state : State) (fault : Option FaultCode) → head_fault state.head state.environment ≡ fault → (plan : Result (List Pick) FirstFault) → IsPlanOf state.entries plan
    → IsAnswerOf state (answer_after fault (answer_by plan))
answer_head state None is plan h = answer_one state is plan h
answer_head state (Some code) is plan h = inl (refl, is)

answer_stands : BestStands → (state : State) → IsAnswerOf state (answer state)
answer_stands stands state =
    answer_head state (head_fault state.head state.environment) refl
    (picks_after (slate state.entries state.environment []) state.tags state.policies)
    (after_slate stands state.entries (slate state.entries state.environment []) state.tags state.policies (slate_stands state.entries state.environment []))

pub plan_stands : BestStands → (state : State) (plan : List Pick) → answer state ≡ Plan plan → All (IsPickAmong state.entries) plan
plan_stands stands state plan is = subst (IsAnswerOf state) is (answer_stands stands state)

pub fault_is : BestStands → (state : State) (id : ℕ) (code : FaultCode) → answer state ≡ Fault id code → IsFaultIn state id code
fault_is stands state id code is = subst (IsAnswerOf state) is (answer_stands stands state)

-- ---- options

either_cond : (front : Option ℕ) (b : Bool) (n : ℕ) (rest : Option ℕ) → either front (cond b (Some n) rest) ≡ either (either front (cond b (Some n) None)) rest
either_cond (Some m) b n rest = refl
either_cond None true n rest = refl
either_cond None false n rest = refl

is_some_either : (front : Option ℕ) (b : Bool) (n : ℕ) → (b || is_some front) ≡ is_some (either front (cond b (Some n) None))
is_some_either (Some m) true n = refl
is_some_either (Some m) false n = refl
is_some_either None true n = refl
is_some_either None false n = refl

below_either : (front : Option ℕ) (b : Bool) (n k : ℕ) → k ≤ n → IfSome front (λ m. m < k) → IfSome (either front (cond b (Some n) None)) (λ m. m < n + 1)
below_either (Some m) b n k more below = omega (arith, more, below)
below_either None true n k more below = omega arith
below_either None false n k more below = tt

below_more : (front : Option ℕ) (n k : ℕ) → k ≤ n → IfSome front (λ m. m < k) → IfSome front (λ m. m < n + 1)
below_more (Some m) n k more below = omega (arith, more, below)
below_more None n k more below = tt

-- ---- one fate

picked_picks : (n : ℕ) (policy : Policy) (s : Option PickSource) (fs : List (ℕ × Fate)) → fate_picks ((n, picked policy s) ∷ fs) ≡ pick_before n s (fate_picks fs)
picked_picks n policy None fs = refl
picked_picks n policy (Some s) fs = refl

picked_fault : (n : ℕ) (policy : Policy) (s : Option PickSource) (fs : List (ℕ × Fate)) → first_slating_fault ((n, picked policy s) ∷ fs) ≡ first_slating_fault fs
picked_fault n policy None fs = refl
picked_fault n policy (Some s) fs = refl

module _ (environment : EnvironmentValue) (tags : List TagValue) (policies : Policies) (first : List ℕ → Option ℕ) where
  abbrev policy : EntryValue → Policy
  policy e = policy_of policies e.name

  abbrev source : EntryValue → Option PickSource
  source e = source_of e tags (policy e)

  abbrev fate_of : ℕ × EntryValue → ℕ × Fate
  fate_of e = (e.0, fate_by (standing e.1 environment) e.0 (first e.1.name) (own_fate (has_conflict e.1) (policy e.1) (source e.1)))

  -- what step 5 gives, and what fates say of it and of step 6
  abbrev Agree : Result (List (ℕ × EntryValue)) FirstFault → Option FirstFault → Result (List Pick) FirstFault → Type 0
  Agree (Ok slated) None made = picks slated tags policies ≡ made
  Agree (Ok slated) (Some fault) made = ⊥
  Agree (Err fault) None made = ⊥
  Agree (Err fault) (Some other) made = fault ≡ other

  agree_after : (slated : Result (List (ℕ × EntryValue)) FirstFault) (fault : Option FirstFault) (made : Result (List Pick) FirstFault) → Agree slated fault made
      → picks_after slated tags policies ≡ option_map_or (λ fault. Err fault) fault made
  agree_after (Ok slated) None made h = h
  agree_after (Ok slated) (Some fault) made h = absurd h
  agree_after (Err fault) None made h = absurd h
  agree_after (Err fault) (Some other) made h = ap Err h

  put_agree : (n : ℕ) (e : EntryValue) (slated : Result (List (ℕ × EntryValue)) FirstFault) (fault : Option FirstFault) (made : Result (List Pick) FirstFault)
      → Agree slated fault made → Agree (put_before (n, e) slated) fault (pick_before n (source e) made)
  put_agree n e (Ok slated) None made h = ap (pick_before n (source e)) h
  put_agree n e (Ok slated) (Some fault) made h = absurd h
  put_agree n e (Err fault) None made h = absurd h
  put_agree n e (Err fault) (Some other) made h = h

  -- an entry whose first active one of its name is found
  turn : (n : ℕ) (e : EntryValue) (s : Standing) (shared conflict : Bool) (found : Option ℕ) (fs : List (ℕ × Fate)) (skipped later : Result (List (ℕ × EntryValue)) FirstFault)
      → (s ≡ Skipped → Agree skipped (first_slating_fault fs) (fate_picks fs))
      → (s ≡ Active → shared ≡ false → Agree later (first_slating_fault fs) (fate_picks fs))
      → (shared ≡ true → (m : ℕ) × (found ≡ Some m) × (m < n))
      → (s ≡ Active → shared ≡ false → found ≡ Some n)
      → Agree (by_standing s skipped (λ code. Err (n, code)) (cond shared (Err (n, Ambiguous)) (cond conflict (Err (n, Sources)) (put_before (n, e) later))))
      (first_slating_fault ((n, fate_by s n found (own_fate conflict (policy e) (source e))) ∷ fs)) (fate_picks ((n, fate_by s n found (own_fate conflict (policy e) (source e))) ∷ fs))
  turn n e Skipped shared conflict found fs skipped later at_skipped at_active other own = at_skipped refl
  turn n e (Faulty code) shared conflict found fs skipped later at_skipped at_active other own = refl
  turn n e Active true conflict found fs skipped later at_skipped at_active other own =
      let h = other refl in
      rw (h.1, ne_eqb h.0 n (λ same. omega (arith, same, h.2))) refl
  turn n e Active false true found fs skipped later at_skipped at_active other own = rw (own refl refl, eq-eqb n n refl) refl
  turn n e Active false false found fs skipped later at_skipped at_active other own =
      rw (own refl refl, eq-eqb n n refl, picked_fault n (policy e) (source e) fs, picked_picks n (policy e) (source e) fs) (put_agree n e later (first_slating_fault fs) (fate_picks fs) (at_active refl refl))

  -- what is known after the entries in front, whose slated ones have these names
  record Known (k : ℕ) (es : List (ℕ × EntryValue)) (names : List (List ℕ)) (front : List ℕ → Option ℕ) : Type 0 where
    among : (q : List ℕ) → is_among names q ≡ is_some (front q)
    whole : (q : List ℕ) → first q ≡ either (front q) (first_active es environment q)
    below : (q : List ℕ) → IfSome (front q) (λ m. m < k)

  shared_below : (front : Option ℕ) (k n : ℕ) (rest found : Option ℕ) → k ≤ n → found ≡ either front rest → IfSome front (λ m. m < k) → is_some front ≡ true → (m : ℕ) × (found ≡ Some m) × (m < n)
  shared_below (Some m) k n rest found more is below there = (m, is, omega (arith, more, below))
  shared_below None k n rest found more is below there = absurd cc

  unshared : (front : Option ℕ) (rest found : Option ℕ) → found ≡ either front rest → is_some front ≡ false → found ≡ rest
  unshared (Some m) rest found is none = absurd cc
  unshared None rest found is none = is

  agree : (k : ℕ) (es : List (ℕ × EntryValue)) (names : List (List ℕ)) (front : List ℕ → Option ℕ) → Rises k (map (λ e. e.0) es) → Known k es names front
      → Agree (slate es environment names) (first_slating_fault (map fate_of es)) (fate_picks (map fate_of es))
  agree k [] names front rises known = refl
  agree k (e ∷ es) names front rises known =
      let name = e.1.name in
      let rest = first_active es environment in
      turn e.0 e.1 (standing e.1 environment) (is_among names name) (has_conflict e.1) (first name) (map fate_of es) (slate es environment names) (slate es environment (name ∷ names))
      (λ skipped. agree (e.0 + 1) es names front rises.1 (record {
        among = known.among;
        whole = λ q. known.whole q ∙ ap (λ s. either (front q) (cond (stands_active s && bytes_eq q name) (Some e.0) (rest q))) skipped;
        below = λ q. below_more (front q) e.0 k rises.0 (known.below q);
      }))
      (λ active unshared. agree (e.0 + 1) es (name ∷ names) (λ q. either (front q) (cond (bytes_eq q name) (Some e.0) None)) rises.1 (record {
        among = λ q. ap (λ b. bytes_eq q name || b) (known.among q) ∙ is_some_either (front q) (bytes_eq q name) e.0;
        whole = λ q. known.whole q ∙ ap (λ s. either (front q) (cond (stands_active s && bytes_eq q name) (Some e.0) (rest q))) active ∙ either_cond (front q) (bytes_eq q name) e.0 (rest q);
        below = λ q. below_either (front q) (bytes_eq q name) e.0 k rises.0 (known.below q);
      }))
      (λ shared. shared_below (front name) k e.0 _ (first name) rises.0 (known.whole name) (known.below name) (sym (known.among name) ∙ shared))
      (λ active alone. unshared (front name) _ (first name) (known.whole name) (sym (known.among name) ∙ alone)
      ∙ ap (λ s. cond (stands_active s && bytes_eq name name) (Some e.0) (rest name)) active ∙ ap (λ b. cond b (Some e.0) (rest name)) (text_itself name))

pub fates_give : (state : State) → NumbersRise state → answer state ≡ explained_answer state
fates_give state rises =
    ap (λ made. answer_after (head_fault state.head state.environment) (answer_by made))
    (agree_after state.environment state.tags state.policies (first_active state.entries state.environment) _ _ _
    (agree state.environment state.tags state.policies (first_active state.entries state.environment) 1 state.entries [] (λ q. None) rises (record {
      among = λ q. refl;
      whole = λ q. refl;
      below = λ q. tt;
    })))
