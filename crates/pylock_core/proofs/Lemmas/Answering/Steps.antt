-- Lemmas on the installation steps over the rows of a session.
use Rattle.std.proofs.Common.{[], ◌≡◌, ℕ, zero, suc, ◌+◌, ◌<◌, Bool, true, false, ◌||◌, nat_eq, List, ◌∷◌, ◌++◌, length, drop, get_or, Option, Some, None, Result, Ok, Err, cond, ◌∙◌, ap, refl, sym, arith, is_some, option_map}
use Rattle.std.proofs.lemmas.List.{drop_more}
use Rattle.pylock_core.specs.Inner.Answering.Steps.{AreSlated, active_rows, and_row, checked_standing, fault_in, has_number, numbered, pick_rows, put_row, row_standing, slate_rows, slated_after, picks_after_rows}
use Rattle.pylock_core.specs.Inner.Tables.Rows.{row_at, file_source, row_source, source_among}
use Rattle.pylock_core.specs.Inner.Parts.{OfRows, IsJudged, IsNamed, IsSession, sources_of, state_of}
use Rattle.pylock_core.specs.Session.State.{in_rows, is_among, policy_of}
use Rattle.pylock_core.specs.Session.Judgement.{numbers_where}
use Rattle.pylock_readers.specs.Entry.{EntryValue, FileValue, VcsValue, DirectoryValue, ArchiveValue}
use Rattle.pylock_core.specs.Session.Steps.{FirstFault, by_standing, answer, answer_after, answer_by, best_wheel, pick_before, picks, picks_after, put_before, sdist_source, slate, source_of, standing}
use Rattle.pylock_core.specs.declared.answer.FaultCode.{FaultCode}
use Rattle.pylock_core.specs.declared.answer.Pick.{Pick}
use Rattle.pylock_core.specs.declared.answer.Standing.{Standing}
use Rattle.pylock_core.specs.declared.answer.Standing.TheVariants.{Skipped, Faulty, Active}
use Rattle.pylock_core.specs.declared.edit.Policy.{Policy}
use Rattle.pylock_core.specs.declared.session.tables.rows.Row.{Row}
use Rattle.pytext.specs.Options.{either}
use Rattle.pymark_core.specs.Environment.{EnvironmentValue}
use Rattle.pywheel_core.specs.Tag.{TagValue}
use Rattle.pylock_core.specs.Inner.Tables.Names.{IsNames, number_named, policies_in, policy_at}
use Rattle.pylock_readers.specs.Entry.Kinds.{has_conflict}
use Rattle.pylock_core.specs.declared.answer.FaultCode.TheVariants.{Ambiguous, Sources as ManySources}
use Rattle.pylock_core.specs.declared.answer.PickSource.TheVariants as source
use Rattle.pylock_core.specs.declared.edit.Policy.TheVariants.{Any, Wheel, Source}
use Rattle.pylock_core.specs.declared.session.tables.names.Names.{Names}
use Rattle.pylock_core.specs.declared.session.parts.Parts.{Parts}
use Rattle.pylock_core.proofs.Lemmas.Tables.Rows.{of_rows_and}
use Rattle.pylock_core.proofs.Lemmas.Parts.{policy_here, NamedAndJudged}
use Rattle.pylock_core.proofs.Lemmas.Tables.Names.{same_number}

-- ---- names that are slated

pub one_slated : (slated more : ℕ → Bool) (names : List ℕ) (name : ℕ) → ((n : ℕ) → more n ≡ (nat_eq n name || slated n)) → AreSlated slated names → AreSlated more (name ∷ names)
one_slated slated more names name grows is n = grows n ∙ ap (λ b. nat_eq n name || b) (is n)

-- ---- step 5

-- these names are slated, and the rows that are left have the fault that all have
abbrev pub Slating : List (ℕ × Row) → List (ℕ × Row) → (ℕ → Bool) → Type 0
Slating all rest slated =
    (names : List ℕ) × (AreSlated slated names) × (fault_in (slate_rows rest names) ≡ fault_in (slate_rows all []))

fault_put : (e : ℕ × Row) (slated : Result (List (ℕ × Row)) FirstFault) → fault_in (put_row e slated) ≡ fault_in slated
fault_put e (Ok slated) = refl
fault_put e (Err fault) = refl

-- the rows from a place of the numbers on, where a row stands under the number there, or none does
pub numbered_some : (rows : List (Option Row)) (numbers : List ℕ) (i : ℕ) (row : Row) → i < length numbers → row_at rows (get_or numbers i 0) ≡ Some row
    → numbered rows (drop i numbers) ≡ (get_or numbers i 0, row) ∷ numbered rows (drop (i + 1) numbers)
numbered_some rows numbers i row within is =
    ap (numbered rows) (drop_more numbers i 0 within) ∙ ap (λ found. and_row (get_or numbers i 0) found (numbered rows (drop (i + 1) numbers))) is

pub numbered_none : (rows : List (Option Row)) (numbers : List ℕ) (i : ℕ) → i < length numbers → row_at rows (get_or numbers i 0) ≡ None
    → numbered rows (drop i numbers) ≡ numbered rows (drop (i + 1) numbers)
numbered_none rows numbers i within is =
    ap (numbered rows) (drop_more numbers i 0 within) ∙ ap (λ found. and_row (get_or numbers i 0) found (numbered rows (drop (i + 1) numbers))) is

-- a row that is skipped, one that is slated, one that has a fault
pub slating_skipped : (all rest : List (ℕ × Row)) (slated : ℕ → Bool) (n : ℕ) (row : Row) → row_standing row (slated row.name) ≡ Skipped
    → Slating all ((n, row) ∷ rest) slated → Slating all rest slated
slating_skipped all rest slated n row is s =
    let standing : row_standing row (has_number s.0 row.name) ≡ Skipped = ap (row_standing row) (sym (s.1 row.name)) ∙ is in
    (s.0, s.1, sym (rw standing refl) ∙ s.2)

pub slating_active : (all rest : List (ℕ × Row)) (slated more : ℕ → Bool) (n : ℕ) (row : Row) → row_standing row (slated row.name) ≡ Active
    → ((n : ℕ) → more n ≡ (nat_eq n row.name || slated n)) → Slating all ((n, row) ∷ rest) slated → Slating all rest more
slating_active all rest slated more n row is grows s =
    let standing : row_standing row (has_number s.0 row.name) ≡ Active = ap (row_standing row) (sym (s.1 row.name)) ∙ is in
    (row.name ∷ s.0, one_slated slated more s.0 row.name grows s.1, sym (fault_put (n, row) (slate_rows rest (row.name ∷ s.0))) ∙ sym (rw standing refl) ∙ s.2)

pub slating_faulty : (all rest : List (ℕ × Row)) (slated : ℕ → Bool) (n : ℕ) (row : Row) (code : FaultCode) → row_standing row (slated row.name) ≡ Faulty code
    → Slating all ((n, row) ∷ rest) slated → Some (n, code) ≡ fault_in (slate_rows all [])
slating_faulty all rest slated n row code is s =
    let standing : row_standing row (has_number s.0 row.name) ≡ Faulty code = ap (row_standing row) (sym (s.1 row.name)) ∙ is in
    sym (rw standing refl) ∙ s.2

-- where step 5 has no fault, the active rows are slated
put_slated : (e : ℕ × Row) (rest : List (ℕ × Row)) (later : Result (List (ℕ × Row)) FirstFault) → (fault_in later ≡ None → later ≡ Ok rest)
    → fault_in (put_row e later) ≡ None → put_row e later ≡ Ok (e ∷ rest)
put_slated e rest (Ok slated) h none = ap (put_row e) (h refl)
put_slated e rest (Err fault) h none = absurd cc

slated_row : (s : Standing) (shared conflict : Bool) (e : ℕ × Row) (skipped later : Result (List (ℕ × Row)) FirstFault) (rest : List (ℕ × Row))
    → (fault_in skipped ≡ None → skipped ≡ Ok rest) → (fault_in later ≡ None → later ≡ Ok rest)
    → fault_in (by_standing (by_standing s Skipped Faulty (checked_standing shared conflict)) skipped (λ code. Err (e.0, code)) (put_row e later)) ≡ None
    → by_standing (by_standing s Skipped Faulty (checked_standing shared conflict)) skipped (λ code. Err (e.0, code)) (put_row e later)
    ≡ Ok (cond (by_standing s false (λ code. false) true) (e ∷ rest) rest)
slated_row Skipped shared conflict e skipped later rest h k none = h none
slated_row (Faulty code) shared conflict e skipped later rest h k none = absurd cc
slated_row Active true conflict e skipped later rest h k none = absurd cc
slated_row Active false true e skipped later rest h k none = absurd cc
slated_row Active false false e skipped later rest h k none = put_slated e rest later k none

pub slated_active : (es : List (ℕ × Row)) (names : List ℕ) → fault_in (slate_rows es names) ≡ None → slate_rows es names ≡ Ok (active_rows es)
slated_active [] names none = refl
slated_active (e ∷ es) names none =
    slated_row e.1.verdict.standing (has_number names e.1.name) e.1.sources.conflict e (slate_rows es names) (slate_rows es (e.1.name ∷ names)) (active_rows es)
    (slated_active es names) (slated_active es (e.1.name ∷ names)) none

-- ---- rows by their numbers

-- what holds of each row holds of that of a number
pub of_row : (P : Row → Type 0) (rows : List (Option Row)) → ((k : ℕ) (row : Row) → get_or rows k None ≡ Some row → P row)
    → (n : ℕ) (row : Row) → row_at rows n ≡ Some row → P row
of_row P rows each zero row is = absurd cc
of_row P rows each (suc k) row is = each k row is

-- a turn that has no fault
pub slating_on : (all rest : List (ℕ × Row)) (slated more : ℕ → Bool) (n : ℕ) (row : Row) (standing : Standing)
    → ((code : FaultCode) → standing ≡ Faulty code → ⊥) → row_standing row (slated row.name) ≡ standing
    → ((n : ℕ) → more n ≡ slated_after standing slated row.name n) → Slating all ((n, row) ∷ rest) slated → Slating all rest more
slating_on all rest slated more n row Skipped other is grows s =
    let t = slating_skipped all rest slated n row is s in
    (t.0, (λ m. grows m ∙ t.1 m), t.2)
slating_on all rest slated more n row (Faulty code) other is grows s = absurd (other code refl)
slating_on all rest slated more n row Active other is grows s = slating_active all rest slated more n row is grows s

-- ---- step 6

-- the picks that were made, and then those of the rest
abbrev pub then_picks : List Pick → Result (List Pick) FirstFault → Result (List Pick) FirstFault
then_picks made (Err fault) = Err fault
then_picks made (Ok rest) = Ok (made ++ rest)

-- the picks that were made, with those of the rows that are left, are those of all
abbrev pub Picking : List Policy → List (ℕ × Row) → List (ℕ × Row) → List Pick → Type 0
Picking policies all rest made =
    then_picks made (pick_rows (active_rows rest) policies) ≡ pick_rows (active_rows all) policies

pub picking_first : (policies : List Policy) (all : List (ℕ × Row)) (made : List Pick) → made ≡ [] → Picking policies all all made
picking_first policies all made is = ap (λ front. then_picks front (pick_rows (active_rows all) policies)) is ∙ by (pick_rows (active_rows all) policies)
  where
    by : (picks : Result (List Pick) FirstFault) → then_picks [] picks ≡ picks
    by (Err fault) = refl
    by (Ok picks) = refl

-- ---- the rows that stand

next_row : (rows : List (Option Row)) (place : ℕ) → row_at rows (place + 1) ≡ get_or rows place None
next_row rows place = let same : place + 1 ≡ suc place = omega arith in ap (row_at rows) same

-- the rows of the numbers of the entries that stand are all that stand
living_rows : (P : EntryValue → Row → Type 0) (full : List (Option Row)) (m : ℕ) (es : List (Option EntryValue)) (rs : List (Option Row)) → OfRows P es rs
    → ((k n : ℕ) → n ≡ m + k → get_or full n None ≡ get_or rs k None)
    → numbered full (numbers_where (λ entry. true) (in_rows (m + 1) es)) ≡ in_rows (m + 1) rs
living_rows P full m [] [] h at = refl
living_rows P full m [] (r ∷ rs) h at = absurd h
living_rows P full m (e ∷ es) [] h at = absurd h
living_rows P full m (None ∷ es) (None ∷ rs) h at = living_rows P full (m + 1) es rs h.1 (λ k n is. at (suc k) n (omega (arith, is)))
living_rows P full m (None ∷ es) (Some r ∷ rs) h at = absurd h.0
living_rows P full m (Some e ∷ es) (None ∷ rs) h at = absurd h.0
living_rows P full m (Some e ∷ es) (Some r ∷ rs) h at =
    ap (λ row. and_row (m + 1) row (numbered full (numbers_where (λ entry. true) (in_rows (m + 1 + 1) es)))) (next_row full m ∙ at 0 m (omega arith))
    ∙ ap (λ rest. (m + 1, r) ∷ rest) (living_rows P full (m + 1) es rs h.1 (λ k n is. at (suc k) n (omega (arith, is))))

pub session_rows : (parts : Parts) → IsSession parts → numbered parts.rows.items parts.living.items ≡ in_rows 1 parts.rows.items
session_rows parts s =
    ap (numbered parts.rows.items) s.living
    ∙ living_rows (IsNamed parts.names) parts.rows.items 0 parts.entries.items parts.rows.items s.named (λ k n is. let same : n ≡ k = omega (arith, is) in ap (λ place. get_or parts.rows.items place None) same)

abbrev Pairs : Names → EnvironmentValue → List TagValue → List (ℕ × EntryValue) → List (ℕ × Row) → Type 0
Pairs names environment tags [] [] = Unit {0}
Pairs names environment tags [] (y ∷ ys) = ⊥
Pairs names environment tags (x ∷ xs) [] = ⊥
Pairs names environment tags (x ∷ xs) (y ∷ ys) = (x.0 ≡ y.0) × NamedAndJudged names environment tags x.1 y.1 × Pairs names environment tags xs ys

abbrev SameSlated : Names → EnvironmentValue → List TagValue → Result (List (ℕ × EntryValue)) FirstFault → Result (List (ℕ × Row)) FirstFault → Type 0
SameSlated names environment tags (Ok xs) (Ok ys) = Pairs names environment tags xs ys
SameSlated names environment tags (Ok xs) (Err g) = ⊥
SameSlated names environment tags (Err f) (Ok ys) = ⊥
SameSlated names environment tags (Err f) (Err g) = f ≡ g

put_same : (names : Names) (environment : EnvironmentValue) (tags : List TagValue) (n : ℕ) (e : EntryValue) (r : Row) → NamedAndJudged names environment tags e r
    → (a : Result (List (ℕ × EntryValue)) FirstFault) (b : Result (List (ℕ × Row)) FirstFault) → SameSlated names environment tags a b
    → SameSlated names environment tags (put_before (n, e) a) (put_row (n, r) b)
put_same names environment tags n e r both (Ok xs) (Ok ys) h = (refl, both, h)
put_same names environment tags n e r both (Ok xs) (Err g) h = absurd h
put_same names environment tags n e r both (Err f) (Ok ys) h = absurd h
put_same names environment tags n e r both (Err f) (Err g) h = h

stand_same : (names : Names) (environment : EnvironmentValue) (tags : List TagValue) (n : ℕ) (e : EntryValue) (r : Row) → NamedAndJudged names environment tags e r
    → (s : Standing) (shared conflict : Bool)
    → (a c : Result (List (ℕ × EntryValue)) FirstFault) (b d : Result (List (ℕ × Row)) FirstFault) → SameSlated names environment tags a b → SameSlated names environment tags c d
    → SameSlated names environment tags
    (by_standing s a (λ code. Err (n, code)) (cond shared (Err (n, Ambiguous)) (cond conflict (Err (n, ManySources)) (put_before (n, e) c))))
    (by_standing (by_standing s Skipped Faulty (checked_standing shared conflict)) b (λ code. Err (n, code)) (put_row (n, r) d))
stand_same names environment tags n e r both Skipped shared conflict a c b d h k = h
stand_same names environment tags n e r both (Faulty code) shared conflict a c b d h k = refl
stand_same names environment tags n e r both Active true conflict a c b d h k = refl
stand_same names environment tags n e r both Active false true a c b d h k = refl
stand_same names environment tags n e r both Active false false a c b d h k = put_same names environment tags n e r both c d k

stand_equal : (names : Names) (environment : EnvironmentValue) (tags : List TagValue) (n : ℕ) (e : EntryValue) (r : Row) → NamedAndJudged names environment tags e r
    → (s t : Standing) → t ≡ s → (shared other : Bool) → other ≡ shared → (conflict also : Bool) → also ≡ conflict
    → (a c : Result (List (ℕ × EntryValue)) FirstFault) (b d : Result (List (ℕ × Row)) FirstFault) → SameSlated names environment tags a b → SameSlated names environment tags c d
    → SameSlated names environment tags
    (by_standing s a (λ code. Err (n, code)) (cond shared (Err (n, Ambiguous)) (cond conflict (Err (n, ManySources)) (put_before (n, e) c))))
    (by_standing (by_standing t Skipped Faulty (checked_standing other also)) b (λ code. Err (n, code)) (put_row (n, r) d))
stand_equal names environment tags n e r both s t st shared other so conflict also ca a c b d h k =
    rw (st, so, ca) (stand_same names environment tags n e r both s shared conflict a c b d h k)

-- names and numbers that stand for each other
abbrev SameNames : Names → List (List ℕ) → List ℕ → Type 0
SameNames names ns ms = (q : List ℕ) (n : ℕ) → number_named names q ≡ Some n → is_among ns q ≡ has_number ms n

more_names : (names : Names) → IsNames names → (ns : List (List ℕ)) (ms : List ℕ) (p : List ℕ) (m : ℕ) → number_named names p ≡ Some m → SameNames names ns ms → SameNames names (p ∷ ns) (m ∷ ms)
more_names names is ns ms p m has h q n has_q =
    ap (λ b. b || is_among ns q) (same_number names is q p n m has_q has) ∙ ap (λ b. nat_eq n m || b) (h q n has_q)

slate_same : (names : Names) (environment : EnvironmentValue) (tags : List TagValue) → IsNames names → (es : List (Option EntryValue)) (rs : List (Option Row)) (k : ℕ) (ns : List (List ℕ)) (ms : List ℕ)
    → OfRows (NamedAndJudged names environment tags) es rs → SameNames names ns ms
    → SameSlated names environment tags (slate (in_rows k es) environment ns) (slate_rows (in_rows k rs) ms)
slate_same names environment tags is [] [] k ns ms h same = tt
slate_same names environment tags is [] (r ∷ rs) k ns ms h same = absurd h
slate_same names environment tags is (e ∷ es) [] k ns ms h same = absurd h
slate_same names environment tags is (None ∷ es) (None ∷ rs) k ns ms h same = slate_same names environment tags is es rs (k + 1) ns ms h.1 same
slate_same names environment tags is (None ∷ es) (Some r ∷ rs) k ns ms h same = absurd h.0
slate_same names environment tags is (Some e ∷ es) (None ∷ rs) k ns ms h same = absurd h.0
slate_same names environment tags is (Some e ∷ es) (Some r ∷ rs) k ns ms h same =
    let stands : r.verdict.standing ≡ standing e environment = ap (λ v. v.standing) h.0.1 in
    let conflict : r.sources.conflict ≡ has_conflict e = ap (λ s. s.conflict) h.0.0.sources in
    let shared : has_number ms r.name ≡ is_among ns e.name = sym (same e.name r.name h.0.0.name) in
    let later = slate_same names environment tags is es rs (k + 1) ns ms h.1 same in
    let after = slate_same names environment tags is es rs (k + 1) (e.name ∷ ns) (r.name ∷ ms) h.1 (more_names names is ns ms e.name r.name h.0.0.name same) in
    stand_equal names environment tags k e r h.0 (standing e environment) r.verdict.standing stands (is_among ns e.name) (has_number ms r.name) shared (has_conflict e) r.sources.conflict conflict
    (slate (in_rows (k + 1) es) environment ns) (slate (in_rows (k + 1) es) environment (e.name ∷ ns)) (slate_rows (in_rows (k + 1) rs) ms) (slate_rows (in_rows (k + 1) rs) (r.name ∷ ms)) later after

sdist_same : (file : Option FileValue) (policy : Policy) (e : EntryValue) → e.sdist ≡ file → sdist_source e policy ≡ file_source None (is_some file) policy
sdist_same None Any e is = ap (option_map (λ sdist. source.Sdist)) is
sdist_same None Wheel e is = refl
sdist_same None Source e is = ap (option_map (λ sdist. source.Sdist)) is
sdist_same (Some file) Any e is = ap (option_map (λ sdist. source.Sdist)) is
sdist_same (Some file) Wheel e is = refl
sdist_same (Some file) Source e is = ap (option_map (λ sdist. source.Sdist)) is

source_same : (e : EntryValue) (tags : List TagValue) (policy : Policy) → source_of e tags policy ≡ source_among (sources_of e) (best_wheel e tags policy) policy
source_same e tags policy = by e.vcs e.directory e.archive (best_wheel e tags policy)
  where
    by : (vcs : Option VcsValue) (directory : Option DirectoryValue) (archive : Option ArchiveValue) (best : Option ℕ)
        → either (option_map (λ vcs. source.Vcs) vcs) (either (option_map (λ directory. source.Directory) directory) (either (option_map (λ archive. source.Archive) archive) (either (option_map source.Wheel best) (sdist_source e policy))))
        ≡ source_among (record { vcs = is_some vcs; directory = is_some directory; archive = is_some archive; sdist = is_some e.sdist; conflict = has_conflict e }) best policy
    by (Some v) d a b = refl
    by None (Some d) a b = refl
    by None None (Some a) b = refl
    by None None None (Some b) = refl
    by None None None None = sdist_same e.sdist policy e refl

-- the source of an entry is that of its row
pub source_of_row : (names : Names) (environment : EnvironmentValue) (tags : List TagValue) (e : EntryValue) (r : Row) → NamedAndJudged names environment tags e r
    → source_of e tags (policy_of (policies_in names) e.name) ≡ row_source r (policy_at names.policies.items r.name)
source_of_row names environment tags e r h =
    let policy : policy_of (policies_in names) e.name ≡ policy_at names.policies.items r.name = policy_here names e.name r.name h.0.name in
    let best : best_wheel e tags (policy_at names.policies.items r.name) ≡ r.verdict.best = sym (ap (λ v. v.best) h.1) in
    ap (source_of e tags) policy ∙ source_same e tags (policy_at names.policies.items r.name)
    ∙ ap (λ s. source_among s (best_wheel e tags (policy_at names.policies.items r.name)) (policy_at names.policies.items r.name)) (sym h.0.sources)
    ∙ ap (λ b. source_among r.sources b (policy_at names.policies.items r.name)) best

picks_same : (names : Names) (environment : EnvironmentValue) (tags : List TagValue) (xs : List (ℕ × EntryValue)) (ys : List (ℕ × Row)) → Pairs names environment tags xs ys
    → picks xs tags (policies_in names) ≡ pick_rows ys names.policies.items
picks_same names environment tags [] [] h = refl
picks_same names environment tags [] (y ∷ ys) h = absurd h
picks_same names environment tags (x ∷ xs) [] h = absurd h
picks_same names environment tags (x ∷ xs) (y ∷ ys) h =
    let chosen : source_of x.1 tags (policy_of (policies_in names) x.1.name) ≡ row_source y.1 (policy_at names.policies.items y.1.name) = source_of_row names environment tags x.1 y.1 h.1 in
    ap (λ n. pick_before n (source_of x.1 tags (policy_of (policies_in names) x.1.name)) (picks xs tags (policies_in names))) h.0
    ∙ ap (λ s. pick_before y.0 s (picks xs tags (policies_in names))) chosen
    ∙ ap (pick_before y.0 (row_source y.1 (policy_at names.policies.items y.1.name))) (picks_same names environment tags xs ys h.2)

pub rows_answer : (names : Names) (environment : EnvironmentValue) (tags : List TagValue) → IsNames names → (es : List (Option EntryValue)) (rs : List (Option Row))
    → OfRows (IsNamed names) es rs → OfRows (IsJudged environment tags names.policies.items) es rs
    → answer_by (picks_after_rows (slate_rows (in_rows 1 rs) []) names.policies.items) ≡ answer_by (picks_after (slate (in_rows 1 es) environment []) tags (policies_in names))
rows_answer names environment tags is es rs named judged =
    ap answer_by (by (slate (in_rows 1 es) environment []) (slate_rows (in_rows 1 rs) [])
    (slate_same names environment tags is es rs 1 [] [] (of_rows_and (IsNamed names) (IsJudged environment tags names.policies.items) es rs named judged) (λ q n has. refl)))
  where
    by : (a : Result (List (ℕ × EntryValue)) FirstFault) (b : Result (List (ℕ × Row)) FirstFault) → SameSlated names environment tags a b
        → picks_after_rows b names.policies.items ≡ picks_after a tags (policies_in names)
    by (Ok xs) (Ok ys) h = sym (picks_same names environment tags xs ys h)
    by (Ok xs) (Err g) h = absurd h
    by (Err f) (Ok ys) h = absurd h
    by (Err f) (Err g) h = ap Err (sym h)

-- the answer of a session whose head has no fault
pub session_answer : (parts : Parts) → IsSession parts → parts.head_verdict ≡ None
    → answer_by (picks_after_rows (slate_rows (in_rows 1 parts.rows.items) []) parts.names.policies.items) ≡ answer (state_of parts)
session_answer parts s none =
    rows_answer parts.names parts.environment parts.tags s.names parts.entries.items parts.rows.items s.named s.judged
    ∙ ap (λ fault. answer_after fault (answer_by (picks_after (slate (in_rows 1 parts.entries.items) parts.environment []) parts.tags (policies_in parts.names)))) (sym none ∙ s.head)
