-- Lemmas on what verdicts read.
use Rattle.std.proofs.Common.{[], ◌≡◌, ℕ, ◌+◌, ◌<◌, length, drop, get_or, arith, Bool, true, false, ◌||◌, ◌&&◌, List, ◌∷◌, map, Option, Some, None, is_some, Result, Ok, Err, ◌∙◌, ap, refl, sym}
use Rattle.std.proofs.lemmas.List.{drop_more}
use Rattle.std.specs.List.{list_any}
use Rattle.pytext.specs.Options.{either}
use Rattle.pyver_core.specs.declared.set.specifier.Specifier.{Specifier}
use Rattle.pymark_core.specs.Environment.{EnvironmentValue, variable_in}
use Rattle.pymark_core.specs.Marker.Keys.{reads}
use Rattle.pymark_core.specs.Marker.Reading.{MarkerValue}
use Rattle.pymark_core.specs.Marker.Tree.{Tree}
use Rattle.pymark_core.specs.Marker.Value.{AgreeAt, marker_value}
use Rattle.pymark_core.specs.declared.marker.keys.Key.{Key}
use Rattle.pymark_core.specs.declared.marker.keys.Key.TheVariants.{Of}
use Rattle.pymark_core.specs.declared.variable.Var.TheVariants.{PythonFullVersion}
use Rattle.pylock_core.specs.Session.Judgement.{AgreeAtKey, IndexKey, Marked, OfTags, entry_reads, head_reads, is_python, marker_reads, verdict_of}
use Rattle.pywheel_core.specs.Choice.{best, best_from}
use Rattle.pywheel_core.specs.Tag.{TagValue}
use Rattle.pylock_readers.specs.Entry.{EntryValue, FileValue, wheel_name}
use Rattle.pylock_readers.specs.Lock.{HeadValue}
use Rattle.pylock_core.specs.Session.Steps.{best_wheel, by_check, by_marker, decided_by, environments_check, first_true, head_fault, marked_standing, python_check, standing, text_check}
use Rattle.pylock_readers.specs.Entry.Kinds.{is_any}
use Rattle.pymark_core.specs.declared.fault.EvalFault.{EvalFault}
use Rattle.pylock_core.specs.declared.answer.FaultCode.{FaultCode}
use Rattle.pylock_core.specs.declared.answer.Standing.{Standing}
use Rattle.pylock_core.specs.declared.answer.Standing.TheVariants.{Skipped, Faulty, Active}
use Rattle.pylock_core.specs.declared.edit.Policy.{Policy}
use Rattle.pylock_core.specs.declared.edit.Policy.TheVariants.{Any, Wheel, Source}

-- a marker reads nothing but its keys
abbrev pub MarkersRead : Type 0
MarkersRead = (tree : Tree) (e f : EnvironmentValue) → ((k : Key) → reads k tree ≡ true → AgreeAt k e f) → marker_value e tree ≡ marker_value f tree

or_left : (a b : Bool) → a ≡ true → (a || b) ≡ true
or_left a b is = rw is

or_right : (a b : Bool) → b ≡ true → (a || b) ≡ true
or_right true b is = refl
or_right false b is = is

check_same : (set : Option (List Specifier)) (e f : EnvironmentValue) → (is_some set ≡ true → variable_in PythonFullVersion e ≡ variable_in PythonFullVersion f)
    → python_check set e ≡ python_check set f
check_same None e f agree = refl
check_same (Some set) e f agree = ap (text_check set) (agree refl)

marked_same : MarkersRead → (marker : Option MarkerValue) (e f : EnvironmentValue) → ((k : Key) → marker_reads k marker ≡ true → AgreeAt k e f)
    → (one other : Standing) → one ≡ other → marked_standing marker e one ≡ marked_standing marker f other
marked_same reading None e f agree one other same = same
marked_same reading (Some m) e f agree one other same = ap (λ v. by_marker v one) (reading m.tree e f agree) ∙ ap (by_marker (marker_value f m.tree)) same

no_wheels : (files : List FileValue) (tags others : List TagValue) → (is_any files ≡ true → tags ≡ others) → best (map wheel_name files) tags ≡ best (map wheel_name files) others
unfolding best best_from
no_wheels [] tags others agree = refl
no_wheels (file ∷ files) tags others agree = ap (best (map wheel_name (file ∷ files))) (agree refl)

pub best_same : (entry : EntryValue) (policy : Policy) (tags others : List TagValue) → (is_any entry.wheels ≡ true → tags ≡ others) → best_wheel entry tags policy ≡ best_wheel entry others policy
best_same entry Any tags others agree = no_wheels entry.wheels tags others agree
best_same entry Wheel tags others agree = no_wheels entry.wheels tags others agree
best_same entry Source tags others agree = refl

pub entry_same : MarkersRead → (entry : EntryValue) (policy : Policy) (e f : EnvironmentValue) (tags others : List TagValue)
    → ((key : IndexKey) → entry_reads key entry ≡ true → AgreeAtKey key e f tags others)
    → verdict_of entry e tags policy ≡ verdict_of entry f others policy
entry_same reading entry policy e f tags others agree =
    let python : python_check entry.requires_python e ≡ python_check entry.requires_python f =
    check_same entry.requires_python e f (λ is. agree (Marked (Of PythonFullVersion)) (or_left (is_some entry.requires_python) (marker_reads (Of PythonFullVersion) entry.marker) is)) in
    let stands : standing entry e ≡ standing entry f =
    marked_same reading entry.marker e f (λ k is. agree (Marked k) (or_right (is_python k && is_some entry.requires_python) (marker_reads k entry.marker) is)) _ _ (ap by_check python) in
    let chosen : best_wheel entry tags policy ≡ best_wheel entry others policy = best_same entry policy tags others (agree OfTags) in
    λ i. record { standing = stands i; best = chosen i }

first_same : MarkersRead → (ms : List MarkerValue) (e f : EnvironmentValue) → ((k : Key) → list_any (λ m. reads k m.tree) ms ≡ true → AgreeAt k e f)
    → first_true ms e ≡ first_true ms f
first_same reading [] e f agree = refl
first_same reading (m ∷ ms) e f agree =
    ap (λ v. decided_by v (first_true ms e)) (reading m.tree e f (λ k is. agree k (or_left (reads k m.tree) (list_any (λ m. reads k m.tree) ms) is)))
    ∙ ap (decided_by (marker_value f m.tree)) (first_same reading ms e f (λ k is. agree k (or_right (reads k m.tree) (list_any (λ m. reads k m.tree) ms) is)))

environments_same : MarkersRead → (ms : List MarkerValue) (e f : EnvironmentValue) → ((k : Key) → list_any (λ m. reads k m.tree) ms ≡ true → AgreeAt k e f)
    → environments_check ms e ≡ environments_check ms f
environments_same reading [] e f agree = refl
environments_same reading (m ∷ ms) e f agree = first_same reading (m ∷ ms) e f agree

pub head_same : MarkersRead → (head : HeadValue) (e f : EnvironmentValue) (tags others : List TagValue)
    → ((key : IndexKey) → head_reads key head ≡ true → AgreeAtKey key e f tags others)
    → head_fault head e ≡ head_fault head f
head_same reading head e f tags others agree =
    ap (λ c. either c (environments_check head.environments e))
    (check_same head.requires_python e f (λ is. agree (Marked (Of PythonFullVersion)) (or_left (is_some head.requires_python) (list_any (λ m. reads (Of PythonFullVersion) m.tree) head.environments) is)))
    ∙ ap (either (python_check head.requires_python f))
    (environments_same reading head.environments e f (λ k is. agree (Marked k) (or_right (is_python k && is_some head.requires_python) (list_any (λ m. reads k m.tree) head.environments) is)))

-- a faulty marker decides
pub first_faulty : (v : Result Bool EvalFault) (rest : Option FaultCode) (code : FaultCode) → by_marker v Active ≡ Faulty code → decided_by v rest ≡ Some code
first_faulty (Ok true) rest code is = let e : ◌≡◌ {A = Standing} Active (Faulty code) = is in cc
first_faulty (Ok false) rest code is = let e : ◌≡◌ {A = Standing} Skipped (Faulty code) = is in cc
first_faulty (Err fault) rest code is = ap code_in is
  where
    code_in : Standing → Option FaultCode
    code_in Skipped = None
    code_in (Faulty c) = Some c
    code_in Active = None

any_decides : (ms : List MarkerValue) (e : EnvironmentValue) (i : ℕ) → i < length ms → first_true ms e ≡ environments_check ms e
any_decides [] e i within = absurd (omega arith)
any_decides (m ∷ ms) e i within = refl

pub faulty_here : (ms : List MarkerValue) (e : EnvironmentValue) (i : ℕ) (m : MarkerValue) (code : FaultCode) → i < length ms → m ≡ get_or ms i m
    → by_marker (marker_value e m.tree) Active ≡ Faulty code → first_true (drop i ms) e ≡ first_true ms e → Some code ≡ environments_check ms e
faulty_here ms e i m code within item is left =
    sym (first_faulty (marker_value e m.tree) (first_true (drop (i + 1) ms) e) code is)
    ∙ ap (λ rest. first_true rest e) (sym (drop_more ms i m within ∙ ap (λ front. front ∷ drop (i + 1) ms) (sym item)))
    ∙ left ∙ any_decides ms e i within
