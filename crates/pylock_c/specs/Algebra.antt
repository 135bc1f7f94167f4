-- Questions of C about every version and every environment.
use Rattle.std.specs.Prelude.{ℤ, pos, false, true, IsTrue, List, Option, Some, Result, Ok}
use Rattle.std.specs.Result.{result_map_both}
use Rattle.pytext.specs.Results.{◌>>=◌}
use Rattle.pyver_core.specs.Set.Admission.{admits_all}
use Rattle.pyver_core.specs.Version.Normal.{normal_text}
use Rattle.pyver_core.specs.declared.set.specifier.Specifier.{Specifier}
use Rattle.pyver_algebra.specs.Sets.{HaveNothingInCommon, IsEmpty, LiesIn, Says}
use Rattle.pyver_algebra.specs.declared.sets.Answer.{Answer as SetAnswer}
use Rattle.pyver_algebra.specs.declared.sets.Answer.TheVariants as of_set
use Rattle.pymark_core.specs.Marker.Reading.{MarkerValue}
use Rattle.pymark_algebra.specs.Questions.{Has, SaysNever}
use Rattle.pymark_algebra.specs.declared.answer.Answer.{Answer as MarkerAnswer}
use Rattle.pymark_algebra.specs.declared.answer.Answer.TheVariants as of_marker
use Rattle.pylock_c.specs.Answered.{IsAnswered}
use Rattle.pylock_c.specs.Markers.{marker_in}
use Rattle.pylock_c.specs.Sets.{set_in}
use Rattle.pylock_slots.specs.Answer.{Tells}
use Rattle.pylock_slots.specs.declared.object.Object.{Object}
use Rattle.pylock_slots.specs.declared.object.Object.TheVariants as kind
use Rattle.pylock_slots.specs.declared.refusal.Refusal.{Refusal}

-- ---- what is asked, and what the answer says

abbrev pub sets_in : Option Object → Option Object
    → Result (List Specifier × List Specifier) Refusal
sets_in first second = do
  first ← set_in first
  second ← set_in second
  Ok (first, second)

abbrev pub markers_in : Option Object → Option Object → Result (MarkerValue × MarkerValue) Refusal
markers_in first second = do
  first ← marker_in first
  second ← marker_in second
  Ok (first, second)

-- yes: the second set admits each version that the first one does; no: one that it doesn't
abbrev pub SaysSubset : List Specifier × List Specifier → SetAnswer → Type 0
SaysSubset sets answer = Says answer (LiesIn sets.0 sets.1)
    (λ v. IsTrue (admits_all sets.0 v) × (IsTrue (admits_all sets.1 v) → ⊥))

-- yes: no version is admitted by both; no: one that is
abbrev pub SaysDisjoint : List Specifier × List Specifier → SetAnswer → Type 0
SaysDisjoint sets answer = Says answer (HaveNothingInCommon sets.0 sets.1)
    (λ v. IsTrue (admits_all sets.0 v) × IsTrue (admits_all sets.1 v))

-- yes: the set admits no version; no: one that it admits
abbrev pub SaysUnsatisfiable : List Specifier → SetAnswer → Type 0
SaysUnsatisfiable set answer = Says answer (IsEmpty set) (λ v. IsTrue (admits_all set v))

-- yes: in no coherent environment are both markers true; no: one in which they are
abbrev pub SaysNeverBoth : MarkerValue × MarkerValue → MarkerAnswer → Type 0
SaysNeverBoth markers answer = SaysNever
    (λ environment. Has environment markers.0.tree true × Has environment markers.1.tree true)
    answer

-- yes: in no coherent environment is the first marker true and the second one false; no: one in
-- which they are
abbrev pub SaysImplied : MarkerValue × MarkerValue → MarkerAnswer → Type 0
SaysImplied markers answer = SaysNever
    (λ environment. Has environment markers.0.tree true × Has environment markers.1.tree false)
    answer

-- yes: in no coherent environment is the marker true; no: one in which it is
abbrev pub SaysNeverTrue : MarkerValue → MarkerAnswer → Type 0
SaysNeverTrue marker answer = SaysNever (λ environment. Has environment marker.tree true) answer

-- yes: in no coherent environment is the marker false; no: one in which it is
abbrev pub SaysNeverFalse : MarkerValue → MarkerAnswer → Type 0
SaysNeverFalse marker answer = SaysNever (λ environment. Has environment marker.tree false) answer

-- ---- an answer as C has it: what the slot of the witness keeps, and a number

-- yes is 1, no is 0 with the normal form of its version, undecided is 2; where no version shows
-- anything, the slot stays
abbrev pub version_told : Option Object × ℤ → SetAnswer → Option Object × ℤ
version_told old of_set.Yes = (old.0, pos 1)
version_told old (of_set.No version) = (Some (kind.Text (normal_text version)), pos 0)
version_told old of_set.Undecided = (old.0, pos 2)

-- the same of an environment, which is kept as it is
abbrev pub environment_told : Option Object × ℤ → MarkerAnswer → Option Object × ℤ
environment_told old of_marker.Yes = (old.0, pos 1)
environment_told old (of_marker.No environment) = (Some (kind.Environment environment), pos 0)
environment_told old of_marker.Undecided = (old.0, pos 2)

-- what is told of an outcome
abbrev pub told_of : {A X : Type 0} → (A → X) → Result A Refusal → Result X Refusal
told_of told outcome = result_map_both told (λ refusal. refusal) outcome

-- An answer is found, and C is told of it; a refusal leaves the slot and the number.
abbrev pub Answers : {K A X : Type 0} → Result K Refusal → (K → A → Type 0) → (X → A → X) → X → X
    → ℤ → Type 0
Answers {A = A} kept says told old new code = (outcome : Result A Refusal)
    × IsAnswered kept says outcome
    × Tells (told_of (told old) outcome) old new code
