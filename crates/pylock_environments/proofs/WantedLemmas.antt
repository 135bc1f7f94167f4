-- What is wanted of markers and specifiers wherever an entry stands, or is narrower.
use Rattle.std.proofs.Common.{◌≡◌, ℕ, Bool, true, false, cond, ◌&&◌, List, [], ◌∷◌, Option, Some, None, Result, Ok, Err, refl}
use Rattle.std.specs.List.{All, list_all}
use Rattle.std.proofs.lemmas.List.Elements.{All-cons, All-nil, All-weaker, All-head, All-tail}
use Rattle.pytext.specs.Options.{either}
use Rattle.pyver_core.specs.Set.Admission.{admits, admits_all}
use Rattle.pyver_core.specs.Parsed.{parsed_version}
use Rattle.pyver_core.specs.Version.Parts.{Parts}
use Rattle.pyver_core.specs.declared.set.specifier.Specifier.{Specifier}
use Rattle.pyver_core.specs.declared.version.error.VersionError.{VersionError}
use Rattle.pymark_core.specs.Environment.{EnvironmentValue, variable_in}
use Rattle.pymark_core.specs.Marker.Reading.{MarkerValue}
use Rattle.pymark_core.specs.Marker.Value.{marker_value}
use Rattle.pymark_core.specs.declared.fault.EvalFault.{EvalFault}
use Rattle.pymark_core.specs.declared.variable.Var.TheVariants.{PythonFullVersion}
use Rattle.pymark_algebra.specs.Questions.{Has}
use Rattle.pylock_core.specs.Session.Steps.{by_marker, fault_code, python_check, text_check, version_check}
use Rattle.pylock_core.specs.declared.answer.FaultCode.{FaultCode}
use Rattle.pylock_core.specs.declared.answer.FaultCode.TheVariants.{PythonNotMet, PythonUnknown}
use Rattle.pylock_core.specs.declared.answer.Standing.TheVariants.{Skipped, Faulty, Active}
use Rattle.pymark_algebra.specs.Questions.{PythonSays}
use Rattle.pylock_environments.specs.Environments.{IsMarked}

-- ---- markers

by_active : (v : Result Bool EvalFault) → by_marker v Active ≡ Active → v ≡ Ok true
by_active (Ok true) is = refl
by_active (Ok false) is = let no : Skipped ≡ Active = is in absurd cc
by_active (Err f) is = let no : Faulty (fault_code f) ≡ Active = is in absurd cc

pub has_true : (m : MarkerValue) (e : EnvironmentValue) → IsMarked (Some m) e → Has e m.tree true
has_true m e is = by_active (marker_value e m.tree) is

-- ---- specifiers

and_true : (a b : Bool) → (a && b) ≡ true → (a ≡ true) × (b ≡ true)
and_true true b is = (refl, is)
and_true false b is = absurd cc

all_admit : (set : List Specifier) (v : Parts) → list_all (λ s. admits s v) set ≡ true → All (λ s. admits s v ≡ true) set
all_admit [] v is = All-nil _
all_admit (s ∷ set) v is =
    let each = and_true (admits s v) (list_all (λ s. admits s v) set) is in
    All-cons (λ s. admits s v ≡ true) s set each.0 (all_admit set v each.1)

none_refuses : (set : List Specifier) (v : Parts) → All (λ s. admits s v ≡ false → ⊥) set → list_all (λ s. admits s v) set ≡ true
none_refuses [] v not = refl
none_refuses (s ∷ set) v not =
    at (admits s v) (All-head (λ s. admits s v ≡ false → ⊥) s set not) (none_refuses set v (All-tail (λ s. admits s v ≡ false → ⊥) s set not))
  where
    at : (b : Bool) → (b ≡ false → ⊥) → list_all (λ s. admits s v) set ≡ true → (b && list_all (λ s. admits s v) set) ≡ true
    at true not rest = rest
    at false not rest = absurd (not refl)

module _ (set : List Specifier) (e : EnvironmentValue) where
  cond_none : (b : Bool) → cond b None (Some PythonNotMet) ≡ None → b ≡ true
  cond_none true is = refl
  cond_none false is = let no : Some PythonNotMet ≡ None = is in absurd cc

  cond_some : (b : Bool) → cond b None (Some PythonNotMet) ≡ Some PythonNotMet → b ≡ false
  cond_some true is = let no : ◌≡◌ {A = Option FaultCode} None (Some PythonNotMet) = is in absurd cc
  cond_some false is = refl

  says_by_version : (text : List ℕ) (r : Result Parts VersionError) → variable_in PythonFullVersion e ≡ Some text → parsed_version text ≡ r
      → version_check set r ≡ None → All (λ s. PythonSays e s true) set
  says_by_version text (Err error) has read is = let no : Some PythonUnknown ≡ None = is in absurd cc
  says_by_version text (Ok v) has read is =
      All-weaker (λ s. admits s v ≡ true) (λ s. PythonSays e s true) (λ s admitted. (text, v, has, read, admitted)) set
      (all_admit set v (cond_none (admits_all set v) is))

  says_by_text : (t : Option (List ℕ)) → variable_in PythonFullVersion e ≡ t → text_check set t ≡ None → All (λ s. PythonSays e s true) set
  says_by_text None has is = let no : Some PythonUnknown ≡ None = is in absurd cc
  says_by_text (Some text) has is = says_by_version text (parsed_version text) has refl is

  -- where the check has no fault each specifier admits the Python
  pub each_admits : python_check (Some set) e ≡ None → All (λ s. PythonSays e s true) set
  each_admits is = says_by_text (variable_in PythonFullVersion e) refl is

  refuses_by_version : (text : List ℕ) (r : Result Parts VersionError) → variable_in PythonFullVersion e ≡ Some text → parsed_version text ≡ r
      → version_check set r ≡ Some PythonNotMet → All (λ s. PythonSays e s false → ⊥) set → ⊥
  refuses_by_version text (Err error) has read is not = let no : Some PythonUnknown ≡ Some PythonNotMet = is in cc
  refuses_by_version text (Ok v) has read is not =
      let all : admits_all set v ≡ true =
      none_refuses set v (All-weaker (λ s. PythonSays e s false → ⊥) (λ s. admits s v ≡ false → ⊥) (λ s never refused. never (text, v, has, read, refused)) set not) in
      let some : admits_all set v ≡ false = cond_some (admits_all set v) is in cc

  refuses_by_text : (t : Option (List ℕ)) → variable_in PythonFullVersion e ≡ t → text_check set t ≡ Some PythonNotMet
      → All (λ s. PythonSays e s false → ⊥) set → ⊥
  refuses_by_text None has is not = let no : Some PythonUnknown ≡ Some PythonNotMet = is in cc
  refuses_by_text (Some text) has is not = refuses_by_version text (parsed_version text) has refl is not

  -- where the set doesn't admit the Python one of its specifiers doesn't
  pub one_refuses : python_check (Some set) e ≡ Some PythonNotMet → All (λ s. PythonSays e s false → ⊥) set → ⊥
  one_refuses is not = refuses_by_text (variable_in PythonFullVersion e) refl is not

-- ---- the head

-- neither of two is there
pub neither : {A : Type 0} (a b : Option A) → either a b ≡ None → (a ≡ None) × (b ≡ None)
neither None b is = (refl, is)
neither (Some x) b is = let no : Some x ≡ None = is in absurd cc
