-- How an entry stands, by its marker and by its Python check.
use Rattle.std.proofs.Common.{◌≡◌, ℕ, Bool, true, false, cond, List, Option, Some, None, Result, Ok, Err, refl}
use Rattle.pyver_core.specs.Set.Admission.{admits_all}
use Rattle.pyver_core.specs.Parsed.{parsed_version}
use Rattle.pyver_core.specs.Version.Parts.{Parts}
use Rattle.pyver_core.specs.declared.set.specifier.Specifier.{Specifier}
use Rattle.pyver_core.specs.declared.version.error.VersionError.{VersionError}
use Rattle.pymark_core.specs.Environment.{EnvironmentValue, variable_in}
use Rattle.pymark_core.specs.Marker.Reading.{MarkerValue}
use Rattle.pymark_core.specs.Marker.Value.{marker_value}
use Rattle.pymark_core.specs.declared.fault.EvalFault.{EvalFault}
use Rattle.pymark_core.specs.declared.fault.EvalFault.TheVariants as fault
use Rattle.pymark_core.specs.declared.variable.Var.TheVariants.{PythonFullVersion}
use Rattle.pylock_readers.specs.Entry.{EntryValue}
use Rattle.pylock_core.specs.Session.Steps.{by_check, by_marker, fault_code, marked_standing, python_check, standing, text_check, version_check}
use Rattle.pylock_core.specs.declared.answer.FaultCode.{FaultCode}
use Rattle.pylock_core.specs.declared.answer.FaultCode.TheVariants.{Ambiguous, PythonNotMet, PythonUnknown}
use Rattle.pylock_core.specs.declared.answer.Standing.TheVariants.{Skipped, Faulty, Active}
use Rattle.pylock_environments.specs.Environments.{IsMarked, IsNarrower, Stands}

-- ---- active

check_none : (check : Option FaultCode) → by_check check ≡ Active → check ≡ None
check_none None is = refl
check_none (Some code) is = let no : Faulty code ≡ Active = is in absurd cc

both_active : (v : Result Bool EvalFault) (check : Option FaultCode) → by_marker v (by_check check) ≡ Active → (by_marker v Active ≡ Active) × (check ≡ None)
both_active (Ok true) check is = (refl, check_none check is)
both_active (Ok false) check is = let no : Skipped ≡ Active = is in absurd cc
both_active (Err f) check is = let no : Faulty (fault_code f) ≡ Active = is in absurd cc

marked_active : (marker : Option MarkerValue) (e : EnvironmentValue) (check : Option FaultCode) → marked_standing marker e (by_check check) ≡ Active
    → IsMarked marker e × (check ≡ None)
marked_active None e check is = (refl, check_none check is)
marked_active (Some m) e check is = both_active (marker_value e m.tree) check is

-- an entry stands where its marker is absent or true and its check has no fault
pub parts : (entry : EntryValue) (e : EnvironmentValue) → Stands entry e → IsMarked entry.marker e × (python_check entry.requires_python e ≡ None)
parts entry e is = marked_active entry.marker e (python_check entry.requires_python e) is

-- ---- faulty

-- the codes of markers are others than those of the Python check and of step 5
pub of_marker : (f : EvalFault) → ((fault_code f ≡ PythonNotMet) → ⊥) × ((fault_code f ≡ Ambiguous) → ⊥)
of_marker (fault.Unset v) = (λ is. cc is, λ is. cc is)
of_marker fault.Extra = (λ is. cc is, λ is. cc is)
of_marker fault.Undefined = (λ is. cc is, λ is. cc is)
of_marker fault.NumberTooLarge = (λ is. cc is, λ is. cc is)
of_marker fault.Memory = (λ is. cc is, λ is. cc is)

same_code : (c d : FaultCode) → Faulty c ≡ Faulty d → c ≡ d
same_code c d is = cc

check_is : (check : Option FaultCode) (code : FaultCode) → by_check check ≡ Faulty code → check ≡ Some code
check_is None code is = let no : Active ≡ Faulty code = is in absurd cc
check_is (Some c) code is = let same : Faulty c ≡ Faulty code = is in cc

both_unmet : (v : Result Bool EvalFault) (check : Option FaultCode) → by_marker v (by_check check) ≡ Faulty PythonNotMet
    → (by_marker v Active ≡ Active) × (check ≡ Some PythonNotMet)
both_unmet (Ok true) check is = (refl, check_is check PythonNotMet is)
both_unmet (Ok false) check is = let no : Skipped ≡ Faulty PythonNotMet = is in absurd cc
both_unmet (Err f) check is = absurd ((of_marker f).0 (same_code (fault_code f) PythonNotMet is))

marked_unmet : (marker : Option MarkerValue) (e : EnvironmentValue) (check : Option FaultCode) → marked_standing marker e (by_check check) ≡ Faulty PythonNotMet
    → IsMarked marker e × (check ≡ Some PythonNotMet)
marked_unmet None e check is = (refl, check_is check PythonNotMet is)
marked_unmet (Some m) e check is = both_unmet (marker_value e m.tree) check is

-- an entry whose fault is that the Python isn't admitted is narrower
pub is_narrower : (entry : EntryValue) (e : EnvironmentValue) → standing entry e ≡ Faulty PythonNotMet → IsNarrower entry e
is_narrower entry e is =
    let each = marked_unmet entry.marker e (python_check entry.requires_python e) is in
    record { marked = each.0; unmet = each.1 }

-- ---- no fault is that of a shared name

cond_other : (b : Bool) → cond b None (Some PythonNotMet) ≡ Some Ambiguous → ⊥
cond_other true is = let none : ◌≡◌ {A = Option FaultCode} None (Some Ambiguous) = is in cc
cond_other false is = let other : Some PythonNotMet ≡ Some Ambiguous = is in cc

version_other : (set : List Specifier) (r : Result Parts VersionError) → version_check set r ≡ Some Ambiguous → ⊥
version_other set (Err error) is = let no : Some PythonUnknown ≡ Some Ambiguous = is in cc
version_other set (Ok v) is = cond_other (admits_all set v) is

text_other : (set : List Specifier) (text : Option (List ℕ)) → text_check set text ≡ Some Ambiguous → ⊥
text_other set None is = let no : Some PythonUnknown ≡ Some Ambiguous = is in cc
text_other set (Some text) is = version_other set (parsed_version text) is

check_other : (set : Option (List Specifier)) (e : EnvironmentValue) → python_check set e ≡ Some Ambiguous → ⊥
check_other None e is = let none : ◌≡◌ {A = Option FaultCode} None (Some Ambiguous) = is in cc
check_other (Some set) e is = text_other set (variable_in PythonFullVersion e) is

both_other : (v : Result Bool EvalFault) (check : Option FaultCode) → (check ≡ Some Ambiguous → ⊥) → by_marker v (by_check check) ≡ Faulty Ambiguous → ⊥
both_other (Ok true) check not is = not (check_is check Ambiguous is)
both_other (Ok false) check not is = let no : Skipped ≡ Faulty Ambiguous = is in cc
both_other (Err f) check not is = (of_marker f).1 (same_code (fault_code f) Ambiguous is)

marked_other : (marker : Option MarkerValue) (e : EnvironmentValue) (check : Option FaultCode) → (check ≡ Some Ambiguous → ⊥)
    → marked_standing marker e (by_check check) ≡ Faulty Ambiguous → ⊥
marked_other None e check not is = not (check_is check Ambiguous is)
marked_other (Some m) e check not is = both_other (marker_value e m.tree) check not is

pub never_ambiguous : (entry : EntryValue) (e : EnvironmentValue) → standing entry e ≡ Faulty Ambiguous → ⊥
never_ambiguous entry e is = marked_other entry.marker e (python_check entry.requires_python e) (check_other entry.requires_python e) is
