-- What the answers to single questions say of the lock.
use Rattle.std.specs.Prelude.{◌==◌}
use Rattle.std.specs.Result.{OnOk}
use Rattle.std.proofs.Common.{◌≡◌, ℕ, zero, suc, ◌<◌, length, arith, Bool, true, false, cond, subst, sym, List, [], ◌∷◌, Option, Some, None, Result, Ok, Err, refl, ap}
use Rattle.std.specs.List.{All}
use Rattle.std.proofs.lemmas.List.Elements.{All-head, All-tail, All-weaker}
use Rattle.pymark_core.specs.Environment.{EnvironmentValue}
use Rattle.pymark_core.specs.Marker.Reading.{MarkerValue}
use Rattle.pymark_core.specs.Marker.Value.{marker_value}
use Rattle.pymark_core.specs.declared.fault.EvalFault.{EvalFault}
use Rattle.pymark_algebra.specs.Questions.{Has}
use Rattle.pymark_algebra.specs.declared.answer.Answer.{Answer}
use Rattle.pymark_algebra.specs.declared.answer.Answer.TheVariants.{Yes, No, Undecided}
use Rattle.pylock_readers.specs.Lock.{HeadValue}
use Rattle.pylock_core.specs.Session.Steps.{by_marker, decided_by, environments_check, fault_code, first_true, python_check}
use Rattle.pylock_core.specs.declared.answer.FaultCode.{FaultCode}
use Rattle.pylock_core.specs.declared.answer.FaultCode.TheVariants.{NoEnvironment}
use Rattle.pylock_core.specs.declared.answer.Standing.TheVariants.{Active}
use Rattle.pylock_environments.specs.Environments.{IsMarked, IsNowhere, IsOf}
use Rattle.pylock_environments.specs.Inner.{Says}
use Rattle.pylock_environments.proofs.WantedLemmas.{neither}

-- ---- one marker of the key `environments` is true

by_first : (v : Result Bool EvalFault) (rest : Option FaultCode) → decided_by v rest ≡ None → (v ≡ Ok true → ⊥) → (rest ≡ None → ⊥) → ⊥
by_first (Ok true) rest is first later = first refl
by_first (Ok false) rest is first later = later is
by_first (Err f) rest is first later = let no : Some (fault_code f) ≡ None = is in cc

none_first : (ms : List MarkerValue) (e : EnvironmentValue) → first_true ms e ≡ None → All (λ m. Has e m.tree true → ⊥) ms → ⊥
none_first [] e is not = let no : Some NoEnvironment ≡ None = is in cc
none_first (m ∷ ms) e is not =
    by_first (marker_value e m.tree) (first_true ms e) is (All-head (λ m. Has e m.tree true → ⊥) m ms not)
    (λ none. none_first ms e none (All-tail (λ m. Has e m.tree true → ⊥) m ms not))

none_checks : (ms : List MarkerValue) (e : EnvironmentValue) → 0 < length ms → environments_check ms e ≡ None → All (λ m. Has e m.tree true → ⊥) ms → ⊥
none_checks [] e some is not = absurd (omega arith)
none_checks (m ∷ ms) e some is not = none_first (m ∷ ms) e is not

-- what is so nowhere where one of the markers is true is so nowhere
pub nowhere_by_each : (head : HeadValue) (this : EnvironmentValue → Type 0) → 0 < length head.environments
    → All (λ m. IsNowhere head (λ e. IsMarked (Some m) e × this e)) head.environments → IsNowhere head this
nowhere_by_each head this some each = λ e of is.
    let checks = neither (python_check head.requires_python e) (environments_check head.environments e) of.admitted in
    none_checks head.environments e some checks.1
    (All-weaker (λ m. IsNowhere head (λ e. IsMarked (Some m) e × this e)) (λ m. Has e m.tree true → ⊥)
    (λ m never has. never e of (ap (λ v. by_marker v Active) has, is)) head.environments each)

-- ---- what answers say of other questions

-- of what is so wherever another is
pub says_less : (head : HeadValue) (this other that : EnvironmentValue → Type 0) → ((e : EnvironmentValue) → IsOf head e → other e → this e)
    → (a : Answer) → Says head this that a → Says head other that a
says_less head this other that follows Yes is = λ e of holds. is e of (follows e of holds)
says_less head this other that follows (No e) is = is
says_less head this other that follows Undecided is = tt

-- of answers to several questions, all of them yes or else undecided
pub says_where : (head : HeadValue) (this that : EnvironmentValue → Type 0) (b : Bool) → (b ≡ true → IsNowhere head this)
    → (a : Answer) → a ≡ cond b Yes Undecided → Says head this that a
says_where head this that true holds a is = subst (Says head this that) (sym is) (holds refl)
says_where head this that false holds a is = subst (Says head this that) (sym is) tt

pub some_of : (n : ℕ) → (n == 0) ≡ false → 0 < n
some_of zero is = let no : true ≡ false = is in absurd cc
some_of (suc n) is = omega arith

pub on_ok : {T E : Type 0} {P Q : Type 0} (r : Result T E) → (P → Q) → OnOk r P → OnOk r Q
on_ok (Ok x) follows is = follows is
on_ok (Err e) follows is = tt
