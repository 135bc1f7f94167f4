-- One condition or two, in place of a list.
use Rattle.std.proofs.Common.{◌≡◌, Bool, List, [], ◌∷◌, Result, Ok, Err, arith, subst, sym}
use Rattle.std.specs.Result.{IfOk}
use Rattle.std.proofs.lemmas.List.Elements.{All-cons, All-nil}
use Rattle.std.specs.declared.alloc.AllocError.{AllocError}
use Rattle.pymark_core.specs.Environment.{EnvironmentValue}
use Rattle.pymark_core.specs.Marker.Reading.{MarkerValue}
use Rattle.pymark_algebra.specs.Questions.{AllHave, AllSay, Has, PythonSays, SaysNever}
use Rattle.pymark_algebra.specs.declared.answer.Answer.{Answer}
use Rattle.pymark_algebra.specs.declared.answer.Answer.TheVariants.{Yes, No, Undecided}
use Rattle.pymark_algebra.specs.declared.answer.Condition.{Condition}
use Rattle.pymark_algebra.specs.declared.answer.PythonCondition.{PythonCondition}

-- what is said of one thing is said of another that is so where it is
says : (this that : EnvironmentValue → Type 0) → ((e : EnvironmentValue) → this e → that e) → ((e : EnvironmentValue) → that e → this e)
    → (a : Answer) → SaysNever this a → SaysNever that a
says this that to back Yes is = λ e coherent holds. is e coherent (back e holds)
says this that to back (No e) is = (is.0, to e is.1)
says this that to back Undecided is = tt

if_says : (this that : EnvironmentValue → Type 0) → ((e : EnvironmentValue) → this e → that e) → ((e : EnvironmentValue) → that e → this e)
    → (r : Result Answer AllocError) → IfOk r (SaysNever this) → IfOk r (SaysNever that)
if_says this that to back (Ok a) is = says this that to back a is
if_says this that to back (Err f) is = tt

-- where nothing is asked of the version of Python
pub says_have : (r : Result Answer AllocError) (conditions : List Condition) → IfOk r (SaysNever (λ e. AllSay e [] × AllHave e conditions))
    → IfOk r (SaysNever (λ e. AllHave e conditions))
says_have r conditions is = if_says (λ e. AllSay e [] × AllHave e conditions) (λ e. AllHave e conditions) (λ e both. both.1)
    (λ e all. (All-nil (λ (python : PythonCondition). PythonSays e python.specifier.now python.wanted), all)) r is

-- a condition that is one of a marker
abbrev Holds : EnvironmentValue → Condition → Type 0
Holds e c = Has e c.marker.now.tree c.wanted

to_has : (e : EnvironmentValue) (c : Condition) (m : MarkerValue) (x : Bool) → c.marker.now ≡ m → c.wanted ≡ x → Holds e c → Has e m.tree x
to_has e c m x marker wanted is = subst (λ (y : Bool). Has e m.tree y) wanted (subst (λ (n : MarkerValue). Has e n.tree c.wanted) marker is)

from_has : (e : EnvironmentValue) (c : Condition) (m : MarkerValue) (x : Bool) → c.marker.now ≡ m → c.wanted ≡ x → Has e m.tree x → Holds e c
from_has e c m x marker wanted is =
    subst (λ (n : MarkerValue). Has e n.tree c.wanted) (sym marker) (subst (λ (y : Bool). Has e m.tree y) (sym wanted) is)

pub says_one : (r : Result Answer AllocError) (c : Condition) (m : MarkerValue) (x : Bool) → c.marker.now ≡ m → c.wanted ≡ x
    → IfOk r (SaysNever (λ e. AllHave e (c ∷ []))) → IfOk r (SaysNever (λ e. Has e m.tree x))
says_one r c m x marker wanted is = if_says (λ e. AllHave e (c ∷ [])) (λ e. Has e m.tree x)
    (λ e all. to_has e c m x marker wanted (all 0 c (omega arith)))
    (λ e has. All-cons (Holds e) c [] (from_has e c m x marker wanted has) (All-nil (Holds e))) r is

pub says_two : (r : Result Answer AllocError) (c d : Condition) (m n : MarkerValue) (x y : Bool) → c.marker.now ≡ m → c.wanted ≡ x
    → d.marker.now ≡ n → d.wanted ≡ y
    → IfOk r (SaysNever (λ e. AllHave e (c ∷ d ∷ []))) → IfOk r (SaysNever (λ e. Has e m.tree x × Has e n.tree y))
says_two r c d m n x y marker wanted marker' wanted' is = if_says (λ e. AllHave e (c ∷ d ∷ [])) (λ e. Has e m.tree x × Has e n.tree y)
    (λ e all. (to_has e c m x marker wanted (all 0 c (omega arith)), to_has e d n y marker' wanted' (all 1 d (omega arith))))
    (λ e has. All-cons (Holds e) c (d ∷ []) (from_has e c m x marker wanted has.0)
    (All-cons (Holds e) d [] (from_has e d n y marker' wanted' has.1) (All-nil (Holds e)))) r is
