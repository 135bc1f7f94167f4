-- What follows where a step has succeeded.
use Rattle.std.proofs.Common.{◌≡◌, Option, Some, None, ap, subst}
use Rattle.std.specs.Prelude.{Result, Ok, Err, IfOk, OnOk}
use Rattle.std.proofs.lemmas.Option.{none-some}

pub on_ok_then : {T E P R : Type 0} (r : Result T E) → (P → R) → OnOk r P → OnOk r R
on_ok_then (Ok x) f p = f p
on_ok_then (Err e) f p = tt

pub if_both_ok : {T E : Type 0} (r : Result T E) (P Q R : T → Type 0) → ((x : T) → P x → Q x → R x) → IfOk r P → IfOk r Q → IfOk r R
if_both_ok (Ok x) P Q R f p q = f x p q
if_both_ok (Err e) P Q R f p q = tt

-- what was made is this
pub made_of : {A : Type 0} (P : A → Type 0) (x made : A) → Some x ≡ Some made → P x → P made
made_of {A = A} P x made e p = subst P (ap (λ o. or_else o) e) p
  where
    or_else : Option A → A
    or_else None = x
    or_else (Some y) = y

pub none_made : {A : Type 0} {P : Type 0} (made : A) → None ≡ Some made → P
none_made made e = absurd (none-some made e)
