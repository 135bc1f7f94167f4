-- A lemma on what is put where there is capacity.
use Rattle.std.proofs.Common.{◌≡◌, Result, Ok, Err, IsOk, is_ok, cond, refl}

-- where the call can't fail, it made the change
pub made : {A E : Type 0} {X : Type 0} (r : Result A E) (x y : X) → IsOk r → cond (is_ok r) x y ≡ x
made (Ok a) x y is = refl
made (Err e) x y is = cc
