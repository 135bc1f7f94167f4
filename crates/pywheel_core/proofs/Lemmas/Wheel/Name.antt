-- The bytes of a name, judged one after the other.
use Rattle.std.proofs.Common.{◌≡◌, ℕ, Bool, true, false, ◌==◌, ◌&&◌, ◌||◌, not, nat_lt, if◌then◌else◌, List, [], ◌∷◌, length, refl, sym}
use Rattle.std.proofs.Math.Bool.{and_assoc}
use Rattle.std.specs.List.{list_all}
use Rattle.pywheel_core.specs.Texts.{begins_with, has_pair}
use Rattle.pywheel_core.specs.Wheel.Name.{is_wheel_name, is_wheel_name_byte}

-- whether what is left of a name is as it must be, behind a `_` or not
abbrev pub name_goes_on : Bool → List ℕ → Bool
name_goes_on after [] = true
name_goes_on after (b ∷ rest) =
    if (after && (b == 95)) || not (is_wheel_name_byte b) then false else name_goes_on (b == 95) rest

no_and : (x : Bool) → false ≡ (x && false)
no_and true = refl
no_and false = refl

-- `n`: the byte is one of a name; `u`: it is `_`; and of the bytes behind it `a`: all are those of a
-- name; `b`: a `_` is the first; `p`: two of them stand in a row
step_on : (n u a b p : Bool) (goes : Bool → Bool) → goes false ≡ (a && not p) → goes true ≡ (a && not (b || p))
    → (if (false && u) || not n then false else goes u) ≡ ((n && a) && not ((u && b) || p))
step_on true true a b p goes f t = t
step_on true false a b p goes f t = f
step_on false u a b p goes f t = refl

step_behind : (n u a b p : Bool) (goes : Bool → Bool) → goes false ≡ (a && not p) → goes true ≡ (a && not (b || p))
    → (if (true && u) || not n then false else goes u) ≡ ((n && a) && not (u || ((u && b) || p)))
step_behind true true a b p goes f t = no_and a
step_behind true false a b p goes f t = f
step_behind false true a b p goes f t = refl
step_behind false false a b p goes f t = refl

both_go_on : (s : List ℕ) → (name_goes_on false s ≡ (list_all is_wheel_name_byte s && not (has_pair 95 s)))
    × (name_goes_on true s ≡ (list_all is_wheel_name_byte s && not (begins_with 95 s || has_pair 95 s)))
both_go_on [] = (refl, refl)
both_go_on (b ∷ s) =
    let x = both_go_on s in (
      step_on (is_wheel_name_byte b) (b == 95) (list_all is_wheel_name_byte s) (begins_with 95 s) (has_pair 95 s) (λ u. name_goes_on u s) x.0 x.1,
      step_behind (is_wheel_name_byte b) (b == 95) (list_all is_wheel_name_byte s) (begins_with 95 s) (has_pair 95 s) (λ u. name_goes_on u s) x.0 x.1,
    )

pub name_goes_on_all : (s : List ℕ) → name_goes_on false s ≡ (list_all is_wheel_name_byte s && not (has_pair 95 s))
name_goes_on_all s = (both_go_on s).0

pub name_is : (s : List ℕ) → (nat_lt 0 (length s) && (list_all is_wheel_name_byte s && not (has_pair 95 s))) ≡ is_wheel_name s
name_is s = sym (and_assoc (nat_lt 0 (length s)) (list_all is_wheel_name_byte s) (not (has_pair 95 s)))
