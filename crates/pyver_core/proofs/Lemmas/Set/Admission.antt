-- A release that is shorter than a prefix begins with it where the rest of the prefix is zeros.
use Rattle.std.proofs.Common.{◌≡◌, ℕ, ◌-◌, ◌<◌, Bool, true, false, List, [], ◌∷◌, length, take, drop, replicate, nat_eq, refl, ap, ◌∙◌, arith}
use Rattle.std.specs.Prelude.{◌&&◌, ◌==◌}
use Rattle.std.specs.Cmp.Lexicographic.{pointwise}
use Rattle.std.specs.List.{list_all, starts_with}
use Rattle.pyver_core.specs.Version.Order.{with_zeros}

and_assoc : (a b c : Bool) → a && (b && c) ≡ (a && b) && c
and_assoc true b c = refl
and_assoc false b c = refl

pointwise-zeros : (p : List ℕ) → pointwise nat_eq p (take (length p) (replicate (length p) 0)) ≡ list_all (λ n. n == 0) p
pointwise-zeros [] = refl
pointwise-zeros (x ∷ xs) = ap (λ b. (x == 0) && b) (pointwise-zeros xs)

pub begins_short : (release prefix : List ℕ) → length release < length prefix
    → starts_with nat_eq (with_zeros (length prefix) release) prefix
    ≡ pointwise nat_eq (take (length release) prefix) release && list_all (λ n. n == 0) (drop (length release) prefix)
begins_short [] p shorter =
    let e : length p - 0 ≡ length p = omega arith in
    rw e (pointwise-zeros p)
begins_short (r ∷ rs) [] shorter = absurd (omega arith)
begins_short (r ∷ rs) (p ∷ ps) shorter =
    let e : length (p ∷ ps) - length (r ∷ rs) ≡ length ps - length rs = omega arith in
    let rest = begins_short rs ps (omega arith) in
    rw e (ap (λ b. nat_eq p r && b) rest ∙ and_assoc (nat_eq p r) (pointwise nat_eq (take (length rs) ps) rs) (list_all (λ n. n == 0) (drop (length rs) ps)))
