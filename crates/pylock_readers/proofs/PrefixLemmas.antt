-- What was read already, put before what is left to read.
use Rattle.std.proofs.Common.{◌≡◌, ◌∙◌, List, [], ◌∷◌, ◌++◌, Result, Ok, Err, refl, ap, sym, append_assoc}
use Rattle.pytext.specs.Results.{◌>>=◌}

abbrev pub after_prefix : {A E : Type 0} → List A → Result (List A) E → Result (List A) E
after_prefix front (Ok xs) = Ok (front ++ xs)
after_prefix front (Err e) = Err e

-- one more that was read moves behind the others
pub prefix_more : {A B E : Type 0} (f : A → B) (front : List B) (x : A) (read : Result A E) (rest : Result (List B) E)
    → read ≡ Ok x
    → after_prefix (front ++ f x ∷ []) rest ≡ after_prefix front (read >>= (λ v. rest >>= (λ xs. Ok (f v ∷ xs))))
prefix_more {A = A} {B = B} {E = E} f front x read rest found =
    by rest ∙ ap (λ r. after_prefix front (r >>= (λ v. rest >>= (λ xs. Ok (f v ∷ xs))))) (sym found)
  where
    by : (rest : Result (List B) E) → after_prefix (front ++ f x ∷ []) rest ≡ after_prefix front (rest >>= (λ xs. Ok (f x ∷ xs)))
    by (Ok xs) = ap Ok (append_assoc front (f x ∷ []) xs)
    by (Err e) = refl
