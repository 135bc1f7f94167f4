-- What was read already, put before what is left to read.
use Rattle.std.proofs.Common.{◌≡◌, ◌∙◌, List, [], ◌∷◌, ◌++◌, Option, Some, None, option_to_list, Result, Ok, Err, refl, ap, sym, append_assoc}
use Rattle.pytext.specs.Results.{◌>>=◌}

abbrev pub after_prefix : {A E : Type 0} → List A → Result (List A) E → Result (List A) E
after_prefix front (Ok xs) = Ok (front ++ xs)
after_prefix front (Err e) = Err e

-- one more that was read moves behind the others
pub prefix_more : {A E : Type 0} (front : List A) (x : A) (read : Result (Option A) E) (rest : Result (List A) E)
    → read ≡ Ok (Some x)
    → after_prefix (front ++ x ∷ []) rest ≡ after_prefix front (read >>= (λ v. rest >>= (λ xs. Ok (option_to_list v ++ xs))))
prefix_more {A = A} {E = E} front x read rest found =
    by rest ∙ ap (λ r. after_prefix front (r >>= (λ v. rest >>= (λ xs. Ok (option_to_list v ++ xs))))) (sym found)
  where
    by : (rest : Result (List A) E) → after_prefix (front ++ x ∷ []) rest ≡ after_prefix front (rest >>= (λ xs. Ok (x ∷ xs)))
    by (Ok xs) = ap Ok (append_assoc front (x ∷ []) xs)
    by (Err e) = refl

-- nothing that was read leaves the others
pub prefix_same : {A E : Type 0} (front : List A) (read : Result (Option A) E) (rest : Result (List A) E)
    → read ≡ Ok None
    → after_prefix front rest ≡ after_prefix front (read >>= (λ v. rest >>= (λ xs. Ok (option_to_list v ++ xs))))
prefix_same {A = A} {E = E} front read rest found =
    by rest ∙ ap (λ r. after_prefix front (r >>= (λ v. rest >>= (λ xs. Ok (option_to_list v ++ xs))))) (sym found)
  where
    by : (rest : Result (List A) E) → after_prefix front rest ≡ after_prefix front (rest >>= (λ xs. Ok xs))
    by (Ok xs) = refl
    by (Err e) = refl

-- the same where each thing is read
pub prefix_one : {A E : Type 0} (front : List A) (x : A) (read : Result A E) (rest : Result (List A) E)
    → read ≡ Ok x
    → after_prefix (front ++ x ∷ []) rest ≡ after_prefix front (read >>= (λ v. rest >>= (λ xs. Ok (v ∷ xs))))
prefix_one {A = A} {E = E} front x read rest found =
    by rest ∙ ap (λ r. after_prefix front (r >>= (λ v. rest >>= (λ xs. Ok (v ∷ xs))))) (sym found)
  where
    by : (rest : Result (List A) E) → after_prefix (front ++ x ∷ []) rest ≡ after_prefix front (rest >>= (λ xs. Ok (x ∷ xs)))
    by (Ok xs) = ap Ok (append_assoc front (x ∷ []) xs)
    by (Err e) = refl

pub ruleset prefixes = (prefix_more, prefix_same, prefix_one)
