-- Reading the names of extras one after the other.
use Rattle.std.proofs.Common.{◌≡◌, ℕ, List, [], ◌∷◌, ◌++◌, Result, Ok, Err, refl, sym, ap, ◌∙◌, append_assoc, append-nil}
use Rattle.pytext.specs.Results.{◌>>=◌}
use Rattle.pymark_core.specs.Requirement.Reading.{extra_in, names_in}
use Rattle.pymark_core.specs.declared.requirement.error.RequirementError.{RequirementError}

-- ---- the names so far

abbrev pub onto : List (List ℕ) → Result (List (List ℕ)) RequirementError → Result (List (List ℕ)) RequirementError
onto front read = read >>= λ rest. Ok (front ++ rest)

pub onto_nothing : (read : Result (List (List ℕ)) RequirementError) → onto [] read ≡ read
onto_nothing (Ok rest) = refl
onto_nothing (Err e) = refl

pub onto_more : (front : List (List ℕ)) (name : List ℕ) (left : List (List ℕ)) (piece : List ℕ)
    → extra_in piece ≡ Ok name → onto front (names_in (piece ∷ left)) ≡ onto (front ++ name ∷ []) (names_in left)
unfolding names_in
onto_more front name left piece is = ap (λ r. onto front (r >>= λ n. names_in left >>= λ others. Ok (n ∷ others))) is ∙ rest (names_in left)
  where
    rest : (r : Result (List (List ℕ)) RequirementError) → onto front (r >>= λ others. Ok (name ∷ others)) ≡ onto (front ++ name ∷ []) r
    rest (Ok others) = ap Ok (sym (append_assoc front (name ∷ []) others))
    rest (Err e) = refl

pub onto_fault : (front left : List (List ℕ)) (e : RequirementError) (piece : List ℕ)
    → extra_in piece ≡ Err e → onto front (names_in (piece ∷ left)) ≡ Err e
unfolding names_in
onto_fault front left e piece is = ap (λ r. onto front (r >>= λ n. names_in left >>= λ others. Ok (n ∷ others))) is

pub onto_end : (front : List (List ℕ)) → onto front (names_in []) ≡ Ok front
unfolding names_in
onto_end front = ap Ok (append-nil front)
