-- Releases without the zeros at their end compare as padded releases do.
use Rattle.std.proofs.Common.{◌≡◌, ℕ, zero, suc, ◌+◌, ◌-◌, List, [], ◌∷◌, ◌++◌, length, replicate}
use Rattle.std.proofs.Common.{refl, sym, ap, ◌∙◌, arith}
use Rattle.std.proofs.lemmas.List.{length-append, length-replicate}
use Rattle.std.specs.Ordering.{nat_cmp, ordering_then}
use Rattle.std.specs.Cmp.{nat_cmp_is}
use Rattle.std.specs.Cmp.Lexicographic.{slice_cmp}
use Rattle.std.specs.declared.cmp.Ordering.TheVariants.{Less, Greater}
use Rattle.pyver_core.specs.Version.Hashing.{prepend_unless_trailing, without_trailing_zeros}
use Rattle.pyver_core.specs.Version.Order.{release_cmp, with_zeros}

-- the first numbers decide before the rest, stripped or not
slice_cmp-prepend_unless_trailing : (x : ℕ) (xs : List ℕ) (y : ℕ) (ys : List ℕ)
    → ordering_then (nat_cmp x y) (slice_cmp nat_cmp xs ys)
    ≡ slice_cmp nat_cmp (prepend_unless_trailing x xs) (prepend_unless_trailing y ys)
slice_cmp-prepend_unless_trailing zero [] (suc n) ys =
    rw (sym (nat_cmp_is 0 (suc n) Less (omega arith))) refl
slice_cmp-prepend_unless_trailing (suc m) xs zero [] =
    rw (sym (nat_cmp_is (suc m) 0 Greater (omega arith))) refl
slice_cmp-prepend_unless_trailing x xs zero [] = refl
slice_cmp-prepend_unless_trailing x xs y ys = refl

-- one number of each release, and then the rest
pub release_cmp-both : (x : ℕ) (xs : List ℕ) (y : ℕ) (ys : List ℕ)
    → release_cmp (x ∷ xs) (y ∷ ys) ≡ ordering_then (nat_cmp x y) (release_cmp xs ys)
unfolding release_cmp
release_cmp-both x xs y ys =
    let a : length (y ∷ ys) - length (x ∷ xs) ≡ length ys - length xs = omega arith in
    let b : length (x ∷ xs) - length (y ∷ ys) ≡ length xs - length ys = omega arith in
    rw (a, b) refl

-- releases of one length compare as they do without the zeros at their end
pub same_length_cmp : (a b : List ℕ) → length a ≡ length b → slice_cmp nat_cmp a b
    ≡ slice_cmp nat_cmp (without_trailing_zeros a) (without_trailing_zeros b)
unfolding without_trailing_zeros
same_length_cmp [] [] same = refl
same_length_cmp (x ∷ xs) (y ∷ ys) same =
    ap (ordering_then (nat_cmp x y)) (same_length_cmp xs ys (omega arith))
    ∙ slice_cmp-prepend_unless_trailing x (without_trailing_zeros xs) y (without_trailing_zeros ys)
same_length_cmp a b same = absurd (omega arith)

-- zeros that are added go
without_trailing_zeros-zeros : (n : ℕ) → without_trailing_zeros (replicate n 0) ≡ []
unfolding without_trailing_zeros
without_trailing_zeros-zeros zero = refl
without_trailing_zeros-zeros (suc n) =
    ap (prepend_unless_trailing 0) (without_trailing_zeros-zeros n)

pub without_trailing_zeros-append_zeros : (release : List ℕ) (n : ℕ)
    → without_trailing_zeros (release ++ replicate n 0) ≡ without_trailing_zeros release
unfolding without_trailing_zeros
without_trailing_zeros-append_zeros [] n = without_trailing_zeros-zeros n
without_trailing_zeros-append_zeros (x ∷ xs) n =
    ap (prepend_unless_trailing x) (without_trailing_zeros-append_zeros xs n)

-- comparing without the zeros at the end is comparing with zeros added
pub release_cmp_without_zeros : (a b : List ℕ)
    → release_cmp a b ≡ slice_cmp nat_cmp (without_trailing_zeros a) (without_trailing_zeros b)
unfolding release_cmp
release_cmp_without_zeros a b =
    let p = length-append a (replicate (length b - length a) 0) in
    let q = length-append b (replicate (length a - length b) 0) in
    let m = length-replicate {A = ℕ} (length b - length a) 0 in
    let n = length-replicate {A = ℕ} (length a - length b) 0 in
    same_length_cmp (with_zeros (length b) a) (with_zeros (length a) b) (omega (arith, p, q, m, n))
    ∙ (λ i. slice_cmp nat_cmp (without_trailing_zeros-append_zeros a (length b - length a) i)
    (without_trailing_zeros-append_zeros b (length a - length b) i))
