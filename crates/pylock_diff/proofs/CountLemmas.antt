-- Lists by how often each key stands in them.
use Rattle.std.proofs.Common.{◌≡◌, ◌∙◌, ◌++◌, ℕ, ◌+◌, cond, List, [], ◌∷◌, map, sum_by, IsPermutation, refl, sym, ap, arith}
use Rattle.std.proofs.lemmas.List.Sorted.{sum_by-IsPermutation}
use Rattle.std.proofs.lemmas.List.Sums.{sum_by-cons}
use Rattle.std.specs.List.{AllByRecursion}
use Rattle.pylock_diff.proofs.Same.Counts.{permuted}
use Rattle.pylock_compare.specs.Counts.{count}
use Rattle.pylock_compare.specs.Texts.{Texts, are_alike}

-- the sum of what each counts
abbrev pub total : {X : Type 0} → (X → ℕ) → List X → ℕ
total f [] = 0
total f (x ∷ xs) = f x + total f xs

total_sum : {X : Type 0} (f : X → ℕ) (xs : List X) → total f xs ≡ sum_by f xs
total_sum f [] = refl
total_sum f (x ∷ xs) = ap (λ more. f x + more) (total_sum f xs) ∙ sym (sum_by-cons f x xs)

pub total_permuted : {X : Type 0} (f : X → ℕ) (xs ys : List X) → IsPermutation xs ys → total f xs ≡ total f ys
total_permuted f xs ys same = total_sum f xs ∙ sym (sum_by-IsPermutation f xs ys same) ∙ sym (total_sum f ys)

counted : (key : Texts) (keys : List Texts) → count key keys ≡ total (λ x. cond (are_alike key x) 1 0) keys
counted key [] = refl
counted key (k ∷ keys) = ap (λ more. cond (are_alike key k) 1 0 + more) (counted key keys)

pub permuted_count : (key : Texts) (xs ys : List Texts) → IsPermutation xs ys → count key xs ≡ count key ys
permuted_count key xs ys same = counted key xs ∙ total_permuted (λ x. cond (are_alike key x) 1 0) xs ys same ∙ sym (counted key ys)

pub count_joined : (key : Texts) (xs ys : List Texts) → count key (xs ++ ys) ≡ count key xs + count key ys
count_joined key [] ys = omega arith
count_joined key (x ∷ xs) ys = let rest = count_joined key xs ys in omega arith

-- where each key stands as often in both, one list is the other in another order
module _ {P X : Type 0} (key : P → Texts) (value : P → X) (exact : (p q : P) → key p ≡ key q → value p ≡ value q) where
  any : (ps : List P) → AllByRecursion (λ p. Unit {0}) ps
  any [] = tt
  any (p ∷ ps) = (tt, any ps)

  pub counts_permute : (ps qs : List P) → ((k : Texts) → count k (map key ps) ≡ count k (map key qs)) → IsPermutation (map value ps) (map value qs)
  counts_permute ps qs same = permuted key value (λ p. Unit {0}) (λ p q good too. exact p q) ps qs (any ps) (any qs) (λ p fine. same (key p))
