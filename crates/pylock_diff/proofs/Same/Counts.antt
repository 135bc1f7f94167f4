-- Lists that are permutations, by how often each key stands under each name.
use Rattle.std.proofs.Common.{◌≡◌, ◌∙◌, ◌++◌, ℕ, ◌+◌, ◌≤◌, false, cond, List, [], ◌∷◌, inl, inr, map, refl, sym, ap, subst, arith, IsPermutation}
use Rattle.std.proofs.lemmas.Bool.{cases_Bool, false≢true}
use Rattle.std.proofs.lemmas.List.{map-append, map-id}
use Rattle.std.proofs.lemmas.List.Sorted.{IsPermutation-cons, IsPermutation-map, IsPermutation-middle, IsPermutation-refl, IsPermutation-sym, IsPermutation-trans, sum_by-IsPermutation}
use Rattle.std.proofs.lemmas.List.Sums.{sum_by-cons}
use Rattle.std.specs.List.{AllByRecursion, sum_by}
use Rattle.std.specs.Str.{bytes_eq}
use Rattle.pylock_compare.specs.Counts.{count}
use Rattle.pylock_compare.specs.Rows.{Row, values_at}
use Rattle.pylock_compare.specs.Texts.{Texts, are_alike}
use Rattle.pylock_compare.proofs.KeyLemmas.{alike_equal, alike_itself}
use Rattle.pylock_diff.proofs.Same.Lists.{at_other, at_same, bytes_itself}

-- a key that stands in front stands there
pub counted_itself : (key : Texts) (keys : List Texts) → 1 ≤ count key (key ∷ keys)
counted_itself key keys =
    let one : count key (key ∷ keys) ≡ 1 + count key keys = ap (λ b. cond b 1 0 + count key keys) (alike_itself key) in
    omega arith

-- ---- one list

-- where a key stands in a list
record Stands {X : Type 0} (key : X → Texts) (k : Texts) (xs : List X) : Type 0 where
  front : List X
  here : X
  back : List X
  whole : xs ≡ front ++ here ∷ back
  alike : key here ≡ k

stands : {X : Type 0} (key : X → Texts) (k : Texts) (xs : List X) → 1 ≤ count k (map key xs) → Stands key k xs
stands key k [] some = absurd (omega arith)
stands key k (x ∷ xs) some = elim (cases_Bool (are_alike k (key x))) [
  | inl is ↦ record { front = []; here = x; back = xs; whole = refl; alike = sym (alike_equal k (key x) is) }
  | inr other ↦ (
      let rest : count k (map key (x ∷ xs)) ≡ 0 + count k (map key xs) = ap (λ b. cond b 1 0 + count k (map key xs)) other in
      let found = stands key k xs (omega arith) in
      record { front = x ∷ found.front; here = found.here; back = found.back; whole = ap (λ more. x ∷ more) found.whole; alike = found.alike })
]

counted_middle : {X : Type 0} (key : X → Texts) (k : Texts) (front : List X) (x : X) (back : List X)
    → count k (map key (front ++ x ∷ back)) ≡ cond (are_alike k (key x)) 1 0 + count k (map key (front ++ back))
counted_middle key k [] x back = refl
counted_middle key k (y ∷ front) x back = let rest = counted_middle key k front x back in omega arith

all_middle : {X : Type 0} (P : X → Type 0) (front : List X) (x : X) (back : List X) → AllByRecursion P (front ++ x ∷ back) → P x × AllByRecursion P (front ++ back)
all_middle P [] x back all = (all.0, all.1)
all_middle P (y ∷ front) x back all = let rest = all_middle P front x back all.1 in (rest.0, (all.0, rest.1))

put_middle : {X : Type 0} (x : X) (xs front back : List X) → IsPermutation xs (front ++ back) → IsPermutation (x ∷ xs) (front ++ x ∷ back)
put_middle x xs front back rest =
    IsPermutation-trans (x ∷ xs) (x ∷ (front ++ back)) (front ++ x ∷ back) (IsPermutation-cons x xs (front ++ back) rest)
    (IsPermutation-sym (front ++ x ∷ back) (x ∷ (front ++ back)) (IsPermutation-middle front x back))

-- ---- values, each told by a key
module _ {P X : Type 0} (key : P → Texts) (value : P → X) (Good : P → Type 0) (exact : (p q : P) → Good p → Good q → key p ≡ key q → value p ≡ value q) where
  -- lists in which each key stands as often
  pub permuted : (ps qs : List P) → AllByRecursion Good ps → AllByRecursion Good qs → ((p : P) → Good p → count (key p) (map key ps) ≡ count (key p) (map key qs))
      → IsPermutation (map value ps) (map value qs)
  permuted [] [] good too same = IsPermutation-refl []
  permuted [] (q ∷ qs) good too same = (
      let none = same q too.0 in
      let some = counted_itself (key q) (map key qs) in
      absurd (omega arith))
  permuted (p ∷ ps) qs good too same = (
      let none = same p good.0 in
      let some = counted_itself (key p) (map key ps) in
      let found = stands key (key p) qs (omega arith) in
      let both = all_middle Good found.front found.here found.back (subst (AllByRecursion Good) found.whole too) in
      let is : value found.here ≡ value p = exact found.here p both.0 good.0 found.alike in
      let whole : map value qs ≡ map value found.front ++ value p ∷ map value found.back =
      ap (map value) found.whole ∙ map-append value found.front (found.here ∷ found.back) ∙ ap (λ v. map value found.front ++ v ∷ map value found.back) is in
      let rest = permuted ps (found.front ++ found.back) good.1 both.1 (λ z fine.
      let all = same z fine ∙ ap (λ l. count (key z) (map key l)) found.whole ∙ counted_middle key (key z) found.front found.here found.back
      ∙ ap (λ k. cond (are_alike (key z) k) 1 0 + count (key z) (map key (found.front ++ found.back))) found.alike in
      omega arith) in
      subst (IsPermutation (value p ∷ map value ps)) (sym whole)
      (put_middle (value p) (map value ps) (map value found.front) (map value found.back)
      (subst (IsPermutation (map value ps)) (map-append value found.front found.back) rest)))

-- ---- values, each under a name
module _ {V : Type 0} (key : V → Texts) where
  weight : List ℕ → Texts → Row V → ℕ
  weight name k row = cond (bytes_eq name row.0) (cond (are_alike k (key row.1)) 1 0) 0

  weighed : (name : List ℕ) (k : Texts) (rows : List (Row V)) → count k (map key (values_at name rows)) ≡ sum_by (weight name k) rows
  unfolding weight
  weighed name k [] = refl
  weighed name k (row ∷ rows) = elim (cases_Bool (bytes_eq name row.0)) [
    | inl is ↦ ap (λ vs. count k (map key vs)) (at_same name row.0 row.1 rows is)
        ∙ (let rest = weighed name k rows in ap (λ n. cond (are_alike k (key row.1)) 1 0 + n) rest)
        ∙ ap (λ b. cond b (cond (are_alike k (key row.1)) 1 0) 0 + sum_by (weight name k) rows) (sym is)
        ∙ sym (sum_by-cons (weight name k) row rows)
    | inr other ↦ ap (λ vs. count k (map key vs)) (at_other name row.0 row.1 rows other)
        ∙ weighed name k rows
        ∙ (let none : sum_by (weight name k) rows ≡ 0 + sum_by (weight name k) rows = omega arith in none)
        ∙ ap (λ b. cond b (cond (are_alike k (key row.1)) 1 0) 0 + sum_by (weight name k) rows) (sym other)
        ∙ sym (sum_by-cons (weight name k) row rows)
  ]

  -- in a permutation each key stands as often under each name
  pub counted_alike : (olds news : List (Row V)) → IsPermutation olds news → (name : List ℕ) (k : Texts)
      → count k (map key (values_at name olds)) ≡ count k (map key (values_at name news))
  counted_alike olds news moved name k =
      weighed name k olds ∙ sym (sum_by-IsPermutation (weight name k) olds news moved) ∙ sym (weighed name k news)

module _ {X V : Type 0} (row : X → Row V) (key : V → Texts) (Good : X → Type 0) (exact : (x y : X) → Good x → Good y → key (row x).1 ≡ key (row y).1 → x ≡ y) where
  -- a key stands as often in the whole list as under its name
  under_name : (x : X) → Good x → (xs : List X) → AllByRecursion Good xs
      → count (key (row x).1) (map (λ y. key (row y).1) xs) ≡ count (key (row x).1) (map key (values_at (row x).0 (map row xs)))
  under_name x fine [] good = refl
  under_name x fine (y ∷ ys) good = elim (cases_Bool (bytes_eq (row x).0 (row y).0)) [
    | inl is ↦ ap (λ n. cond (are_alike (key (row x).1) (key (row y).1)) 1 0 + n) (under_name x fine ys good.1)
        ∙ ap (λ vs. count (key (row x).1) (map key vs)) (sym (at_same (row x).0 (row y).0 (row y).1 (map row ys) is))
    | inr other ↦ (
        let apart : are_alike (key (row x).1) (key (row y).1) ≡ false = elim (cases_Bool (are_alike (key (row x).1) (key (row y).1))) [
          | inl alike ↦ absurd (false≢true (sym other ∙ ap (λ z. bytes_eq (row x).0 (row z).0) (sym (exact x y fine good.0 (alike_equal (key (row x).1) (key (row y).1) alike))) ∙ bytes_itself (row x).0))
          | inr none ↦ none
        ] in
        ap (λ b. cond b 1 0 + count (key (row x).1) (map (λ z. key (row z).1) ys)) apart
        ∙ (let rest = under_name x fine ys good.1 in omega arith)
        ∙ ap (λ vs. count (key (row x).1) (map key vs)) (sym (at_other (row x).0 (row y).0 (row y).1 (map row ys) other)))
  ]

  -- lists in which each key stands as often under each name are permutations
  pub moved_by_names : (xs ys : List X) → AllByRecursion Good xs → AllByRecursion Good ys
      → ((name : List ℕ) (k : Texts) → count k (map key (values_at name (map row xs))) ≡ count k (map key (values_at name (map row ys)))) → IsPermutation xs ys
  moved_by_names xs ys good too same =
      let moved = permuted (λ x. key (row x).1) (λ x. x) Good exact xs ys good too
      (λ x fine. under_name x fine xs good ∙ same (row x).0 (key (row x).1) ∙ sym (under_name x fine ys too)) in
      subst (λ l. IsPermutation l ys) (map-id xs) (subst (IsPermutation (map (λ x. x) xs)) (map-id ys) moved)

  pub names_by_moves : (xs ys : List X) → IsPermutation xs ys → (name : List ℕ) (k : Texts)
      → count k (map key (values_at name (map row xs))) ≡ count k (map key (values_at name (map row ys)))
  names_by_moves xs ys moved = counted_alike key (map row xs) (map row ys) (IsPermutation-map row xs ys moved)
