-- Partners, by how often each key stands.
use Rattle.std.proofs.Common.{◌≡◌, ◌∙◌, ◌||◌, ℕ, ◌+◌, ◌-◌, ◌<◌, ◌≤◌, Bool, true, false, cond, not, nat_lt, unwrap_or, Some, List, [], ◌∷◌, length, map, suc, refl, sym, ap, inl, inr, arith}
use Rattle.std.proofs.lemmas.Bool.{cases_Bool, false≢true}
use Rattle.std.proofs.lemmas.Bool.Decides.{nat_tests}
use Rattle.std.specs.BTreeMap.{BTreeMap, Updates, get}
use Rattle.std.specs.List.{list_any}
use Rattle.pylock_compare.specs.Counts.{count, count_in}
use Rattle.pylock_compare.specs.Partners.{are_alone, where_true, without_one}
use Rattle.pylock_compare.specs.Texts.{Texts, are_alike, texts_cmp}
use Rattle.pylock_compare.proofs.KeyLemmas.{alike_equal, alike_itself}

-- ---- counts

some_front : (n : ℕ) → nat_lt 0 (1 + n) ≡ true
some_front n = grind (arith, nat_tests)

any_by : (b : Bool) (rest : Bool) (n : ℕ) → rest ≡ nat_lt 0 n → (b || rest) ≡ nat_lt 0 (cond b 1 0 + n)
any_by true rest n same = sym (some_front n)
any_by false rest n same = same ∙ (let none : n ≡ 0 + n = omega arith in ap (nat_lt 0) none)

pub any_counted : (key : Texts) (keys : List Texts) → list_any (are_alike key) keys ≡ nat_lt 0 (count key keys)
any_counted key [] = refl
any_counted key (k ∷ keys) = any_by (are_alike key k) (list_any (are_alike key) keys) (count key keys) (any_counted key keys)

taken_from : (b c : Bool) (n m : ℕ) → m ≡ n - cond c 1 0 → (b ≡ true → c ≡ false) → cond b 1 0 + m ≡ (cond b 1 0 + n) - cond c 1 0
taken_from true true n m is apart = absurd (false≢true (sym (apart refl)))
taken_from true false n m is apart = omega arith
taken_from false true n m is apart = omega arith
taken_from false false n m is apart = omega arith

taken_first : (b c : Bool) (n : ℕ) → b ≡ c → n ≡ (cond b 1 0 + n) - cond c 1 0
taken_first true true n same = omega arith
taken_first true false n same = absurd (false≢true (sym same))
taken_first false true n same = absurd (false≢true same)
taken_first false false n same = omega arith

pub counted_without : (k key : Texts) (keys : List Texts) → count k (without_one key keys) ≡ count k keys - cond (are_alike k key) 1 0
counted_without k key [] = omega arith
counted_without k key (x ∷ keys) = elim (cases_Bool (are_alike key x)) [
  | inl is ↦ ap (λ b. count k (cond b keys (x ∷ without_one key keys))) is
      ∙ taken_first (are_alike k x) (are_alike k key) (count k keys) (ap (are_alike k) (sym (alike_equal key x is)))
  | inr other ↦ ap (λ b. count k (cond b keys (x ∷ without_one key keys))) other
      ∙ taken_from (are_alike k x) (are_alike k key) (count k keys) (count k (without_one key keys)) (counted_without k key keys)
      (λ is. elim (cases_Bool (are_alike k key)) [
        | inl too ↦ absurd (false≢true (sym other ∙ ap (λ t. are_alike t x) (sym (alike_equal k key too)) ∙ is))
        | inr none ↦ none
      ])
]

pub without_none : (key : Texts) (keys : List Texts) → list_any (are_alike key) keys ≡ false → without_one key keys ≡ keys
without_none key [] none = refl
without_none key (x ∷ keys) none = elim (cases_Bool (are_alike key x)) [
  | inl is ↦ absurd (false≢true (sym none ∙ ap (λ b. b || list_any (are_alike key) keys) is))
  | inr other ↦ ap (λ b. cond b keys (x ∷ without_one key keys)) other
      ∙ ap (λ more. x ∷ more) (without_none key keys (sym (ap (λ b. b || list_any (are_alike key) keys) other) ∙ none))
]

-- a key is judged, and what is left of the others
pub one_judged : (key : Texts) (keys others : List Texts) (taken : Bool) → taken ≡ nat_lt 0 (count key others)
    → are_alone (key ∷ keys) others ≡ not taken ∷ are_alone keys (without_one key others)
one_judged key keys others taken is = elim (cases_Bool (list_any (are_alike key) others)) [
  | inl some ↦ ap (λ b. cond b (false ∷ are_alone keys (without_one key others)) (true ∷ are_alone keys others)) some
      ∙ ap (λ b. not b ∷ are_alone keys (without_one key others)) (sym (is ∙ sym (any_counted key others) ∙ some))
  | inr none ↦ ap (λ b. cond b (false ∷ are_alone keys (without_one key others)) (true ∷ are_alone keys others)) none
      ∙ (λ i. true ∷ are_alone keys (sym (without_none key others none) i))
      ∙ ap (λ b. not b ∷ are_alone keys (without_one key others)) (sym (is ∙ sym (any_counted key others) ∙ none))
]

-- ---- tables of counts

pub alike_turned : (a b : Texts) → are_alike a b ≡ are_alike b a
alike_turned a b = elim (cases_Bool (are_alike a b)) [
  | inl is ↦ is ∙ sym (ap (λ t. are_alike t a) (sym (alike_equal a b is)) ∙ alike_itself a)
  | inr other ↦ elim (cases_Bool (are_alike b a)) [
    | inl is ↦ absurd (false≢true (sym other ∙ ap (λ t. are_alike t b) (sym (alike_equal b a is)) ∙ alike_itself b))
    | inr too ↦ other ∙ sym too
  ]
]

-- what a table has at a key, once another has this count
put_count : (old new : BTreeMap Texts ℕ) (key : Texts) (n : ℕ) → Updates texts_cmp old new key (Some n) → (k : Texts)
    → count_in new k ≡ cond (are_alike key k) n (count_in old k)
put_count old new key n updates k = ap (λ found. unwrap_or found 0) (updates.0 k) ∙ by (are_alike key k)
  where
    by : (b : Bool) → unwrap_or (cond b (Some n) (get texts_cmp old k)) 0 ≡ cond b n (count_in old k)
    by true = refl
    by false = refl

pub untaken : (table : BTreeMap Texts ℕ) (key : Texts) → count_in table key ≡ 0 → (k : Texts) → count_in table k ≡ count_in table k - cond (are_alike key k) 1 0
untaken table key none k = elim (cases_Bool (are_alike key k)) [
  | inl is ↦ (let zero_at : count_in table k ≡ 0 = ap (count_in table) (sym (alike_equal key k is)) ∙ none in rw is (omega arith))
  | inr other ↦ rw other (omega arith)
]

pub taken_one : (old new : BTreeMap Texts ℕ) (key : Texts) (n : ℕ) → Updates texts_cmp old new key (Some n) → n ≡ count_in old key - 1 → (k : Texts)
    → count_in new k ≡ count_in old k - cond (are_alike key k) 1 0
taken_one old new key n updates is k = put_count old new key n updates k ∙ elim (cases_Bool (are_alike key k)) [
  | inl same ↦ (let at : n ≡ count_in old k - 1 = is ∙ ap (λ t. count_in old t - 1) (alike_equal key k same) in rw same at)
  | inr other ↦ rw other (omega arith)
]

pub counted_more : (old new : BTreeMap Texts ℕ) (key : Texts) (n : ℕ) (before rest : List Texts) (all : ℕ) → Updates texts_cmp old new key (Some n) → n ≡ count_in old key + 1
    → before ≡ key ∷ rest → (k : Texts) → count_in old k + count k before ≡ all → count_in new k + count k rest ≡ all
counted_more old new key n before rest all updates is front k so_far =
    let split : count k before ≡ cond (are_alike key k) 1 0 + count k rest = ap (count k) front ∙ ap (λ b. cond b 1 0 + count k rest) (alike_turned k key) in
    let now = put_count old new key n updates k in
    step (are_alike key k) n (count_in old k) (count_in new k) (count k before) (count k rest) all split now so_far
    (λ same. is ∙ ap (λ t. count_in old t + 1) (alike_equal key k same))
  where
    step : (b : Bool) (n o m c r all : ℕ) → c ≡ cond b 1 0 + r → m ≡ cond b n o → o + c ≡ all → (b ≡ true → n ≡ o + 1) → m + r ≡ all
    step true n o m c r all split now so_far at = let one = at refl in omega arith
    step false n o m c r all split now so_far at = omega arith

pub count_bound : (key : Texts) (keys : List Texts) → count key keys ≤ length keys
count_bound key [] = omega arith
count_bound key (k ∷ keys) = by (are_alike key k) (count_bound key keys)
  where
    by : (b : Bool) → count key keys ≤ length keys → cond b 1 0 + count key keys ≤ suc (length keys)
    by true below = omega arith
    by false below = omega arith

-- a key at the front stands once at least
pub stands_once : (key : Texts) (before rest : List Texts) → before ≡ key ∷ rest → 1 ≤ count key before
stands_once key before rest front =
    let split : count key before ≡ 1 + count key rest = ap (count key) front ∙ ap (λ b. cond b 1 0 + count key rest) (alike_itself key) in
    omega arith

-- ---- who is alone
module _ {V : Type 0} (key : V → Texts) where
  -- where none is alone, each key stands as often among the others
  pub none_alone : (xs : List V) (others : List Texts) → where_true (are_alone (map key xs) others) xs ≡ [] → (k : Texts) → count k (map key xs) ≤ count k others
  none_alone [] others none k = omega arith
  none_alone (x ∷ xs) others none k = elim (cases_Bool (list_any (are_alike (key x)) others)) [
    | inl some ↦ (
        let left = without_one (key x) others in
        let more : where_true (are_alone (map key xs) left) xs ≡ [] = sym (ap (λ b. where_true (cond b (false ∷ are_alone (map key xs) left) (true ∷ are_alone (map key xs) others)) (x ∷ xs)) some) ∙ none in
        let below = none_alone xs left more k in
        let stands : nat_lt 0 (count (key x) others) ≡ true = sym (any_counted (key x) others) ∙ some in
        one_more (are_alike k (key x)) (count k (map key xs)) (count k left) (count k others) below (counted_without k (key x) others)
        (λ is. ap (λ t. nat_lt 0 (count t others)) (alike_equal k (key x) is) ∙ stands))
    | inr alone ↦ absurd (not_none x _ (sym (ap (λ b. where_true (cond b (false ∷ are_alone (map key xs) (without_one (key x) others)) (true ∷ are_alone (map key xs) others)) (x ∷ xs)) alone) ∙ none))
  ]
    where
      not_none : (x : V) (xs : List V) → x ∷ xs ≡ [] → ⊥
      not_none x xs e = absurd cc

      one_more : (b : Bool) (n left m : ℕ) → n ≤ left → left ≡ m - cond b 1 0 → (b ≡ true → nat_lt 0 m ≡ true) → cond b 1 0 + n ≤ m
      one_more true n left m below is some = let positive = some refl in grind (arith, nat_tests)
      one_more false n left m below is some = omega arith

  -- and the other way round
  pub no_lone : (xs : List V) (others : List Texts) → ((k : Texts) → count k (map key xs) ≤ count k others) → where_true (are_alone (map key xs) others) xs ≡ []
  no_lone [] others few = refl
  no_lone (x ∷ xs) others few =
      let here = few (key x) in
      let some : list_any (are_alike (key x)) others ≡ true = any_counted (key x) others ∙ positive (are_alike (key x) (key x)) (count (key x) (map key xs)) (count (key x) others) (alike_itself (key x)) here in
      ap (λ b. where_true (cond b (false ∷ are_alone (map key xs) (without_one (key x) others)) (true ∷ are_alone (map key xs) others)) (x ∷ xs)) some
      ∙ no_lone xs (without_one (key x) others) (λ k. one_less (are_alike k (key x)) (count k (map key xs)) (count k (without_one (key x) others)) (count k others) (few k) (counted_without k (key x) others))
    where
      positive : (b : Bool) (n m : ℕ) → b ≡ true → cond b 1 0 + n ≤ m → nat_lt 0 m ≡ true
      positive true n m is few = grind (arith, nat_tests)
      positive false n m is few = absurd (false≢true is)

      one_less : (b : Bool) (n left m : ℕ) → cond b 1 0 + n ≤ m → left ≡ m - cond b 1 0 → n ≤ left
      one_less true n left m few is = omega arith
      one_less false n left m few is = omega arith

  -- the first that is alone has a key that stands less often among the others
  pub first_alone : (xs : List V) (others : List Texts) (x : V) (more : List V) → where_true (are_alone (map key xs) others) xs ≡ x ∷ more
      → count (key x) others < count (key x) (map key xs)
  first_alone [] others x more is = absurd cc
  first_alone (a ∷ xs) others x more is = elim (cases_Bool (list_any (are_alike (key a)) others)) [
    | inl some ↦ (
        let left = without_one (key a) others in
        let rest : where_true (are_alone (map key xs) left) xs ≡ x ∷ more = sym (ap (λ b. where_true (cond b (false ∷ are_alone (map key xs) left) (true ∷ are_alone (map key xs) others)) (a ∷ xs)) some) ∙ is in
        let below = first_alone xs left x more rest in
        shifted (are_alike (key x) (key a)) (count (key x) left) (count (key x) others) (count (key x) (map key xs)) below (counted_without (key x) (key a) others))
    | inr alone ↦ (
        let all : a ∷ where_true (are_alone (map key xs) others) xs ≡ x ∷ more = sym (ap (λ b. where_true (cond b (false ∷ are_alone (map key xs) (without_one (key a) others)) (true ∷ are_alone (map key xs) others)) (a ∷ xs)) alone) ∙ is in
        let same : a ≡ x = cc in
        let none : nat_lt 0 (count (key x) others) ≡ false = ap (λ v. nat_lt 0 (count (key v) others)) (sym same) ∙ sym (any_counted (key a) others) ∙ alone in
        lone (are_alike (key x) (key a)) (count (key x) others) (count (key x) (map key xs)) (ap (λ v. are_alike (key x) (key v)) same ∙ alike_itself (key x)) none)
  ]
    where
      shifted : (b : Bool) (left m n : ℕ) → left < n → left ≡ m - cond b 1 0 → m < cond b 1 0 + n
      shifted true left m n below is = omega arith
      shifted false left m n below is = omega arith

      lone : (b : Bool) (m n : ℕ) → b ≡ true → nat_lt 0 m ≡ false → m < cond b 1 0 + n
      lone true m n is none = grind (arith, nat_tests)
      lone false m n is none = absurd (false≢true is)
