-- The longest prefix of a text whose bytes pass a test, and the text after it.
use Rattle.std.proofs.Common.{◌≡◌, ℕ, suc, ◌+◌, ◌≤◌, Bool, true, false, List, [], ◌∷◌, ◌++◌, length, take, drop, refl, sym, ap, ◌∙◌, arith, inl, inr}
use Rattle.std.specs.List.{list_all, prefix_len}
use Rattle.std.proofs.lemmas.Bool.{and_parts, cases_Bool, cases_lt}
use Rattle.std.proofs.lemmas.List.{drop_all, drop_at, drop_more, take_at}
use Rattle.std.proofs.lemmas.List.Sums.{prefix_len-le-length, prefix_len_stops}
use Rattle.pytext.specs.Bytes.{starts}

one_plus : (n : ℕ) → 1 + n ≡ suc n
one_plus n = omega arith

pub list_all_prefix : (test : ℕ → Bool) (xs : List ℕ) → list_all test (take (prefix_len test xs) xs) ≡ true
list_all_prefix test [] = refl
list_all_prefix test (x ∷ xs) = elim (cases_Bool (test x)) [
  | inl passes ↦ rw (passes, one_plus (prefix_len test xs), passes) (list_all_prefix test xs)
  | inr fails ↦ rw fails refl
]

pub ruleset prefixes = (prefix_len-le-length, list_all_prefix)

-- the text after the longest prefix doesn't begin with such a byte
pub starts_drop : (test : ℕ → Bool) (text : List ℕ) → starts test (drop (prefix_len test text) text) ≡ false
starts_drop test text =
    elim (cases_lt (prefix_len test text) (length text)) [
      | inl inside ↦ ap (starts test) (drop_more text (prefix_len test text) 0 inside) ∙ prefix_len_stops test text 0 inside
      | inr past ↦ ap (starts test) (drop_all (prefix_len test text) text past)
    ]

-- ---- a prefix that is as long as it can be

pub all_cons : (test : ℕ → Bool) (b : ℕ) (rest : List ℕ) → list_all test (b ∷ rest) ≡ true → (test b ≡ true) × (list_all test rest ≡ true)
all_cons test b rest e = and_parts (test b) (list_all test rest) e

pub prefix_len_exact : (test : ℕ → Bool) (prefix next : List ℕ) → list_all test prefix ≡ true → starts test next ≡ false → prefix_len test (prefix ++ next) ≡ length prefix
prefix_len_exact test [] [] all stops = refl
prefix_len_exact test [] (b ∷ next) all stops = rw stops refl
prefix_len_exact test (b ∷ prefix) next all stops =
    let c = all_cons test b prefix all in
    let passes : test b ≡ true = c.0 in
    rw (passes, prefix_len_exact test prefix next c.1 stops) (one_plus (length prefix))

pub take_exact : (test : ℕ → Bool) (prefix next : List ℕ) → list_all test prefix ≡ true → starts test next ≡ false → take (prefix_len test (prefix ++ next)) (prefix ++ next) ≡ prefix
take_exact test prefix next all stops = take_at prefix next (prefix_len test (prefix ++ next)) (sym (prefix_len_exact test prefix next all stops))

pub drop_exact : (test : ℕ → Bool) (prefix next : List ℕ) → list_all test prefix ≡ true → starts test next ≡ false → drop (prefix_len test (prefix ++ next)) (prefix ++ next) ≡ next
drop_exact test prefix next all stops = drop_at prefix next (prefix_len test (prefix ++ next)) (sym (prefix_len_exact test prefix next all stops))

-- what all bytes pass, the first one passes
pub starts_all : (test : ℕ → Bool) (prefix next : List ℕ) → 1 ≤ length prefix → list_all test prefix ≡ true → starts test (prefix ++ next) ≡ true
starts_all test [] next has all = absurd (omega arith)
starts_all test (b ∷ prefix) next has all = (all_cons test b prefix all).0

-- where each byte passes one test, the first byte fails another
pub starts_none : (test fails : ℕ → Bool) → ((b : ℕ) → test b ≡ true → fails b ≡ false) → (prefix next : List ℕ) → list_all test prefix ≡ true → starts fails next ≡ false → starts fails (prefix ++ next) ≡ false
starts_none test fails apart [] next all stops = stops
starts_none test fails apart (b ∷ prefix) next all stops = apart b (all_cons test b prefix all).0
