-- The order key of a version stands in the order of versions.
use Rattle.std.proofs.Common.{◌≡◌, ℕ, zero, suc, ◌+◌, ◌-◌, ◌*◌, ◌/◌, ◌%◌, ◌^◌, ◌<◌, ◌≤◌, List, [], ◌∷◌, ◌++◌, Some, None, refl, sym, ap, ◌∙◌, arith, inl, inr, append_assoc, append-nil, ◌↔◌}
use Rattle.std.specs.List.{flat_map}
use Rattle.std.specs.Ordering.{nat_cmp, ordering_then}
use Rattle.std.specs.Option.{option_cmp}
use Rattle.std.specs.Cmp.{nat_cmp_is}
use Rattle.std.specs.Cmp.Lexicographic.{slice_cmp}
use Rattle.std.specs.declared.cmp.Ordering.{Ordering}
use Rattle.std.specs.declared.cmp.Ordering.TheVariants.{Less, Equal, Greater}
use Rattle.std.proofs.lemmas.Bool.{cases_lt, lt-ltb, le-ltb}
use Rattle.std.proofs.lemmas.Bool.Decides.{nat_tests}
use Rattle.std.proofs.Math.Nat.{pow-suc}
use Rattle.std.proofs.lemmas.Cmp.{nat_list_cmp_total, tied_itself}
use Rattle.std.specs.FinMap.{nat_cmp-IsAntisymmetric, slice_cmp-IsAntisymmetric}
use Rattle.pyver_core.specs.Version.OrderLaws.{then-Equal}
use Rattle.pyver_core.specs.Version.Order.{dev_cmp, phase_number, phase_rank, IsSame, segment_cmp, version_cmp}
use Rattle.pyver_core.specs.Version.OrderKey.{list_key, number_key, number_key_with_fuel, optional_key, order_key, segment_key}
use Rattle.pyver_core.specs.Version.Parts.{Parts}
use Rattle.pyver_core.specs.Version.Hashing.{without_trailing_zeros}
use Rattle.pyver_core.specs.Inner.Releases.{release_cmp_without_zeros}
use Rattle.pyver_core.specs.declared.version.part.LocalPart.{LocalPart}
use Rattle.pyver_core.specs.declared.version.part.LocalPart.TheVariants.{Number, Text}
use Rattle.pyver_core.proofs.Lemmas.Version.Order.InTurn.{then_assoc}

-- keys keep an order: what stands after two of them decides only where the order ties
abbrev pub Keeps : {X : Type 0} → (X → X → Ordering) → (X → List ℕ) → Type 0
Keeps {X} c key = (x y : X) (s t : List ℕ) → slice_cmp nat_cmp (key x ++ s) (key y ++ t) ≡ ordering_then (c x y) (slice_cmp nat_cmp s t)

-- a key begins with a byte from 1 to 254
abbrev pub IsBetween : List ℕ → Type 0
IsBetween key = (b : ℕ) × (rest : List ℕ) × (key ≡ b ∷ rest) × (0 < b) × (b < 255)

-- ---- comparisons of numbers

is_less : (m n : ℕ) → m < n → nat_cmp m n ≡ Less
is_less m n h = sym (nat_cmp_is m n Less h)

is_greater : (m n : ℕ) → n < m → nat_cmp m n ≡ Greater
is_greater m n h = sym (nat_cmp_is m n Greater h)

nat_cmp-above : (m n : ℕ) → nat_cmp (m + 1) (n + 1) ≡ nat_cmp m n
nat_cmp-above m n = grind (arith, nat_tests)

-- the quotients decide, and then the remainders
nat_cmp-split : (m n : ℕ) → nat_cmp m n ≡ ordering_then (nat_cmp (m / 256) (n / 256)) (nat_cmp (m % 256) (n % 256))
nat_cmp-split m n = grind (arith, nat_tests)

-- ---- numbers

with_fuel-short : (fuel n : ℕ) → n < 253 → number_key_with_fuel fuel n ≡ (n + 1) ∷ []
with_fuel-short zero n short = refl
with_fuel-short (suc fuel) n short = rw (lt-ltb n 253 short) refl

-- more fuel than the number makes no difference
with_fuel-more : (fuel more n : ℕ) → n ≤ fuel → n ≤ more → number_key_with_fuel fuel n ≡ number_key_with_fuel more n
with_fuel-more zero more n a b = with_fuel-short zero n (omega arith) ∙ sym (with_fuel-short more n (omega arith))
with_fuel-more (suc fuel) zero n a b = with_fuel-short (suc fuel) n (omega arith) ∙ sym (with_fuel-short zero n (omega arith))
with_fuel-more (suc fuel) (suc more) n a b = elim (cases_lt n 253) [
  | inl short ↦ with_fuel-short (suc fuel) n short ∙ sym (with_fuel-short (suc more) n short)
  | inr long ↦ rw (le-ltb n 253 long) (ap (λ (key : List ℕ). 254 ∷ (key ++ n % 256 ∷ [])) (with_fuel-more fuel more (n / 256) (omega arith) (omega arith)))
]

pub number_key-short : (n : ℕ) → n < 253 → number_key n ≡ (n + 1) ∷ []
unfolding number_key
number_key-short n short = with_fuel-short n n short

pub number_key-long : (n : ℕ) → 253 ≤ n → number_key n ≡ 254 ∷ (number_key (n / 256) ++ n % 256 ∷ [])
unfolding number_key
number_key-long zero long = absurd (omega arith)
number_key-long (suc k) long =
    rw (le-ltb (suc k) 253 long) (ap (λ (key : List ℕ). 254 ∷ (key ++ suc k % 256 ∷ [])) (with_fuel-more k (suc k / 256) (suc k / 256) (omega arith) (omega arith)))

pub number_between : (n : ℕ) → IsBetween (number_key n)
number_between n = elim (cases_lt n 253) [
  | inl short ↦ (n + 1, [], number_key-short n short, omega arith, omega arith)
  | inr long ↦ (254, number_key (n / 256) ++ n % 256 ∷ [], number_key-long n long, omega arith, omega arith)
]

both_long : (m n : ℕ) (a b s t : List ℕ) → slice_cmp nat_cmp (a ++ (m % 256 ∷ s)) (b ++ (n % 256 ∷ t)) ≡ ordering_then (nat_cmp (m / 256) (n / 256)) (slice_cmp nat_cmp (m % 256 ∷ s) (n % 256 ∷ t))
    → slice_cmp nat_cmp ((254 ∷ (a ++ m % 256 ∷ [])) ++ s) ((254 ∷ (b ++ n % 256 ∷ [])) ++ t) ≡ ordering_then (nat_cmp m n) (slice_cmp nat_cmp s t)
both_long m n a b s t inner =
    rw (append_assoc a (m % 256 ∷ []) s, append_assoc b (n % 256 ∷ []) t)
    (inner ∙ sym (then_assoc (nat_cmp (m / 256) (n / 256)) (nat_cmp (m % 256) (n % 256)) (slice_cmp nat_cmp s t))
    ∙ ap (λ (r : Ordering). ordering_then r (slice_cmp nat_cmp s t)) (sym (nat_cmp-split m n)))

short_left : (m n : ℕ) (s t : List ℕ) → m < 253 → slice_cmp nat_cmp (number_key m ++ s) (number_key n ++ t) ≡ ordering_then (nat_cmp m n) (slice_cmp nat_cmp s t)
short_left m n s t short = elim (cases_lt n 253) [
  | inl short' ↦ rw (number_key-short m short, number_key-short n short', nat_cmp-above m n) refl
  | inr long' ↦ rw (number_key-short m short, number_key-long n long', is_less (m + 1) 254 (omega arith), is_less m n (omega arith)) refl
]

short_right : (m n : ℕ) (s t : List ℕ) → 253 ≤ m → n < 253 → slice_cmp nat_cmp (number_key m ++ s) (number_key n ++ t) ≡ ordering_then (nat_cmp m n) (slice_cmp nat_cmp s t)
short_right m n s t long short = rw (number_key-long m long, number_key-short n short, is_greater 254 (n + 1) (omega arith), is_greater m n (omega arith)) refl

number_keeps_to : (bound m n : ℕ) (s t : List ℕ) → m ≤ bound → slice_cmp nat_cmp (number_key m ++ s) (number_key n ++ t) ≡ ordering_then (nat_cmp m n) (slice_cmp nat_cmp s t)
number_keeps_to zero m n s t below = short_left m n s t (omega arith)
number_keeps_to (suc bound) m n s t below = elim (cases_lt m 253) [
  | inl short ↦ short_left m n s t short
  | inr long ↦ elim (cases_lt n 253) [
    | inl short' ↦ short_right m n s t long short'
    | inr long' ↦ rw (number_key-long m long, number_key-long n long') (both_long m n (number_key (m / 256)) (number_key (n / 256)) s t (number_keeps_to bound (m / 256) (n / 256) (m % 256 ∷ s) (n % 256 ∷ t) (omega arith)))
  ]
]

pub number_keeps : Keeps nat_cmp number_key
number_keeps m n s t = number_keeps_to m m n s t (omega arith)

-- ---- writing a number

-- a byte taken off at the end of a number, once more of what stands before a greater number
pub pushed_long : (key rest : List ℕ) (n : ℕ) → 253 ≤ n → (key ++ 254 ∷ []) ++ (number_key (n / 256) ++ (n % 256 ∷ rest)) ≡ key ++ (number_key n ++ rest)
pushed_long key rest n long =
    append_assoc key (254 ∷ []) (number_key (n / 256) ++ (n % 256 ∷ rest))
    ∙ ap (λ (k : List ℕ). key ++ 254 ∷ k) (sym (append_assoc (number_key (n / 256)) (n % 256 ∷ []) rest))
    ∙ ap (λ (k : List ℕ). key ++ (k ++ rest)) (sym (number_key-long n long))

pub pushed_short : (key rest : List ℕ) (n : ℕ) → n < 253 → (key ++ (n + 1) ∷ []) ++ rest ≡ key ++ (number_key n ++ rest)
pushed_short key rest n short =
    append_assoc key ((n + 1) ∷ []) rest ∙ ap (λ (k : List ℕ). key ++ (k ++ rest)) (sym (number_key-short n short))

pub pushed_alone : (key : List ℕ) (n : ℕ) → n < 253 → key ++ (n + 1) ∷ [] ≡ key ++ number_key n
pushed_alone key n short = ap (λ (k : List ℕ). key ++ k) (sym (number_key-short n short))

-- a number that needs so many bytes needs one less without the last
pub one_byte_less : (bytes n : ℕ) → 253 ≤ n → n < 256 ^ bytes → (0 < bytes) × (n / 256 < 256 ^ (bytes - 1))
one_byte_less zero n long fits = absurd (omega arith)
one_byte_less (suc k) n long fits =
    let e : 256 ^ suc k ≡ 256 ^ k * 256 = pow-suc 256 k in
    let f : suc k - 1 ≡ k = omega arith in
    (omega arith, rw f (omega arith))

-- ---- what may be absent

-- the end of a list, or no post-release, stands before a number
before_key : (key s t : List ℕ) → IsBetween key → slice_cmp nat_cmp (0 ∷ s) (key ++ t) ≡ Less
before_key key s t (b, rest, is, above, below) = rw (is, is_less 0 b above) refl

behind_key : (key s t : List ℕ) → IsBetween key → slice_cmp nat_cmp (key ++ s) (0 ∷ t) ≡ Greater
behind_key key s t (b, rest, is, above, below) = rw (is, is_greater b 0 above) refl

-- no developmental release stands after one
before_none : (key s t : List ℕ) → IsBetween key → slice_cmp nat_cmp (key ++ s) (255 ∷ t) ≡ Less
before_none key s t (b, rest, is, above, below) = rw (is, is_less b 255 below) refl

behind_none : (key s t : List ℕ) → IsBetween key → slice_cmp nat_cmp (255 ∷ s) (key ++ t) ≡ Greater
behind_none key s t (b, rest, is, above, below) = rw (is, is_greater 255 b below) refl

pub post_keeps : Keeps (option_cmp nat_cmp) (optional_key 0)
post_keeps None None s t = refl
post_keeps None (Some n) s t = before_key (number_key n) s t (number_between n)
post_keeps (Some m) None s t = behind_key (number_key m) s t (number_between m)
post_keeps (Some m) (Some n) s t = number_keeps m n s t

pub dev_keeps : Keeps dev_cmp (optional_key 255)
dev_keeps None None s t = refl
dev_keeps None (Some n) s t = behind_none (number_key n) s t (number_between n)
dev_keeps (Some m) None s t = before_none (number_key m) s t (number_between m)
dev_keeps (Some m) (Some n) s t = number_keeps m n s t

-- ---- lists

list_key-more : {X : Type 0} (key : X → List ℕ) (x : X) (xs : List X) (s : List ℕ) → list_key key (x ∷ xs) ++ s ≡ key x ++ (list_key key xs ++ s)
list_key-more key x xs s =
    ap (λ (k : List ℕ). k ++ s) (append_assoc (key x) (flat_map key xs) (0 ∷ [])) ∙ append_assoc (key x) (list_key key xs) s

pub list_keeps : {X : Type 0} (c : X → X → Ordering) (key : X → List ℕ) → Keeps c key → ((x : X) → IsBetween (key x)) → Keeps (slice_cmp c) (list_key key)
list_keeps c key keeps between [] [] s t = refl
list_keeps c key keeps between [] (y ∷ ys) s t =
    ap (λ (k : List ℕ). slice_cmp nat_cmp (0 ∷ s) k) (list_key-more key y ys t) ∙ before_key (key y) s (list_key key ys ++ t) (between y)
list_keeps c key keeps between (x ∷ xs) [] s t =
    ap (λ (k : List ℕ). slice_cmp nat_cmp k (0 ∷ t)) (list_key-more key x xs s) ∙ behind_key (key x) (list_key key xs ++ s) t (between x)
list_keeps c key keeps between (x ∷ xs) (y ∷ ys) s t =
    (λ i. slice_cmp nat_cmp (list_key-more key x xs s i) (list_key-more key y ys t i))
    ∙ keeps x y (list_key key xs ++ s) (list_key key ys ++ t)
    ∙ ap (ordering_then (c x y)) (list_keeps c key keeps between xs ys s t)
    ∙ sym (then_assoc (c x y) (slice_cmp c xs ys) (slice_cmp nat_cmp s t))

numbers_keep : Keeps (slice_cmp nat_cmp) (list_key number_key)
numbers_keep = list_keeps nat_cmp number_key number_keeps number_between

segment_keeps : Keeps segment_cmp segment_key
segment_keeps (Number m) (Number n) s t = number_keeps m n s t
segment_keeps (Number m) (Text b) s t = refl
segment_keeps (Text a) (Number n) s t = refl
segment_keeps (Text a) (Text b) s t = numbers_keep a b s t

segment_between : (segment : LocalPart) → IsBetween (segment_key segment)
segment_between (Text text) = (1, list_key number_key text, refl, omega arith, omega arith)
segment_between (Number n) = (2, number_key n, refl, omega arith, omega arith)

segments_keep : Keeps (slice_cmp segment_cmp) (list_key segment_key)
segments_keep = list_keeps segment_cmp segment_key segment_keeps segment_between

-- ---- versions

-- the key of a version, with what stands after it
order_key-parts : (v : Parts) (s : List ℕ) → order_key v ++ s ≡ number_key v.epoch ++ (list_key number_key (without_trailing_zeros v.release) ++ (phase_rank v.pre v.post v.dev ∷ (number_key (phase_number v.pre) ++ (optional_key 0 v.post ++ (optional_key 255 v.dev ++ (list_key segment_key v.local ++ s))))))
order_key-parts v s = simp append_assoc

version_cmp-then : (v w : Parts) (r : Ordering) → ordering_then (version_cmp v w) r
    ≡ ordering_then (nat_cmp v.epoch w.epoch) (ordering_then (slice_cmp nat_cmp (without_trailing_zeros v.release) (without_trailing_zeros w.release))
    (ordering_then (nat_cmp (phase_rank v.pre v.post v.dev) (phase_rank w.pre w.post w.dev)) (ordering_then (nat_cmp (phase_number v.pre) (phase_number w.pre))
    (ordering_then (option_cmp nat_cmp v.post w.post) (ordering_then (dev_cmp v.dev w.dev) (ordering_then (slice_cmp segment_cmp v.local w.local) r))))))
unfolding version_cmp
version_cmp-then v w r = rw (release_cmp_without_zeros v.release w.release) (simp then_assoc)

-- the comparisons of two versions one by one, each with what stands after
pub order_keeps : Keeps version_cmp order_key
order_keeps v w s t =
    let K : List ℕ → List ℕ → Ordering = slice_cmp nat_cmp in
    let from_dev : List ℕ = optional_key 255 v.dev ++ (list_key segment_key v.local ++ s) in
    let from_dev' : List ℕ = optional_key 255 w.dev ++ (list_key segment_key w.local ++ t) in
    let from_number : List ℕ = number_key (phase_number v.pre) ++ (optional_key 0 v.post ++ from_dev) in
    let from_number' : List ℕ = number_key (phase_number w.pre) ++ (optional_key 0 w.post ++ from_dev') in
    let from_rank : List ℕ = phase_rank v.pre v.post v.dev ∷ from_number in
    let from_rank' : List ℕ = phase_rank w.pre w.post w.dev ∷ from_number' in
    let dev = dev_keeps v.dev w.dev (list_key segment_key v.local ++ s) (list_key segment_key w.local ++ t)
    ∙ ap (ordering_then (dev_cmp v.dev w.dev)) (segments_keep v.local w.local s t) in
    let post = post_keeps v.post w.post from_dev from_dev' ∙ ap (ordering_then (option_cmp nat_cmp v.post w.post)) dev in
    let number = number_keeps (phase_number v.pre) (phase_number w.pre) (optional_key 0 v.post ++ from_dev) (optional_key 0 w.post ++ from_dev')
    ∙ ap (ordering_then (nat_cmp (phase_number v.pre) (phase_number w.pre))) post in
    let rank = ap (ordering_then (nat_cmp (phase_rank v.pre v.post v.dev) (phase_rank w.pre w.post w.dev))) number in
    let stripped = without_trailing_zeros v.release in
    let stripped' = without_trailing_zeros w.release in
    let release = numbers_keep stripped stripped' from_rank from_rank' ∙ ap (ordering_then (slice_cmp nat_cmp stripped stripped')) rank in
    let epoch = number_keeps v.epoch w.epoch (list_key number_key stripped ++ from_rank) (list_key number_key stripped' ++ from_rank')
    ∙ ap (ordering_then (nat_cmp v.epoch w.epoch)) release in
    (λ i. K (order_key-parts v s i) (order_key-parts w t i)) ∙ epoch ∙ sym (version_cmp-then v w (K s t))

pub keys_order : (v w : Parts) → slice_cmp nat_cmp (order_key v) (order_key w) ≡ version_cmp v w
keys_order v w =
    (λ i. slice_cmp nat_cmp (sym (append-nil (order_key v)) i) (sym (append-nil (order_key w)) i))
    ∙ order_keeps v w [] [] ∙ then-Equal (version_cmp v w)

pub keys_equal : (v w : Parts) → IsSame v w ↔ (order_key v ≡ order_key w)
keys_equal v w = (
  λ (tie : IsSame v w). slice_cmp-IsAntisymmetric nat_cmp-IsAntisymmetric (order_key v) (order_key w) (keys_order v w ∙ tie),
  λ (one : order_key v ≡ order_key w). sym (keys_order v w)
      ∙ ap (λ (k : List ℕ). slice_cmp nat_cmp k (order_key w)) one ∙ tied_itself nat_list_cmp_total (order_key w),
)
