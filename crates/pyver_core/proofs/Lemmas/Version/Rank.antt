-- Versions that have a rank compare as their ranks do.
use Rattle.std.proofs.Common.{◌≡◌, ◌≢◌, ℕ, suc, ◌+◌, ◌-◌, ◌*◌, ◌<◌, ◌≤◌, ◌==◌, ◌&&◌, cond, not, Bool, true, false, List, [], ◌∷◌, length, Option, Some, None, refl, sym, ap, ◌∙◌, arith}
use Rattle.std.proofs.Math.Nat.{mul-le-mul_left}
use Rattle.std.proofs.lemmas.Bool.{eqb-true, ltb-true}
use Rattle.std.proofs.lemmas.List.{nil_from_length}
use Rattle.std.specs.Prelude.{nat_lt}
use Rattle.std.specs.List.{fold, list_all}
use Rattle.std.specs.Ordering.{MatchOrdering, nat_cmp, ordering_then}
use Rattle.std.specs.Option.{option_cmp}
use Rattle.std.specs.Cmp.{first_so, nat_cmp_is, ranks, second_so}
use Rattle.std.specs.Cmp.Lexicographic.{slice_cmp}
use Rattle.std.specs.declared.cmp.Ordering.{Ordering}
use Rattle.std.specs.declared.cmp.Ordering.TheVariants.{Less, Equal, Greater}
use Rattle.pyver_core.specs.Inner.Rank.{are_digits, four_numbers, has_rank, in_base_4096, is_one_suffix, rank_of, suffix_of}
use Rattle.pyver_core.specs.Inner.Releases.{release_cmp_without_zeros, same_length_cmp, without_trailing_zeros-append_zeros}
use Rattle.pyver_core.specs.Version.Order.{cmp_in_turn, dev_cmp, phase_number, phase_rank, release_cmp, version_cmp}
use Rattle.pyver_core.specs.Version.OrderLaws.{then-Equal}
use Rattle.pyver_core.specs.Version.Parts.{Parts, public_part}
use Rattle.pyver_core.specs.declared.version.part.PreKind.{PreKind}
use Rattle.pyver_core.specs.declared.version.part.PreKind.TheVariants.{A, B, Rc}
use Rattle.pyver_core.proofs.Lemmas.Version.Order.InTurn.{then_assoc}

-- ---- digits

-- two numbers compare by what stands in front of their last digits, and then by these
digit_decides : (base a b x y : ℕ) → x < base → y < base → (front last : Ordering)
    → MatchOrdering front (a < b) (a ≡ b) (b < a) → MatchOrdering last (x < y) (x ≡ y) (y < x)
    → MatchOrdering (ordering_then front last) (a * base + x < b * base + y) (a * base + x ≡ b * base + y) (b * base + y < a * base + x)
digit_decides base a b x y left right Less last front is = let next : suc a ≤ b = omega arith in omega (arith, mul-le-mul_left base next)
digit_decides base a b x y left right Equal Less front is = let same : a * base ≡ b * base = ap (λ n. n * base) front in omega (arith, same)
digit_decides base a b x y left right Equal Equal front is = λ i. front i * base + is i
digit_decides base a b x y left right Equal Greater front is = let same : a * base ≡ b * base = ap (λ n. n * base) front in omega (arith, same)
digit_decides base a b x y left right Greater last front is = let next : suc b ≤ a = omega arith in omega (arith, mul-le-mul_left base next)

nat_cmp-digit : (base a b x y : ℕ) → x < base → y < base
    → nat_cmp (a * base + x) (b * base + y) ≡ ordering_then (nat_cmp a b) (nat_cmp x y)
nat_cmp-digit base a b x y left right =
    sym (nat_cmp_is (a * base + x) (b * base + y) _ (digit_decides base a b x y left right (nat_cmp a b) (nat_cmp x y) (ranks a b) (ranks x y)))

-- ---- the release

-- digits below 4096 compare one by one, behind what stands in front of them
digits_in_turn : (p q : List ℕ) (r s : ℕ) → length p ≡ length q → list_all (λ n. nat_lt n 4096) p ≡ true → list_all (λ n. nat_lt n 4096) q ≡ true
    → nat_cmp (fold (λ front n. front * 4096 + n) r p) (fold (λ front n. front * 4096 + n) s q) ≡ ordering_then (nat_cmp r s) (slice_cmp nat_cmp p q)
digits_in_turn [] [] r s same left right = sym (then-Equal (nat_cmp r s))
digits_in_turn (x ∷ p) (y ∷ q) r s same left right =
    digits_in_turn p q (r * 4096 + x) (s * 4096 + y) (omega arith) (second_so _ _ left) (second_so _ _ right)
    ∙ ap (λ o. ordering_then o (slice_cmp nat_cmp p q))
    (nat_cmp-digit 4096 r s x y (ltb-true x 4096 (first_so _ _ left)) (ltb-true y 4096 (first_so _ _ right)))
    ∙ then_assoc (nat_cmp r s) (nat_cmp x y) (slice_cmp nat_cmp p q)
digits_in_turn p q r s same left right = absurd (omega arith)

-- releases compare as four numbers each
padded_cmp : (a b : List ℕ) → length (four_numbers a) ≡ 4 → length (four_numbers b) ≡ 4
    → release_cmp a b ≡ slice_cmp nat_cmp (four_numbers a) (four_numbers b)
padded_cmp a b left right =
    release_cmp_without_zeros a b
    ∙ (λ i. slice_cmp nat_cmp (sym (without_trailing_zeros-append_zeros a (4 - length a)) i) (sym (without_trailing_zeros-append_zeros b (4 - length b)) i))
    ∙ sym (same_length_cmp (four_numbers a) (four_numbers b) (left ∙ sym right))

-- ---- the suffix

-- suffixes of which a version has one or none compare by their kinds, and then by their numbers
suffixes_in_turn : (p : Option (PreKind × ℕ)) (q d : Option ℕ) (p' : Option (PreKind × ℕ)) (q' d' : Option ℕ) → (suffix_of p q d).0 ≢ 0 → (suffix_of p' q' d').0 ≢ 0
    → ordering_then (nat_cmp (suffix_of p q d).0 (suffix_of p' q' d').0) (nat_cmp (suffix_of p q d).1 (suffix_of p' q' d').1)
    ≡ cmp_in_turn (nat_cmp (phase_rank p q d) (phase_rank p' q' d') ∷ nat_cmp (phase_number p) (phase_number p') ∷ option_cmp nat_cmp q q' ∷ dev_cmp d d' ∷ Equal ∷ [])
suffixes_in_turn (Some (A, m)) None None (Some (A, n)) None None left right = sym (then-Equal (nat_cmp m n))
suffixes_in_turn (Some (B, m)) None None (Some (B, n)) None None left right = sym (then-Equal (nat_cmp m n))
suffixes_in_turn (Some (Rc, m)) None None (Some (Rc, n)) None None left right = sym (then-Equal (nat_cmp m n))
suffixes_in_turn None None (Some m) None None (Some n) left right = sym (then-Equal (nat_cmp m n))
suffixes_in_turn None (Some m) None None (Some n) None left right = sym (then-Equal (nat_cmp m n))
suffixes_in_turn (Some p) (Some q) d p' q' d' left right = absurd (left refl)
suffixes_in_turn (Some p) None (Some d) p' q' d' left right = absurd (left refl)
suffixes_in_turn None (Some q) (Some d) p' q' d' left right = absurd (left refl)
suffixes_in_turn p q d (Some p') (Some q') d' left right = absurd (right refl)
suffixes_in_turn p q d (Some p') None (Some d') left right = absurd (right refl)
suffixes_in_turn p q d None (Some q') (Some d') left right = absurd (right refl)
suffixes_in_turn p q d (Some (A, n)) None None left right = refl
suffixes_in_turn p q d None None (Some n) left right = refl
suffixes_in_turn p q d p' q' d' left right = refl

kind_fits : (p : Option (PreKind × ℕ)) (q d : Option ℕ) → (suffix_of p q d).0 < 8
kind_fits None None (Some d) = omega arith
kind_fits None (Some q) (Some d) = omega arith
kind_fits (Some (A, n)) None (Some d) = omega arith
kind_fits (Some (B, n)) None (Some d) = omega arith
kind_fits (Some (Rc, n)) None (Some d) = omega arith
kind_fits p q d = omega arith

-- ---- the rank

-- what a version has that has a rank
record Ranked (v : Parts) : Type 0 where
  epoch : v.epoch ≡ 0
  local : v.local ≡ []
  four : length (four_numbers v.release) ≡ 4
  digits : list_all (λ n. nat_lt n 4096) (four_numbers v.release) ≡ true
  kind : (suffix_of v.pre v.post v.dev).0 ≢ 0
  number : (suffix_of v.pre v.post v.dev).1 < 8192
  rank : rank_of v ≡ (in_base_4096 (four_numbers v.release) * 8 + (suffix_of v.pre v.post v.dev).0) * 8192 + (suffix_of v.pre v.post v.dev).1

chosen : (b : Bool) (n : ℕ) → cond b n 0 ≢ 0 → b ≡ true
chosen true n some = refl
chosen false n some = absurd (some refl)

is_one : (b : Bool) (n : ℕ) → (not (n == 0) && b) ≡ true → n ≢ 0
is_one b n e none = cc (e, ap (λ k. not (k == 0) && b) none)

is_ranked : (v : Parts) → rank_of v ≢ 0 → Ranked v
unfolding rank_of
is_ranked v some =
    let suffix = suffix_of v.pre v.post v.dev in
    let all : has_rank v ≡ true = chosen (has_rank v) _ some in
    let behind = second_so _ _ all in
    let parts = second_so _ _ behind in
    let one : is_one_suffix suffix ≡ true = first_so _ _ parts in
    let digits : are_digits (four_numbers v.release) ≡ true = second_so _ _ parts in
    record {
      epoch = eqb-true v.epoch 0 (first_so _ _ all);
      local = nil_from_length v.local (eqb-true (length v.local) 0 (first_so _ _ behind));
      four = eqb-true _ 4 (first_so _ _ digits);
      digits = second_so _ _ digits;
      kind = is_one (nat_lt suffix.1 8192) suffix.0 one;
      number = ltb-true suffix.1 8192 (second_so _ _ one);
      rank = ap (λ b. cond b ((in_base_4096 (four_numbers v.release) * 8 + suffix.0) * 8192 + suffix.1) 0) all;
    }

-- versions with a rank have no other epoch and no local part
two_are_left : (v w : Parts) → Ranked v → Ranked w
    → ordering_then (release_cmp v.release w.release) (cmp_in_turn (nat_cmp (phase_rank v.pre v.post v.dev) (phase_rank w.pre w.post w.dev)
    ∷ nat_cmp (phase_number v.pre) (phase_number w.pre) ∷ option_cmp nat_cmp v.post w.post ∷ dev_cmp v.dev w.dev ∷ Equal ∷ []))
    ≡ version_cmp v w
unfolding version_cmp
two_are_left v w left right = rw (left.epoch, right.epoch, left.local, right.local) refl

rank_decides : (v w : Parts) → Ranked v → Ranked w → nat_cmp (rank_of v) (rank_of w) ≡ version_cmp v w
rank_decides v w left right =
    let r = in_base_4096 (four_numbers v.release) in
    let s = in_base_4096 (four_numbers w.release) in
    let a = suffix_of v.pre v.post v.dev in
    let b = suffix_of w.pre w.post w.dev in
    let releases : nat_cmp r s ≡ release_cmp v.release w.release =
    digits_in_turn (four_numbers v.release) (four_numbers w.release) 0 0 (left.four ∙ sym right.four) left.digits right.digits
    ∙ sym (padded_cmp v.release w.release left.four right.four) in
    let ranked : nat_cmp (rank_of v) (rank_of w) ≡ ordering_then (nat_cmp r s) (ordering_then (nat_cmp a.0 b.0) (nat_cmp a.1 b.1)) =
    (λ i. nat_cmp (left.rank i) (right.rank i))
    ∙ nat_cmp-digit 8192 (r * 8 + a.0) (s * 8 + b.0) a.1 b.1 left.number right.number
    ∙ ap (λ o. ordering_then o (nat_cmp a.1 b.1)) (nat_cmp-digit 8 r s a.0 b.0 (kind_fits v.pre v.post v.dev) (kind_fits w.pre w.post w.dev))
    ∙ then_assoc (nat_cmp r s) (nat_cmp a.0 b.0) (nat_cmp a.1 b.1) in
    ranked ∙ (λ i. ordering_then (releases i) (suffixes_in_turn v.pre v.post v.dev w.pre w.post w.dev left.kind right.kind i))
    ∙ two_are_left v w left right

pub ranks_decide : (v w : Parts) → rank_of v ≢ 0 → rank_of w ≢ 0 → nat_cmp (rank_of v) (rank_of w) ≡ version_cmp v w
ranks_decide v w left right = rank_decides v w (is_ranked v left) (is_ranked w right)

pub public_left : (v w : Parts) → rank_of v ≢ 0 → rank_of w ≢ 0 → nat_cmp (rank_of v) (rank_of w) ≡ version_cmp (public_part v) w
public_left v w left right = ranks_decide v w left right ∙ (λ i. version_cmp (record v { local = (is_ranked v left).local i }) w)

pub public_right : (v w : Parts) → rank_of v ≢ 0 → rank_of w ≢ 0 → nat_cmp (rank_of v) (rank_of w) ≡ version_cmp v (public_part w)
public_right v w left right = ranks_decide v w left right ∙ (λ i. version_cmp v (record w { local = (is_ranked w right).local i }))

pub ruleset by_rank = (ranks_decide, public_left, public_right)
