-- What the first two numbers of a release say of the version.
use Rattle.std.proofs.Common.{◌≡◌, ◌⊎◌, inl, inr, ℕ, zero, suc, ◌+◌, ◌<◌, ◌≤◌, Bool, true, false, List, [], ◌∷◌, ◌++◌, length, take, drop, min, nat_eq, slice_index_or, refl, sym, ap, ◌∙◌, arith}
use Rattle.std.specs.Prelude.{◌&&◌, ◌==◌, if◌then◌else◌, not}
use Rattle.std.specs.List.{list_all}
use Rattle.std.specs.Cmp.Lexicographic.{slice_cmp}
use Rattle.std.proofs.Math.Bool.{and-true, and_assoc}
use Rattle.std.specs.Cmp.{nat_cmp_is}
use Rattle.std.specs.Ordering.{is_eq, is_gt, is_lt, nat_cmp, ordering_then}
use Rattle.std.specs.declared.cmp.Ordering.{Ordering}
use Rattle.std.specs.declared.cmp.Ordering.TheVariants.{Less, Equal, Greater}
use Rattle.std.proofs.lemmas.Bool.{cases_order, cond-false, ne_eqb}
use Rattle.std.proofs.lemmas.List.{drop_min, take_min}
use Rattle.pyver_core.specs.Inner.Releases.{release_cmp-both, release_cmp_without_zeros}
use Rattle.pyver_core.specs.Set.Admission.{has_local, is_above, is_at_least, is_at_most, is_below, matches, matches_prefix}
use Rattle.pyver_core.specs.Version.Hashing.{prepend_unless_trailing, without_trailing_zeros}
use Rattle.pyver_core.specs.Version.Order.{release_cmp, version_cmp}
use Rattle.pyver_core.specs.Version.OrderLaws.{version_total}
use Rattle.pyver_core.specs.Version.Parts.{Parts, base_release, is_postrelease, is_prerelease}
use Rattle.pyver_algebra.specs.FirstTwo.{first_two}
use Rattle.pyver_algebra.specs.Firsts.{first_of}
use Rattle.pyver_algebra.specs.Limits.{is_between, is_past}
use Rattle.pyver_algebra.specs.Steps.{IsStepOf}
use Rattle.pyver_algebra.specs.declared.limit.Cut.{Cut}
use Rattle.pyver_algebra.specs.declared.step.Step.{Step}
use Rattle.pyver_algebra.proofs.AddLemmas.{before_is}
use Rattle.pyver_algebra.proofs.OrderLemmas.{bases_cmp, before_first, turned_lt}
use Rattle.pyver_algebra.proofs.PrefixLemmas.{begins, from_none, none_begins, none_is_zero, raised_or_more, some_begins}

-- ---- releases against two numbers

no_numbers : release_cmp [] [] ≡ Equal
unfolding release_cmp
no_numbers = refl

two_of_more : (x y : ℕ) (rest : List ℕ) (a b : ℕ) → release_cmp (x ∷ y ∷ rest) (a ∷ b ∷ []) ≡ ordering_then (nat_cmp x a) (ordering_then (nat_cmp y b) (release_cmp rest []))
two_of_more x y rest a b = release_cmp-both x (y ∷ rest) a (b ∷ []) ∙ ap (ordering_then (nat_cmp x a)) (release_cmp-both y rest b [])

two_of_one : (x a b : ℕ) (more : List ℕ) → release_cmp (x ∷ []) (a ∷ b ∷ more) ≡ release_cmp (x ∷ 0 ∷ []) (a ∷ b ∷ more)
two_of_one x a b more =
    release_cmp-both x [] a (b ∷ more) ∙ ap (ordering_then (nat_cmp x a)) (none_is_zero (b ∷ more)) ∙ sym (release_cmp-both x (0 ∷ []) a (b ∷ more))

two_of_none : (a b : ℕ) (more : List ℕ) → release_cmp [] (a ∷ b ∷ more) ≡ release_cmp (0 ∷ 0 ∷ []) (a ∷ b ∷ more)
two_of_none a b more = none_is_zero (a ∷ b ∷ more) ∙ two_of_one 0 a b more

lt_of_rest : (r q s t : Ordering) → is_lt s ≡ false → is_lt t ≡ false → is_lt (ordering_then r (ordering_then q s)) ≡ is_lt (ordering_then r (ordering_then q t))
lt_of_rest Less q s t e f = refl
lt_of_rest Equal Less s t e f = refl
lt_of_rest Equal Equal s t e f = e ∙ sym f
lt_of_rest Equal Greater s t e f = refl
lt_of_rest Greater q s t e f = refl

-- the first two numbers come before two others where the release does
lower : (r : List ℕ) (a b : ℕ) → is_lt (release_cmp r (a ∷ b ∷ [])) ≡ is_lt (release_cmp (take 2 r) (a ∷ b ∷ []))
lower [] a b = refl
lower (x ∷ []) a b = refl
lower (x ∷ y ∷ rest) a b =
    ap is_lt (two_of_more x y rest a b)
    ∙ lt_of_rest (nat_cmp x a) (nat_cmp y b) (release_cmp rest []) (release_cmp [] []) (from_none rest) (from_none [])
    ∙ ap is_lt (sym (two_of_more x y [] a b))

gt_of_two : (r s : Ordering) (y b : ℕ) → is_lt s ≡ false → (b ≡ y) ⊎ ((b < y) ⊎ (y < b))
    → is_gt (ordering_then r (ordering_then (nat_cmp y b) Equal)) ≡ not (is_lt (ordering_then r (ordering_then (nat_cmp y (b + 1)) s)))
gt_of_two Less s y b e order = refl
gt_of_two Greater s y b e order = refl
gt_of_two Equal s y b e (inl same) = rw (sym (nat_cmp_is y b Equal (sym same)), sym (nat_cmp_is y (b + 1) Less (omega arith))) refl
gt_of_two Equal s y b e (inr (inl more)) = rw (sym (nat_cmp_is y b Greater more), raised_or_more b y s more e (cases_order y (b + 1))) refl
gt_of_two Equal s y b e (inr (inr less)) = rw (sym (nat_cmp_is y b Less less), sym (nat_cmp_is y (b + 1) Less (omega arith))) refl

-- they come after two others where the release isn't before these with one more at the last
upper_two : (x y : ℕ) (rest : List ℕ) (a b : ℕ) → is_gt (release_cmp (x ∷ y ∷ []) (a ∷ b ∷ [])) ≡ not (is_lt (release_cmp (x ∷ y ∷ rest) (a ∷ (b + 1) ∷ [])))
upper_two x y rest a b =
    rw (two_of_more x y [] a b, two_of_more x y rest a (b + 1), no_numbers)
    (gt_of_two (nat_cmp x a) (release_cmp rest []) y b (from_none rest) (cases_order b y))

upper : (r : List ℕ) (a b : ℕ) → is_gt (release_cmp (take 2 r) (a ∷ b ∷ [])) ≡ not (is_lt (release_cmp r (a ∷ (b + 1) ∷ [])))
upper [] a b =
    ap is_gt (two_of_none a b []) ∙ upper_two 0 0 [] a b ∙ ap (λ (o : Ordering). not (is_lt o)) (sym (two_of_none a (b + 1) []))
upper (x ∷ []) a b =
    ap is_gt (two_of_one x a b []) ∙ upper_two x 0 [] a b ∙ ap (λ (o : Ordering). not (is_lt o)) (sym (two_of_one x a (b + 1) []))
upper (x ∷ y ∷ rest) a b = upper_two x y rest a b

-- a number alone is one with a 0 behind it
pub one_as_two : (x : List ℕ) (a : ℕ) → release_cmp x (a ∷ []) ≡ release_cmp x (a ∷ 0 ∷ [])
unfolding without_trailing_zeros
one_as_two x a = release_cmp_without_zeros x (a ∷ []) ∙ sym (release_cmp_without_zeros x (a ∷ 0 ∷ []))

pub one_number : (xs : List ℕ) → 1 ≤ length xs → length xs < 2 → (x : List ℕ) → release_cmp x xs ≡ release_cmp x (slice_index_or xs 0 0 ∷ 0 ∷ [])
one_number [] some less x = absurd (omega arith)
one_number (n ∷ []) some less x = one_as_two x n
one_number (m ∷ n ∷ ns) some less x = absurd (omega arith)

-- ---- two numbers with more behind them

abbrev pub are_zeros : List ℕ → Bool
are_zeros ns = list_all (λ n. n == 0) ns

zeros_go : (zs : List ℕ) → are_zeros zs ≡ true → without_trailing_zeros zs ≡ []
unfolding without_trailing_zeros
zeros_go [] all = refl
zeros_go (zero ∷ zs) all = ap (prepend_unless_trailing 0) (zeros_go zs all)
zeros_go (suc n ∷ zs) all = cc (all, ne_eqb (suc n) 0 (λ same. omega arith))

-- zeros behind the two make no difference
with_zeros_cmp : (x : List ℕ) (a b : ℕ) (zs : List ℕ) → are_zeros zs ≡ true → release_cmp x (a ∷ b ∷ zs) ≡ release_cmp x (a ∷ b ∷ [])
unfolding without_trailing_zeros
with_zeros_cmp x a b zs all =
    release_cmp_without_zeros x (a ∷ b ∷ zs)
    ∙ ap (λ (ys : List ℕ). slice_cmp nat_cmp (without_trailing_zeros x) (prepend_unless_trailing a (prepend_unless_trailing b ys))) (zeros_go zs all)
    ∙ sym (release_cmp_without_zeros x (a ∷ b ∷ []))

before_next : (n : ℕ) (o : Ordering) → ordering_then (nat_cmp 0 (suc n)) o ≡ Less
before_next n o = rw (sym (nat_cmp_is 0 (suc n) Less (omega arith))) refl

-- no numbers come before some that aren't all zeros
before_some : (zs : List ℕ) → are_zeros zs ≡ false → release_cmp [] zs ≡ Less
before_some [] some = cc some
before_some (zero ∷ zs) some = none_is_zero (0 ∷ zs) ∙ release_cmp-both 0 [] 0 zs ∙ before_some zs some
before_some (suc n ∷ zs) some = none_is_zero (suc n ∷ zs) ∙ release_cmp-both 0 [] (suc n) zs ∙ before_next n (release_cmp [] zs)

two_before : (x y a b : ℕ) (zs : List ℕ) → are_zeros zs ≡ false → release_cmp (x ∷ y ∷ []) (a ∷ b ∷ zs) ≡ ordering_then (nat_cmp x a) (ordering_then (nat_cmp y b) Less)
two_before x y a b zs some =
    release_cmp-both x (y ∷ []) a (b ∷ zs) ∙ ap (ordering_then (nat_cmp x a)) (release_cmp-both y [] b zs ∙ ap (ordering_then (nat_cmp y b)) (before_some zs some))

two_alone : (x y a b : ℕ) → release_cmp (x ∷ y ∷ []) (a ∷ b ∷ []) ≡ ordering_then (nat_cmp x a) (ordering_then (nat_cmp y b) Equal)
two_alone x y a b = two_of_more x y [] a b ∙ ap (λ (o : Ordering). ordering_then (nat_cmp x a) (ordering_then (nat_cmp y b) o)) no_numbers

gt_of_less : (r q : Ordering) → is_gt (ordering_then r (ordering_then q Less)) ≡ is_gt (ordering_then r (ordering_then q Equal))
gt_of_less Less q = refl
gt_of_less Equal Less = refl
gt_of_less Equal Equal = refl
gt_of_less Equal Greater = refl
gt_of_less Greater q = refl

lt_of_less : (r q : Ordering) → is_lt (ordering_then r (ordering_then q Less)) ≡ not (is_gt (ordering_then r (ordering_then q Equal)))
lt_of_less Less q = refl
lt_of_less Equal Less = refl
lt_of_less Equal Equal = refl
lt_of_less Equal Greater = refl
lt_of_less Greater q = refl

two_gt : (x y a b : ℕ) (zs : List ℕ) → are_zeros zs ≡ false → is_gt (release_cmp (x ∷ y ∷ []) (a ∷ b ∷ zs)) ≡ is_gt (release_cmp (x ∷ y ∷ []) (a ∷ b ∷ []))
two_gt x y a b zs some = ap is_gt (two_before x y a b zs some) ∙ gt_of_less (nat_cmp x a) (nat_cmp y b) ∙ ap is_gt (sym (two_alone x y a b))

two_lt : (x y a b : ℕ) (zs : List ℕ) → are_zeros zs ≡ false → is_lt (release_cmp (x ∷ y ∷ []) (a ∷ b ∷ zs)) ≡ not (is_gt (release_cmp (x ∷ y ∷ []) (a ∷ b ∷ [])))
two_lt x y a b zs some =
    ap is_lt (two_before x y a b zs some) ∙ lt_of_less (nat_cmp x a) (nat_cmp y b) ∙ ap (λ (o : Ordering). not (is_gt o)) (sym (two_alone x y a b))

-- the first two numbers of a release come after these where they come after the two
some_gt : (r : List ℕ) (a b : ℕ) (zs : List ℕ) → are_zeros zs ≡ false → is_gt (release_cmp (take 2 r) (a ∷ b ∷ zs)) ≡ is_gt (release_cmp (take 2 r) (a ∷ b ∷ []))
some_gt [] a b zs some = ap is_gt (two_of_none a b zs) ∙ two_gt 0 0 a b zs some ∙ ap is_gt (sym (two_of_none a b []))
some_gt (x ∷ []) a b zs some = ap is_gt (two_of_one x a b zs) ∙ two_gt x 0 a b zs some ∙ ap is_gt (sym (two_of_one x a b []))
some_gt (x ∷ y ∷ rest) a b zs some = two_gt x y a b zs some

-- and before them where they don't
some_lt : (r : List ℕ) (a b : ℕ) (zs : List ℕ) → are_zeros zs ≡ false → is_lt (release_cmp (take 2 r) (a ∷ b ∷ zs)) ≡ not (is_gt (release_cmp (take 2 r) (a ∷ b ∷ [])))
some_lt [] a b zs some = ap is_lt (two_of_none a b zs) ∙ two_lt 0 0 a b zs some ∙ ap (λ (o : Ordering). not (is_gt o)) (sym (two_of_none a b []))
some_lt (x ∷ []) a b zs some = ap is_lt (two_of_one x a b zs) ∙ two_lt x 0 a b zs some ∙ ap (λ (o : Ordering). not (is_gt o)) (sym (two_of_one x a b []))
some_lt (x ∷ y ∷ rest) a b zs some = two_lt x y a b zs some

not_twice : (b : Bool) → not (not b) ≡ b
not_twice true = refl
not_twice false = refl

-- the second of the least two numbers that are at least these
abbrev pub least_second : ℕ → List ℕ → ℕ
least_second b zs = if are_zeros zs then b else b + 1

lower_by : (r : List ℕ) (a b : ℕ) (zs : List ℕ) (all : Bool) → are_zeros zs ≡ all
    → is_lt (release_cmp r (a ∷ (if all then b else b + 1) ∷ [])) ≡ is_lt (release_cmp (take 2 r) (a ∷ b ∷ zs))
lower_by r a b zs true all = lower r a b ∙ ap is_lt (sym (with_zeros_cmp (take 2 r) a b zs all))
lower_by r a b zs false some =
    sym (not_twice (is_lt (release_cmp r (a ∷ (b + 1) ∷ [])))) ∙ ap not (sym (upper r a b)) ∙ sym (some_lt r a b zs some)

lower_more : (r : List ℕ) (a b : ℕ) (zs : List ℕ) → is_lt (release_cmp r (a ∷ least_second b zs ∷ [])) ≡ is_lt (release_cmp (take 2 r) (a ∷ b ∷ zs))
lower_more r a b zs = lower_by r a b zs (are_zeros zs) refl

upper_by : (r : List ℕ) (a b : ℕ) (zs : List ℕ) (all : Bool) → are_zeros zs ≡ all
    → is_gt (release_cmp (take 2 r) (a ∷ b ∷ zs)) ≡ not (is_lt (release_cmp r (a ∷ (b + 1) ∷ [])))
upper_by r a b zs true all = ap is_gt (with_zeros_cmp (take 2 r) a b zs all) ∙ upper r a b
upper_by r a b zs false some = some_gt r a b zs some ∙ upper r a b

upper_more : (r : List ℕ) (a b : ℕ) (zs : List ℕ) → is_gt (release_cmp (take 2 r) (a ∷ b ∷ zs)) ≡ not (is_lt (release_cmp r (a ∷ (b + 1) ∷ [])))
upper_more r a b zs = upper_by r a b zs (are_zeros zs) refl

-- ---- steps

operand_cmp : (operand v : Parts) → operand ≡ base_release operand → operand.epoch ≡ 0
    → version_cmp (first_two v) operand ≡ release_cmp (take 2 v.release) operand.release
operand_cmp operand v final epoch =
    ap (version_cmp (first_two v)) final ∙ bases_cmp (first_two v) operand
    ∙ ap (λ (n : ℕ). ordering_then (nat_cmp 0 n) (release_cmp (take 2 v.release) operand.release)) epoch

past_first : (cut : Cut) (v : Parts) (release : List ℕ) → cut.version ≡ first_of 0 release → cut.after ≡ false → v.epoch ≡ 0
    → is_past cut v ≡ not (is_lt (release_cmp v.release release))
past_first cut v release version after epoch =
    before_is cut (first_of 0 release) v version after ∙ ap not (before_first v 0 release)
    ∙ ap (λ (n : ℕ). not (is_lt (ordering_then (nat_cmp n 0) (release_cmp v.release release)))) epoch

pub is_step : (operand : Parts) (step : Step) (a b : ℕ) (more : List ℕ) → operand ≡ base_release operand → operand.epoch ≡ 0
    → ((x : List ℕ) → release_cmp x operand.release ≡ release_cmp x (a ∷ b ∷ more))
    → step.begin.version ≡ first_of 0 (a ∷ least_second b more ∷ []) → step.begin.after ≡ false
    → step.end.version ≡ first_of 0 (a ∷ (b + 1) ∷ []) → step.end.after ≡ false → IsStepOf operand step
is_step operand step a b more final epoch two begin_version begin_after end_version end_after = record {
  final = final;
  from = λ v none. past_first step.begin v (a ∷ least_second b more ∷ []) begin_version begin_after none
      ∙ ap not (lower_more v.release a b more ∙ ap is_lt (sym (two (take 2 v.release)) ∙ sym (operand_cmp operand v final epoch)));
  behind = λ v none. past_first step.end v (a ∷ (b + 1) ∷ []) end_version end_after none
      ∙ sym (upper_more v.release a b more) ∙ ap is_gt (sym (two (take 2 v.release)) ∙ sym (operand_cmp operand v final epoch));
}

-- ---- what specifiers say of the first two numbers

is_eq_of : (r : Ordering) → is_eq r ≡ (not (is_lt r) && not (is_gt r))
is_eq_of Less = refl
is_eq_of Equal = refl
is_eq_of Greater = refl

pub two_matches : (operand v : Parts) (step : Step) → IsStepOf operand step → v.epoch ≡ 0 → is_between step.begin step.end v ≡ matches operand (first_two v)
two_matches operand v step is none =
    (λ i. is.from v none i && not (is.behind v none i)) ∙ sym (is_eq_of (version_cmp (first_two v) operand))
    ∙ sym (cond-false (has_local operand) _ _ (ap (λ (w : Parts). has_local w) is.final))

pub two_at_least : (operand v : Parts) (step : Step) → IsStepOf operand step → v.epoch ≡ 0 → is_past step.begin v ≡ is_at_least operand (first_two v)
two_at_least operand v step is none = is.from v none

pub two_at_most : (operand v : Parts) (step : Step) → IsStepOf operand step → v.epoch ≡ 0 → is_past step.end v ≡ not (is_at_most operand (first_two v))
two_at_most operand v step is none = is.behind v none ∙ sym (turned_lt version_total operand (first_two v)) ∙ sym (twice (is_lt (version_cmp operand (first_two v))))
  where
    twice : (b : Bool) → not (not b) ≡ b
    twice true = refl
    twice false = refl

alone : (b x : Bool) → (b && not (x && false)) ≡ b
alone true true = refl
alone true false = refl
alone false x = refl

both_alone : (b x : Bool) → (b && (not (x && false) && true)) ≡ b
both_alone true true = refl
both_alone true false = refl
both_alone false x = refl

pub two_below : (operand v : Parts) (step : Step) → IsStepOf operand step → v.epoch ≡ 0 → is_past step.begin v ≡ not (is_below operand (first_two v))
two_below operand v step is none = is.from v none ∙ ap not (sym (alone (is_lt (version_cmp (first_two v) operand)) (not (is_prerelease operand))))

pub two_above : (operand v : Parts) (step : Step) → IsStepOf operand step → v.epoch ≡ 0 → is_past step.end v ≡ is_above operand (first_two v)
two_above operand v step is none =
    is.behind v none ∙ sym (turned_lt version_total operand (first_two v))
    ∙ sym (both_alone (is_lt (version_cmp operand (first_two v))) (not (is_postrelease operand)))

-- ---- prefixes of first two numbers

begins_short : (r prefix : List ℕ) → length prefix ≤ 2 → begins (take 2 r) prefix ≡ begins r prefix
begins_short r [] short = refl
begins_short [] prefix short = refl
begins_short (x ∷ []) prefix short = refl
begins_short (x ∷ y ∷ rest) (a ∷ []) short = some_begins x (y ∷ []) a [] ∙ sym (some_begins x (y ∷ rest) a [])
begins_short (x ∷ y ∷ rest) (a ∷ b ∷ []) short =
    some_begins x (y ∷ []) a (b ∷ []) ∙ ap (λ (t : Bool). nat_eq a x && t) (some_begins y [] b [] ∙ sym (some_begins y rest b []))
    ∙ sym (some_begins x (y ∷ rest) a (b ∷ []))
begins_short r (a ∷ b ∷ c ∷ more) short = absurd (omega arith)

-- no numbers, padded, begin with zeros alone
none_begins_zeros : (zs : List ℕ) → begins [] zs ≡ are_zeros zs
none_begins_zeros [] = refl
none_begins_zeros (z ∷ zs) = none_begins z zs ∙ ap (λ (t : Bool). nat_eq z 0 && t) (none_begins_zeros zs)

-- numbers behind as many as a release has are to be zeros
begins_behind : (r front zs : List ℕ) → length r ≤ length front → begins r (front ++ zs) ≡ (begins r front && are_zeros zs)
begins_behind [] [] zs fits = none_begins_zeros zs
begins_behind (y ∷ ys) [] zs fits = absurd (omega arith)
begins_behind [] (x ∷ xs) zs fits =
    none_begins x (xs ++ zs) ∙ ap (λ (t : Bool). nat_eq x 0 && t) (begins_behind [] xs zs (omega arith))
    ∙ sym (and_assoc (nat_eq x 0) (begins [] xs) (are_zeros zs)) ∙ ap (λ (t : Bool). t && are_zeros zs) (sym (none_begins x xs))
begins_behind (y ∷ ys) (x ∷ xs) zs fits =
    some_begins y ys x (xs ++ zs) ∙ ap (λ (t : Bool). nat_eq x y && t) (begins_behind ys xs zs (omega (arith, fits)))
    ∙ sym (and_assoc (nat_eq x y) (begins ys xs) (are_zeros zs)) ∙ ap (λ (t : Bool). t && are_zeros zs) (sym (some_begins y ys x xs))

two_at_most_long : (r : List ℕ) → length (take 2 r) ≤ 2
two_at_most_long [] = omega arith
two_at_most_long (x ∷ []) = omega arith
two_at_most_long (x ∷ y ∷ rest) = omega arith

-- a prefix says of first two numbers what its first two say of all, where all behind these are zeros, and else it matches none
begins_two : (r prefix : List ℕ) → begins (take 2 r) prefix ≡ (begins r (take 2 prefix) && are_zeros (drop 2 prefix))
begins_two r [] = refl
begins_two r (a ∷ []) = begins_short r (a ∷ []) (omega arith) ∙ sym (and-true (begins r (a ∷ [])))
begins_two r (a ∷ b ∷ more) =
    begins_behind (take 2 r) (a ∷ b ∷ []) more (two_at_most_long r)
    ∙ ap (λ (t : Bool). t && are_zeros more) (begins_short r (a ∷ b ∷ []) (omega arith))

two_prefix : (prefix : List ℕ) (v : Parts) → v.epoch ≡ 0
    → matches_prefix 0 prefix (first_two v) ≡ (matches_prefix 0 (take 2 prefix) v && are_zeros (drop 2 prefix))
two_prefix prefix v none =
    begins_two v.release prefix ∙ (λ i. ((sym none i) == 0) && begins v.release (take 2 prefix) && are_zeros (drop 2 prefix))

two_prefix_at : (prefix : List ℕ) (n : ℕ) (v : Parts) → n ≡ min 2 (length prefix) → v.epoch ≡ 0
    → matches_prefix 0 prefix (first_two v) ≡ (matches_prefix 0 (take n prefix) v && are_zeros (drop n prefix))
two_prefix_at prefix n v short none =
    let first : take 2 prefix ≡ take n prefix = sym (ap (λ (m : ℕ). take m prefix) short ∙ take_min 2 prefix) in
    let rest : drop 2 prefix ≡ drop n prefix = sym (ap (λ (m : ℕ). drop m prefix) short ∙ drop_min 2 prefix) in
    two_prefix prefix v none ∙ (λ i. matches_prefix 0 (first i) v && are_zeros (rest i))

pub prefix_with_zeros : (prefix front behind : List ℕ) (n : ℕ) (v : Parts) → n ≡ min 2 (length prefix) → front ≡ take n prefix → behind ≡ drop n prefix
    → are_zeros behind ≡ true → v.epoch ≡ 0 → matches_prefix 0 front v ≡ matches_prefix 0 prefix (first_two v)
prefix_with_zeros prefix front behind n v short first rest all none =
    let zeros : are_zeros (drop n prefix) ≡ true = ap are_zeros (sym rest) ∙ all in
    ap (λ (xs : List ℕ). matches_prefix 0 xs v) first ∙ sym (and-true (matches_prefix 0 (take n prefix) v))
    ∙ ap (λ (b : Bool). matches_prefix 0 (take n prefix) v && b) (sym zeros) ∙ sym (two_prefix_at prefix n v short none)

and_never : (b : Bool) → false ≡ (b && false)
and_never true = refl
and_never false = refl

pub prefix_with_more : (prefix behind : List ℕ) (n : ℕ) (v : Parts) → n ≡ min 2 (length prefix) → behind ≡ drop n prefix
    → are_zeros behind ≡ false → v.epoch ≡ 0 → false ≡ matches_prefix 0 prefix (first_two v)
prefix_with_more prefix behind n v short rest some none =
    let other : are_zeros (drop n prefix) ≡ false = ap are_zeros (sym rest) ∙ some in
    and_never (matches_prefix 0 (take n prefix) v)
    ∙ ap (λ (b : Bool). matches_prefix 0 (take n prefix) v && b) (sym other) ∙ sym (two_prefix_at prefix n v short none)
