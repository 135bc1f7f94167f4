-- Numbers, dates and times in front of other bytes: where the whole is the same, so are the parts.
use Rattle.std.proofs.Common.{◌≡◌, ◌∙◌, ◌++◌, ℕ, ◌+◌, ◌-◌, ◌/◌, ◌%◌, ◌<◌, ◌^◌, true, false, cond, codes, List, [], ◌∷◌, length, replicate, Option, Some, None, ℤ, pos, negsuc, Float, T, FitsSigned, suc, rules, refl, sym, ap, inl, inr, arith}
use Rattle.std.proofs.lemmas.Bool.{cases_Bool, false≢true}
use Rattle.std.proofs.lemmas.Fmt.{decimal_injective, digits_is_IsNumeral, signed_decimal_injective}
use lib.Ieee.Bits.{of_bits-to_bits, to_bits-lt}
use lib.Signed.{mag}
use Rattle.std.specs.Float.{binary64}
use Rattle.std.specs.Float.Ieee.{fits, is_nan, nan, inf, fin, to_bits, of_bits}
use Rattle.std.specs.Fmt.{decimal, digits, signed_decimal}
use Rattle.std.specs.Int.{w64}
use Rattle.std.specs.Str.Parse.{digits_value}
use Rattle.toml_datetime.specs.declared.datetime.Date.{Date}
use Rattle.toml_datetime.specs.declared.datetime.Time.{Time}
use Rattle.toml_datetime.specs.declared.datetime.Offset.{Offset}
use Rattle.toml_datetime.specs.declared.datetime.Offset.TheVariants.{Z, Custom}
use Rattle.toml_datetime.specs.declared.datetime.Datetime.{Datetime}
use Rattle.toml_datetime.specs.Valid.{magnitude}
use Rattle.pytoml_code.specs.Proper.{IfThere, IsDate, IsDatetime, IsOffset, IsSmall, IsTime}
use Rattle.pytoml_code.specs.Scalar.{between, date_code, datetime_code, float_word, nanosecond_code, offset_code, padded, part, second_code, sign_of, time_code}
use Rattle.pytoml_code.specs.Text.{ended}
use Rattle.pytoml_code.proofs.WordLemmas.{Lacks, cons_parts, ended_parts, lacks_digits_of, lacks_zeros, marked_parts, joined-3, joined-4, joined-5, joined-6}

-- ---- numbers

lacks_decimal : (n : ℕ) → IsSmall n → Lacks 0 (decimal n)
lacks_decimal n small = lacks_digits_of 10 (omega arith) (omega arith) n (omega arith)

number_parts : (m n : ℕ) (s t : List ℕ) → IsSmall m → IsSmall n → ended (decimal m) ++ s ≡ ended (decimal n) ++ t → (m ≡ n) × (s ≡ t)
number_parts m n s t small few e =
    let parts = ended_parts (decimal m) (decimal n) s t (lacks_decimal m small) (lacks_decimal n few) e in
    (decimal_injective m n small few parts.0, parts.1)

pub padded_parts : (width m n : ℕ) (s t : List ℕ) → IsSmall m → IsSmall n → padded width m ++ s ≡ padded width n ++ t → (m ≡ n) × (s ≡ t)
padded_parts width m n s t small few e =
    let zeros = λ (k : ℕ). width - length (decimal k) in
    let parts = marked_parts 1 (replicate (zeros m) 48) (replicate (zeros n) 48) s t (ended (decimal m)) (ended (decimal n)) (lacks_zeros (zeros m)) (lacks_zeros (zeros n)) e in
    number_parts m n s t small few parts.1

-- ---- floats and integers

float_bits : (x : Float) → T (fits binary64 x) → to_bits binary64 x < 16 ^ 64
float_bits x fit = let small = to_bits-lt binary64 x fit in omega arith

lacks_float : (x : Float) → T (fits binary64 x) → Lacks 0 (float_word x)
lacks_float x fit = elim (cases_Bool (is_nan x)) [
  | inl is ↦ rw is (λ e. omega arith, (λ e. omega arith, (λ e. omega arith, tt)))
  | inr other ↦ rw other (λ e. omega arith, (λ e. omega arith, lacks_digits_of 16 (omega arith) (omega arith) (to_bits binary64 x) (float_bits x fit)))
]

is_the_nan : (x : Float) → is_nan x ≡ true → x ≡ nan
unfolding is_nan
is_the_nan nan is = refl
is_the_nan (inf s) is = absurd (false≢true is)
is_the_nan (fin s m e) is = absurd (false≢true is)

hex_exact : (m n : ℕ) → m < 16 ^ 64 → n < 16 ^ 64 → digits 16 false m ≡ digits 16 false n → m ≡ n
hex_exact m n small few e =
    sym (digits_is_IsNumeral 16 false (omega arith) (omega arith) m small).1 ∙ ap (digits_value 16) e ∙ (digits_is_IsNumeral 16 false (omega arith) (omega arith) n few).1

float_exact : (x y : Float) → T (fits binary64 x) → T (fits binary64 y) → float_word x ≡ float_word y → x ≡ y
float_exact x y fit good e = elim (cases_Bool (is_nan x)) [
  | inl p ↦ elim (cases_Bool (is_nan y)) [
    | inl q ↦ is_the_nan x p ∙ sym (is_the_nan y q)
    | inr q ↦ (
        let both : codes "nan" ≡ codes "0x" ++ digits 16 false (to_bits binary64 y) = (λ i. cond (sym p i) (codes "nan") (codes "0x" ++ digits 16 false (to_bits binary64 x))) ∙ e ∙ (λ i. cond (q i) (codes "nan") (codes "0x" ++ digits 16 false (to_bits binary64 y))) in
        let heads = (cons_parts 110 48 _ _ both).0 in
        absurd (omega arith))
  ]
  | inr p ↦ elim (cases_Bool (is_nan y)) [
    | inl q ↦ (
        let both : codes "0x" ++ digits 16 false (to_bits binary64 x) ≡ codes "nan" = (λ i. cond (sym p i) (codes "nan") (codes "0x" ++ digits 16 false (to_bits binary64 x))) ∙ e ∙ (λ i. cond (q i) (codes "nan") (codes "0x" ++ digits 16 false (to_bits binary64 y))) in
        let heads = (cons_parts 48 110 _ _ both).0 in
        absurd (omega arith))
    | inr q ↦ (
        let both : codes "0x" ++ digits 16 false (to_bits binary64 x) ≡ codes "0x" ++ digits 16 false (to_bits binary64 y) = (λ i. cond (sym p i) (codes "nan") (codes "0x" ++ digits 16 false (to_bits binary64 x))) ∙ e ∙ (λ i. cond (q i) (codes "nan") (codes "0x" ++ digits 16 false (to_bits binary64 y))) in
        let rest = (cons_parts 120 120 _ _ (cons_parts 48 48 _ _ both).1).1 in
        let bits = hex_exact (to_bits binary64 x) (to_bits binary64 y) (float_bits x fit) (float_bits y good) rest in
        sym (of_bits-to_bits binary64 x fit) ∙ ap (of_bits binary64) bits ∙ of_bits-to_bits binary64 y good)
  ]
]

pub float_parts : (x y : Float) (s t : List ℕ) → T (fits binary64 x) → T (fits binary64 y) → ended (float_word x) ++ s ≡ ended (float_word y) ++ t → (x ≡ y) × (s ≡ t)
float_parts x y s t fit good e =
    let parts = ended_parts (float_word x) (float_word y) s t (lacks_float x fit) (lacks_float y good) e in
    (float_exact x y fit good parts.0, parts.1)

lacks_signed : (z : ℤ) → mag z < 2 ^ 63 + 1 → Lacks 0 (signed_decimal z)
lacks_signed (pos n) small = lacks_decimal n (omega arith)
lacks_signed (negsuc n) small = (λ e. omega arith, lacks_decimal (suc n) (omega arith))

pub integer_parts : (y z : ℤ) (s t : List ℕ) → FitsSigned w64 y → FitsSigned w64 z → ended (signed_decimal y) ++ s ≡ ended (signed_decimal z) ++ t → (y ≡ z) × (s ≡ t)
integer_parts y z s t fit good e =
    let small : mag y < 2 ^ 63 = search rules in
    let few : mag z < 2 ^ 63 = search rules in
    let parts = ended_parts (signed_decimal y) (signed_decimal z) s t (lacks_signed y (omega arith)) (lacks_signed z (omega arith)) e in
    (signed_decimal_injective y z small few parts.0, parts.1)

-- ---- parts that may be left out

part_parts : {A : Type 0} (written : A → List ℕ) (P : A → Type 0) → ((x y : A) (s t : List ℕ) → P x → P y → written x ++ s ≡ written y ++ t → (x ≡ y) × (s ≡ t))
    → (x y : Option A) (s t : List ℕ) → IfThere P x → IfThere P y → part written x ++ s ≡ part written y ++ t → (x ≡ y) × (s ≡ t)
part_parts written P parts None None s t p q e = (refl, (cons_parts 0 0 s t e).1)
part_parts written P parts None (Some y) s t p q e = let heads = (cons_parts 0 1 s (written y ++ t) e).0 in absurd (omega arith)
part_parts written P parts (Some x) None s t p q e = let heads = (cons_parts 1 0 (written x ++ s) t e).0 in absurd (omega arith)
part_parts written P parts (Some x) (Some y) s t p q e =
    let inside = parts x y s t p q (cons_parts 1 1 (written x ++ s) (written y ++ t) e).1 in
    (ap Some inside.0, inside.1)

-- ---- dates and times

date_parts : (x y : Date) (s t : List ℕ) → IsDate x → IsDate y → date_code x ++ s ≡ date_code y ++ t → (x ≡ y) × (s ≡ t)
date_parts x y s t p q e =
    let flat = sym (joined-5 (padded 4 x.year) (45 ∷ []) (padded 2 x.month) (45 ∷ []) (padded 2 x.day) s) ∙ e ∙ joined-5 (padded 4 y.year) (45 ∷ []) (padded 2 y.month) (45 ∷ []) (padded 2 y.day) t in
    let year = padded_parts 4 x.year y.year _ _ p.year q.year flat in
    let month = padded_parts 2 x.month y.month _ _ p.month q.month (cons_parts 45 45 _ _ year.1).1 in
    let day = padded_parts 2 x.day y.day _ _ p.day q.day (cons_parts 45 45 _ _ month.1).1 in
    (λ i. record { year = year.0 i; month = month.0 i; day = day.0 i }, day.1)

second_parts : (x y : ℕ) (s t : List ℕ) → IsSmall x → IsSmall y → second_code x ++ s ≡ second_code y ++ t → (x ≡ y) × (s ≡ t)
second_parts x y s t p q e = padded_parts 2 x y s t p q (cons_parts 58 58 (padded 2 x ++ s) (padded 2 y ++ t) e).1

nanosecond_parts : (x y : ℕ) (s t : List ℕ) → IsSmall x → IsSmall y → nanosecond_code x ++ s ≡ nanosecond_code y ++ t → (x ≡ y) × (s ≡ t)
nanosecond_parts x y s t p q e = padded_parts 9 x y s t p q (cons_parts 46 46 (padded 9 x ++ s) (padded 9 y ++ t) e).1

pub front_parts : (front s t : List ℕ) → front ++ s ≡ front ++ t → s ≡ t
front_parts [] s t e = e
front_parts (b ∷ front) s t e = front_parts front s t (cons_parts b b (front ++ s) (front ++ t) e).1

time_parts : (front : List ℕ) (x y : Time) (s t : List ℕ) → IsTime x → IsTime y → time_code front x ++ s ≡ time_code front y ++ t → (x ≡ y) × (s ≡ t)
time_parts front x y s t p q e =
    let flat = sym (joined-6 front (padded 2 x.hour) (58 ∷ []) (padded 2 x.minute) (part second_code x.second) (part nanosecond_code x.nanosecond) s) ∙ e
    ∙ joined-6 front (padded 2 y.hour) (58 ∷ []) (padded 2 y.minute) (part second_code y.second) (part nanosecond_code y.nanosecond) t in
    let hour = padded_parts 2 x.hour y.hour _ _ p.hour q.hour (front_parts front _ _ flat) in
    let minute = padded_parts 2 x.minute y.minute _ _ p.minute q.minute (cons_parts 58 58 _ _ hour.1).1 in
    let second = part_parts second_code IsSmall second_parts x.second y.second _ _ p.second q.second minute.1 in
    let nanosecond = part_parts nanosecond_code IsSmall nanosecond_parts x.nanosecond y.nanosecond _ _ p.nanosecond q.nanosecond second.1 in
    (λ i. record { hour = hour.0 i; minute = minute.0 i; second = second.0 i; nanosecond = nanosecond.0 i }, nanosecond.1)

-- the sign, hours and minutes tell the minutes
minutes_of : (x y : ℤ) → sign_of x ≡ sign_of y → magnitude x ≡ magnitude y → x ≡ y
minutes_of (pos m) (pos n) same e = ap pos e
minutes_of (pos m) (negsuc n) same e = let heads = (cons_parts 43 45 [] [] same).0 in absurd (omega arith)
minutes_of (negsuc m) (pos n) same e = let heads = (cons_parts 45 43 [] [] same).0 in absurd (omega arith)
minutes_of (negsuc m) (negsuc n) same e = let less : m ≡ n = omega arith in ap negsuc less

sign_parts : (x y : ℤ) (s t : List ℕ) → sign_of x ++ s ≡ sign_of y ++ t → (sign_of x ≡ sign_of y) × (s ≡ t)
sign_parts (pos m) (pos n) s t e = (refl, (cons_parts 43 43 s t e).1)
sign_parts (pos m) (negsuc n) s t e = let heads = (cons_parts 43 45 s t e).0 in absurd (omega arith)
sign_parts (negsuc m) (pos n) s t e = let heads = (cons_parts 45 43 s t e).0 in absurd (omega arith)
sign_parts (negsuc m) (negsuc n) s t e = (refl, (cons_parts 45 45 s t e).1)

offset_parts : (x y : Offset) (s t : List ℕ) → IsOffset x → IsOffset y → offset_code x ++ s ≡ offset_code y ++ t → (x ≡ y) × (s ≡ t)
offset_parts Z Z s t p q e = (refl, (cons_parts 90 90 s t (cons_parts 1 1 (90 ∷ s) (90 ∷ t) e).1).1)
offset_parts Z (Custom y) s t p q e = let heads = (cons_parts 1 2 _ _ e).0 in absurd (omega arith)
offset_parts (Custom x) Z s t p q e = let heads = (cons_parts 2 1 _ _ e).0 in absurd (omega arith)
offset_parts (Custom x) (Custom y) s t p q e =
    let inside = (cons_parts 2 2 (sign_of x ++ padded 2 (magnitude x / 60) ++ codes ":" ++ padded 2 (magnitude x % 60) ++ s) (sign_of y ++ padded 2 (magnitude y / 60) ++ codes ":" ++ padded 2 (magnitude y % 60) ++ t) e).1 in
    let flat = sym (joined-4 (sign_of x) (padded 2 (magnitude x / 60)) (58 ∷ []) (padded 2 (magnitude x % 60)) s) ∙ inside
    ∙ joined-4 (sign_of y) (padded 2 (magnitude y / 60)) (58 ∷ []) (padded 2 (magnitude y % 60)) t in
    let sign = sign_parts x y _ _ flat in
    let hours = padded_parts 2 (magnitude x / 60) (magnitude y / 60) _ _ (omega arith) (omega arith) sign.1 in
    let minutes = padded_parts 2 (magnitude x % 60) (magnitude y % 60) _ _ (omega arith) (omega arith) (cons_parts 58 58 _ _ hours.1).1 in
    let over = hours.0 in
    let under = minutes.0 in
    let whole : magnitude x ≡ magnitude y = omega arith in
    (ap Custom (minutes_of x y sign.0 whole), minutes.1)

pub datetime_parts : (x y : Datetime) (s t : List ℕ) → IsDatetime x → IsDatetime y → datetime_code x ++ s ≡ datetime_code y ++ t → (x ≡ y) × (s ≡ t)
datetime_parts x y s t p q e =
    let flat = sym (joined-3 (part date_code x.date) (part (time_code (between x.date)) x.time) (part offset_code x.offset) s) ∙ e
    ∙ joined-3 (part date_code y.date) (part (time_code (between y.date)) y.time) (part offset_code y.offset) t in
    let date = part_parts date_code IsDate date_parts x.date y.date _ _ p.date q.date flat in
    let same : part (time_code (between y.date)) x.time ++ (part offset_code x.offset ++ s) ≡ part (time_code (between y.date)) y.time ++ (part offset_code y.offset ++ t) =
    (λ i. part (time_code (between (sym date.0 i))) x.time ++ (part offset_code x.offset ++ s)) ∙ date.1 in
    let time = part_parts (time_code (between y.date)) IsTime (time_parts (between y.date)) x.time y.time _ _ p.time q.time same in
    let offset = part_parts offset_code IsOffset offset_parts x.offset y.offset _ _ p.offset q.offset time.1 in
    (λ i. record { date = date.0 i; time = time.0 i; offset = offset.0 i }, offset.1)
