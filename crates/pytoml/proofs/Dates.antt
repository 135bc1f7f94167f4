-- Dates and times of day by their places in a text.
use Rattle.std.proofs.Common.{◌≡◌, ℕ, ◌+◌, ◌*◌, ◌/◌, ◌%◌, ◌<◌, ◌≤◌, true, false, ◌==◌, ◌&&◌, ◌||◌, List, ◌∷◌, ◌++◌, length, get_or, slice_index, drop, Some, None, arith, refl, ap, ◌∙◌, add-one, append_assoc, drop-cons, lt-ltb}
use Rattle.std.proofs.lemmas.Bool.{or_parts}
use Rattle.std.specs.Char.{is_ascii_digit}
use Rattle.toml_datetime.specs.declared.datetime.Date.{Date}
use Rattle.toml_datetime.specs.declared.datetime.Time.{Time}
use Rattle.toml_datetime.specs.declared.datetime.Offset.TheVariants.{Z}
use Rattle.toml_datetime.specs.declared.datetime.Datetime.{Datetime}
use Rattle.toml_datetime.specs.Text.{two_wide, date_text, time_text, offset_text, datetime_text}
use Rattle.toml_datetime.specs.Valid.{is_valid}
use Rattle.toml_parser.specs.declared.scalar.Scalar.TheVariants.{Datetime as DatetimeScalar}
use Rattle.toml_parser.specs.Lexical.{first, is_word}
use Rattle.toml_parser.specs.Numbers.{unquoted}
use Rattle.toml_writer.proofs.Scalars.{IsWord-datetime, unquoted-word}
use Rattle.pytoml.specs.Text.{IsTwoWide}

one_at : (s : List ℕ) (i b : ℕ) → i < length s → get_or s i 0 ≡ b → drop i s ≡ b ∷ drop (i + 1) s
one_at s i b within is = drop-cons s i 0 within ∙ rw (is, add-one) refl

two_at : (s : List ℕ) (i n : ℕ) → i + 1 < length s → IsTwoWide s i n → drop i s ≡ two_wide n ++ drop (i + 2) s
unfolding two_wide
two_at s i n within (small, tens, ones) =
    let next : i + 1 + 1 ≡ i + 2 = omega arith in
    one_at s i (48 + n / 10) (omega arith) tens
    ∙ ap (λ t. (48 + n / 10) ∷ t) (one_at s (i + 1) (48 + n % 10) within ones ∙ ap (λ k. (48 + n % 10) ∷ drop k s) next)
    ∙ rw (lt-ltb n 100 small) refl

-- the first ten bytes are a date
pub date_at : (s : List ℕ) (century year month day : ℕ) → 10 ≤ length s → IsTwoWide s 0 century → IsTwoWide s 2 year → get_or s 4 0 ≡ 45 → IsTwoWide s 5 month
    → get_or s 7 0 ≡ 45 → IsTwoWide s 8 day
    → let date : Date = record { year = 100 * century + year; month = month; day = day } in s ≡ date_text date ++ drop 10 s
unfolding date_text
date_at s century year month day long c y dash m mark d =
    let high : (100 * century + year) / 100 ≡ century = omega (arith, y.0) in
    let low : (100 * century + year) % 100 ≡ year = omega (arith, y.0) in
    two_at s 0 century (omega arith) c
    ∙ ap (λ t. two_wide century ++ t) (two_at s 2 year (omega arith) y
    ∙ ap (λ t. two_wide year ++ t) (one_at s 4 45 (omega arith) dash
    ∙ ap (λ t. 45 ∷ t) (two_at s 5 month (omega arith) m
    ∙ ap (λ t. two_wide month ++ t) (one_at s 7 45 (omega arith) mark
    ∙ ap (λ t. 45 ∷ t) (two_at s 8 day (omega arith) d)))))
    ∙ rw (high, low) (simp append_assoc)

-- eight bytes from the place 11 on are a time of day
pub time_at : (s : List ℕ) (hour minute second : ℕ) → 19 ≤ length s → IsTwoWide s 11 hour → get_or s 13 0 ≡ 58 → IsTwoWide s 14 minute → get_or s 16 0 ≡ 58 → IsTwoWide s 17 second
    → let time : Time = record { hour = hour; minute = minute; second = Some second; nanosecond = None } in drop 11 s ≡ time_text time ++ drop 19 s
unfolding time_text
time_at s hour minute second long h colon m mark d =
    two_at s 11 hour (omega arith) h
    ∙ ap (λ t. two_wide hour ++ t) (one_at s 13 58 (omega arith) colon
    ∙ ap (λ t. 58 ∷ t) (two_at s 14 minute (omega arith) m
    ∙ ap (λ t. two_wide minute ++ t) (one_at s 16 58 (omega arith) mark
    ∙ ap (λ t. 58 ∷ t) (two_at s 17 second (omega arith) d))))
    ∙ simp append_assoc

-- a date, a time of day and `Z` that no word goes on with are a date-time
pub date_time_read : (s rest : List ℕ) (date : Date) (time : Time) → 20 ≤ length s → s ≡ date_text date ++ drop 10 s → get_or s 10 0 ≡ 84 → drop 11 s ≡ time_text time ++ drop 19 s
    → get_or s 19 0 ≡ 90 → let dt : Datetime = record { date = Some date; time = Some time; offset = Some Z } in
    is_valid dt ≡ true → rest ≡ drop 20 s → (is_word (first rest) || (first rest == 32 && is_ascii_digit (slice_index rest 1))) ≡ false
    → unquoted s ≡ Some (DatetimeScalar dt, rest)
unfolding datetime_text offset_text
date_time_read s rest date time long front delim behind zulu valid after ends =
    let dt : Datetime = record { date = Some date; time = Some time; offset = Some Z } in
    let whole : s ≡ datetime_text dt ++ drop 20 s =
    front ∙ ap (λ t. date_text date ++ t) (one_at s 10 84 (omega arith) delim ∙ ap (λ t. 84 ∷ t) (behind ∙ ap (λ t. time_text time ++ t) (one_at s 19 90 (omega arith) zulu)))
    ∙ simp append_assoc in
    let word = IsWord-datetime dt valid in
    let stop = or_parts (is_word (first rest)) (first rest == 32 && is_ascii_digit (slice_index rest 1)) ends in
    ap unquoted whole ∙ unquoted-word (datetime_text dt) (drop 20 s) _ word.some word.all (rw after at stop) word.value ∙ rw after refl
