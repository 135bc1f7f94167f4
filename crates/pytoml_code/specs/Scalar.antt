-- Numbers, dates and times as a code has them (TOML, "Float", "Offset Date-Time" to "Local Time").
use Rattle.std.specs.Prelude.{ℕ, ℤ, pos, negsuc, ◌-◌, ◌/◌, ◌%◌, ◌++◌, codes, length, replicate}
use Rattle.std.specs.Prelude.{is_nan, false, List, [], ◌∷◌, Option, Some, None, Float}
use Rattle.std.specs.Prelude.{if◌then◌else◌}
use Rattle.std.specs.Float.{binary64}
use Rattle.std.specs.Float.Ieee.{to_bits}
use Rattle.std.specs.Fmt.{decimal, digits}
use Rattle.std.specs.Option.{option_map_or}
use Rattle.toml_datetime.specs.declared.datetime.Date.{Date}
use Rattle.toml_datetime.specs.declared.datetime.Time.{Time}
use Rattle.toml_datetime.specs.declared.datetime.Offset.{Offset}
use Rattle.toml_datetime.specs.declared.datetime.Offset.TheVariants.{Z, Custom}
use Rattle.toml_datetime.specs.declared.datetime.Datetime.{Datetime}
use Rattle.toml_datetime.specs.Valid.{magnitude}
use Rattle.pytoml_code.specs.Text.{ended}

-- a float: `nan`, or its bits in hexadecimal digits (IEEE 754, binary64)
abbrev pub float_word : Float → List ℕ
float_word x =
    if is_nan x then codes "nan" else codes "0x" ++ digits 16 false (to_bits binary64 x)

-- a number with zeros in front, so that so many digits stand at least; the mark 1 is behind them
abbrev pub padded : ℕ → ℕ → List ℕ
padded width n = replicate (width - length (decimal n)) 48 ++ 1 ∷ ended (decimal n)

-- a part that may be left out, behind the mark that says whether it is there
abbrev pub part : {A : Type 0} → (A → List ℕ) → Option A → List ℕ
part written None = 0 ∷ []
part written (Some x) = 1 ∷ written x

abbrev pub date_code : Date → List ℕ
date_code date =
    padded 4 date.year ++ codes "-" ++ padded 2 date.month ++ codes "-" ++ padded 2 date.day

abbrev pub second_code : ℕ → List ℕ
second_code second = codes ":" ++ padded 2 second

abbrev pub nanosecond_code : ℕ → List ℕ
nanosecond_code nanosecond = codes "." ++ padded 9 nanosecond

-- behind what stands between it and a date
abbrev pub time_code : List ℕ → Time → List ℕ
time_code between time =
    between ++ padded 2 time.hour ++ codes ":" ++ padded 2 time.minute
    ++ part second_code time.second ++ part nanosecond_code time.nanosecond

-- a `T` stands between a date and a time
abbrev pub between : Option Date → List ℕ
between date = option_map_or (λ d. codes "T") date []

abbrev pub sign_of : ℤ → List ℕ
sign_of (pos n) = codes "+"
sign_of (negsuc n) = codes "-"

abbrev pub offset_code : Offset → List ℕ
offset_code Z = 1 ∷ codes "Z"
offset_code (Custom minutes) =
    2 ∷ sign_of minutes ++ padded 2 (magnitude minutes / 60) ++ codes ":"
    ++ padded 2 (magnitude minutes % 60)

abbrev pub datetime_code : Datetime → List ℕ
datetime_code moment =
    part date_code moment.date ++ part (time_code (between moment.date)) moment.time
    ++ part offset_code moment.offset
