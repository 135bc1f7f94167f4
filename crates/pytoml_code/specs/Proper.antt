-- What a TOML value is that stands in memory: an integer has 64 bits, a float is one of binary64,
-- the numbers of a date-time are small, and the keys of a table ascend.
use Rattle.std.specs.Prelude.{◌≡◌, ℕ, ◌<◌, ◌^◌, true, T, Option, Some, None, ⊤, FitsSigned}
use Rattle.std.specs.Float.{binary64}
use Rattle.std.specs.Float.Ieee.{fits}
use Rattle.std.specs.Int.{w64}
use Rattle.toml.specs.Data.{Data, string, integer, float, boolean, datetime, array, table}
use Rattle.toml.specs.Data.{Items, no_items, item, Members, no_members, member, is_before}
use Rattle.toml_datetime.specs.declared.datetime.Date.{Date}
use Rattle.toml_datetime.specs.declared.datetime.Time.{Time}
use Rattle.toml_datetime.specs.declared.datetime.Offset.{Offset}
use Rattle.toml_datetime.specs.declared.datetime.Offset.TheVariants.{Z, Custom}
use Rattle.toml_datetime.specs.declared.datetime.Datetime.{Datetime}
use Rattle.toml_datetime.specs.Valid.{magnitude}

abbrev pub IfThere : {A : Type 0} → (A → Type 0) → Option A → Type 0
IfThere P None = ⊤
IfThere P (Some x) = P x

abbrev pub IsSmall : ℕ → Type 0
IsSmall n = n < 2 ^ 64

pub record IsDate (date : Date) : Type 0 where
  pub year : IsSmall date.year
  pub month : IsSmall date.month
  pub day : IsSmall date.day

pub record IsTime (time : Time) : Type 0 where
  pub hour : IsSmall time.hour
  pub minute : IsSmall time.minute
  pub second : IfThere IsSmall time.second
  pub nanosecond : IfThere IsSmall time.nanosecond

abbrev pub IsOffset : Offset → Type 0
IsOffset Z = ⊤
IsOffset (Custom minutes) = IsSmall (magnitude minutes)

pub record IsDatetime (moment : Datetime) : Type 0 where
  pub date : IfThere IsDate moment.date
  pub time : IfThere IsTime moment.time
  pub offset : IfThere IsOffset moment.offset

abbrev mutual
  pub IsProper : Data → Type 0
  IsProper (string text) = ⊤
  IsProper (integer z) = FitsSigned w64 z
  IsProper (float x) = T (fits binary64 x)
  IsProper (boolean b) = ⊤
  IsProper (datetime moment) = IsDatetime moment
  IsProper (array items) = AreProper items
  IsProper (table members) = HasProper members

  pub AreProper : Items → Type 0
  AreProper no_items = ⊤
  AreProper (item d ds) = IsProper d × AreProper ds

  pub HasProper : Members → Type 0
  HasProper no_members = ⊤
  HasProper (member key d ds) = (is_before key ds ≡ true) × IsProper d × HasProper ds
