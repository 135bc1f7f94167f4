-- Build tags (PEP 427, "File name convention": "Must start with a digit. Acts as a tie-breaker ..
-- Sort as an empty tuple if unspecified, else sort as a two-item tuple with the first item being
-- the initial digits as an int, and the second item being the remainder of the tag as a str").
use Rattle.std.specs.Prelude.{ℕ, ◌^◌, Bool, ◌&&◌, nat_lt, List, take, drop, Option}
use Rattle.std.specs.Char.{is_ascii, is_ascii_digit}
use Rattle.std.specs.Cmp.Lexicographic.{slice_cmp}
use Rattle.std.specs.List.{list_all, prefix_len}
use Rattle.std.specs.Option.{option_cmp}
use Rattle.std.specs.Ordering.{nat_cmp, on, then_cmp}
use Rattle.std.specs.Str.Parse.{digits_value}
use Rattle.std.specs.declared.cmp.Ordering.{Ordering}

-- the leading digits
abbrev pub leading_digits : List ℕ → List ℕ
leading_digits build = take (prefix_len is_ascii_digit build) build

-- their number, of any size
abbrev pub build_number : List ℕ → ℕ
build_number build = digits_value 10 (leading_digits build)

-- what stands after them
abbrev pub build_rest : List ℕ → List ℕ
build_rest build = drop (prefix_len is_ascii_digit build) build

-- ASCII, with a leading digit or more, whose number isn't past
-- 340,282,366,920,938,463,463,374,607,431,768,211,455
abbrev pub is_build : List ℕ → Bool
is_build build = list_all is_ascii build
    && (nat_lt 0 (prefix_len is_ascii_digit build) && nat_lt (build_number build) (2 ^ 128))

-- by number, then by the rest, by code point
abbrev pub build_cmp : List ℕ → List ℕ → Ordering
build_cmp = then_cmp (on build_number nat_cmp) (on build_rest (slice_cmp nat_cmp))

-- no build is least
abbrev pub builds_cmp : Option (List ℕ) → Option (List ℕ) → Ordering
builds_cmp = option_cmp build_cmp
