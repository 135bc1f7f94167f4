-- Numbers that are a text of their own, in base ten. They may begin with zeros.
use Rattle.std.specs.Prelude.{ℕ, ◌==◌, ◌&&◌, ◌^◌, not, Bool, List, length}
use Rattle.std.specs.Char.{is_ascii_digit}
use Rattle.std.specs.List.{list_all}

-- one ASCII digit or more
abbrev pub is_number : List ℕ → Bool
is_number text = not (length text == 0) && list_all is_ascii_digit text

-- the first number that is too large: 340,282,366,920,938,463,463,374,607,431,768,211,456
abbrev pub number_limit : ℕ
number_limit = 2 ^ 128
