-- Which token may follow which in a marker (PEP 508, "Grammar"), told by what may stand next and by
-- how many parentheses are open.
use Rattle.std.specs.Prelude.{ℕ, ◌+◌, ◌-◌, Bool, false, true, ◌&&◌, ◌||◌, nat_lt, if◌then◌else◌}
use Rattle.std.specs.Prelude.{List, codes, Option, Some, None}
use Rattle.std.specs.Option.{is_some}
use Rattle.std.specs.Str.{bytes_eq}
use Rattle.pymark_core.specs.Marker.Token.{Token, opening, closing, sign, word, quoted}
use Rattle.pymark_core.specs.Variables.{variable_of}
use Rattle.pymark_expected.specs.declared.marker.follow.Next.{Next}
use Rattle.pymark_expected.specs.declared.marker.follow.Next.TheVariants.{Start, Operator, In, Text}
use Rattle.pymark_expected.specs.declared.marker.follow.Next.TheVariants.{Container, Rest}

-- `extras` and `dependency_groups`
abbrev pub is_set_word : List ℕ → Bool
is_set_word letters =
    bytes_eq letters (codes "extras") || bytes_eq letters (codes "dependency_groups")

-- the words that are operands
abbrev pub is_operand_word : List ℕ → Bool
is_operand_word letters =
    bytes_eq letters (codes "extra") || (is_set_word letters || is_some (variable_of letters))

-- what may stand behind an operand or `(`, which may stand here
abbrev pub after_start : Token → Option Next
after_start opening = Some Start
after_start closing = None
after_start (sign operator) = None
after_start (word letters) = if is_operand_word letters then Some Operator else None
after_start (quoted text) = Some Operator

-- behind what follows the left operand
abbrev pub after_left : Token → Option Next
after_left opening = None
after_left closing = None
after_left (sign operator) = Some Text
after_left (word letters) =
    if bytes_eq (codes "in") letters then Some Container
    else if bytes_eq (codes "not") letters then Some In
    else None
after_left (quoted text) = None

-- behind what follows `not`
abbrev pub after_not : Token → Option Next
after_not opening = None
after_not closing = None
after_not (sign operator) = None
after_not (word letters) = if bytes_eq (codes "in") letters then Some Container else None
after_not (quoted text) = None

-- behind the right operand
abbrev pub after_right : Token → Option Next
after_right opening = None
after_right closing = None
after_right (sign operator) = None
after_right (word letters) = if is_operand_word letters then Some Rest else None
after_right (quoted text) = Some Rest

-- behind what follows a comparison or `)`
abbrev pub after_comparison : ℕ → Token → Option Next
after_comparison depth opening = None
after_comparison depth closing = if nat_lt 0 depth then Some Rest else None
after_comparison depth (sign operator) = None
after_comparison depth (word letters) =
    if bytes_eq (codes "and") letters || bytes_eq (codes "or") letters then Some Start else None
after_comparison depth (quoted text) = None

-- what may stand behind the token, where it may stand here
abbrev pub follow : Next → ℕ → Token → Option Next
follow Start depth token = after_start token
follow Operator depth token = after_left token
follow In depth token = after_not token
follow Text depth token = after_right token
follow Container depth token = after_right token
follow Rest depth token = after_comparison depth token

-- how many parentheses are open behind the token
abbrev pub depth_after : Token → ℕ → ℕ
depth_after opening depth = depth + 1
depth_after closing depth = depth - 1
depth_after (sign operator) depth = depth
depth_after (word letters) depth = depth
depth_after (quoted text) depth = depth

-- a set, where a text has to stand
abbrev pub takes_text : Next → Bool
takes_text Start = true
takes_text Operator = false
takes_text In = false
takes_text Text = true
takes_text Container = false
takes_text Rest = false

abbrev pub is_misuse : Next → Token → Bool
is_misuse stage opening = false
is_misuse stage closing = false
is_misuse stage (sign operator) = false
is_misuse stage (word letters) = takes_text stage && is_set_word letters
is_misuse stage (quoted text) = false
