-- The base of URLs, in clap's terms.
use Rattle.std.specs.Prelude.{◌≡◌, ◌==◌, ◌&&◌, ◌||◌, ℕ, Bool, false, List, Option, Some, None}
use Rattle.std.specs.Prelude.{codes, if◌then◌else◌, length, nat_eq, option_and_then}
use Rattle.std.specs.List.{after_first, before_first, ends_with, position_or_len}
use Rattle.std.specs.Option.{option_map_or}
use Rattle.std.specs.Str.{bytes_eq}
use Rattle.clap.specs.Words.{Row, Text, first_of}
use Rattle.pylock_command.specs.declared.base.Base.{Base}
use Rattle.pylock_command.specs.declared.misuse.Misuse.{Misuse}
use Rattle.pylock_command.specs.declared.misuse.Misuse.TheVariants.{NoBase, NoUrls}

abbrev pub is_equals : ℕ → Bool
is_equals c = c == 61

-- what stands before the first `=` and behind it, where there is one
abbrev pub around_equals : Text → Option (Text × Text)
around_equals text =
    if position_or_len is_equals text == length text then None
    else Some (before_first is_equals text, after_first is_equals text)

abbrev pub ends_in_slash : Text → Bool
ends_in_slash text = ends_with nat_eq text (codes "/")

-- `FROM=TO`, of which each ends in `/`
abbrev pub base_named : Text → Option (Text × Text)
base_named text =
    option_and_then
    (λ parts. if ends_in_slash parts.0 && ends_in_slash parts.1 then Some parts else None)
    (around_equals text)

abbrev pub base_word : List Row → Option Text
base_word rows = first_of (codes "base") rows

abbrev pub base_texts : Base → Text × Text
base_texts base = (base.from.now, base.to.now)

-- the base that the words give, if they give one
abbrev pub IsBase : List Row → Option Base → Type 0
IsBase rows None = base_word rows ≡ None
IsBase rows (Some base) = option_and_then base_named (base_word rows) ≡ Some (base_texts base)

-- the form that the words ask for has URLs of files
abbrev pub is_of_urls : Text → Bool
is_of_urls word =
    bytes_eq word (codes "requirements") || bytes_eq word (codes "aria2")
    || bytes_eq word (codes "urls")

abbrev pub has_urls : List Row → Bool
has_urls rows = option_map_or is_of_urls (first_of (codes "format") rows) false

-- a base stands beside such a form, and each of its texts ends in `/`
abbrev pub text_misuse : (has_urls : Bool) → Option Text → Option Misuse
text_misuse has_urls None = None
text_misuse has_urls (Some text) =
    if has_urls then option_map_or (λ parts. None) (base_named text) (Some NoBase)
    else Some NoUrls

abbrev pub base_misuse : List Row → Option Misuse
base_misuse rows = text_misuse (has_urls rows) (base_word rows)
