-- Reading a version from the left: the parts that a text spells, as a function. It gives an answer
-- exactly where `Spells` holds, and the parts of which it holds: the laws `version_of_spells` and
-- `version_of_is_complete`. Each reader gives what it read from the beginning of a text, and the
-- text after it.
use Rattle.std.specs.Prelude.{ℕ, zero, suc, Bool, ◌==◌, if◌then◌else◌, List, [], ◌∷◌, length, take}
use Rattle.std.specs.Prelude.{drop, codes, bytes_eq, Option, Some, None, option_map, unwrap_or}
use Rattle.std.specs.Char.{is_ascii_digit, is_ascii_alphanumeric}
use Rattle.std.specs.List.{list_all, prefix_len}
use Rattle.std.specs.Str.{str_to_ascii_lowercase}
use Rattle.std.specs.Str.Parse.{digits_value}
use Rattle.pytext.specs.White.{after_white}
use Rattle.pytext.specs.Options.{◌>>=◌, either}
use Rattle.pyver_core.specs.Version.Parts.{Parts}
use Rattle.pytext.specs.Bytes.{is_separator, is_white, starts}
use Rattle.pyver_core.specs.Version.Grammar.{is_dot}
use Rattle.pyver_core.specs.declared.version.part.PreKind.{PreKind}
use Rattle.pyver_core.specs.declared.version.part.PreKind.TheVariants.{A, B, Rc}
use Rattle.pyver_core.specs.declared.version.part.LocalPart.{LocalPart}
use Rattle.pyver_core.specs.declared.version.part.LocalPart.TheVariants.{Number, Text}

-- ---- steps

-- an item before others
abbrev pub prepend_item : {X : Type 0} → X → List X × List ℕ → List X × List ℕ
prepend_item x others = (x ∷ others.0, others.1)

-- what is read where it can be read, and else nothing
abbrev pub optional_at : {X : Type 0} → (List ℕ → Option (X × List ℕ)) → List ℕ → Option X × List ℕ
optional_at read text = unwrap_or (option_map (λ x. (Some x.0, x.1)) (read text)) (None, text)

-- what is read after one byte of a class
abbrev pub behind_at : {X : Type 0} → (ℕ → Bool) → (List ℕ → Option (X × List ℕ))
    → List ℕ → Option (X × List ℕ)
behind_at opens read [] = None
behind_at opens read (b ∷ rest) = if opens b then read rest else None

-- items as long as one can be read, at most so many
unfoldable pub many_up_to : {X : Type 0} → (List ℕ → Option (X × List ℕ))
    → ℕ → List ℕ → List X × List ℕ
many_up_to read zero text = ([], text)
many_up_to read (suc n) text =
    unwrap_or (option_map (λ x. prepend_item x.0 (many_up_to read n x.1)) (read text)) ([], text)

-- items as long as one can be read
unfoldable pub many_at : {X : Type 0} → (List ℕ → Option (X × List ℕ)) → List ℕ → List X × List ℕ
many_at read text = many_up_to read (length text) text

-- ---- white space, separators, numbers and words

abbrev pub after_separator : List ℕ → List ℕ
after_separator [] = []
after_separator (b ∷ rest) = if is_separator b then rest else b ∷ rest

-- digits or none
abbrev pub count_at : List ℕ → ℕ × List ℕ
count_at text =
    let run = prefix_len is_ascii_digit text in
    (digits_value 10 (take run text), drop run text)

-- one digit or more
abbrev pub number_at : List ℕ → Option (ℕ × List ℕ)
number_at text = if starts is_ascii_digit text then Some (count_at text) else None

-- the text after a word, which is in lower case here and in any case there
abbrev pub after_word : List ℕ → List ℕ → Option (List ℕ)
after_word word text =
    if bytes_eq (str_to_ascii_lowercase (take (length word) text)) word
    then Some (drop (length word) text) else None

-- the text after the longer of two words, or else the shorter
abbrev pub after_either_word : List ℕ → List ℕ → List ℕ → Option (List ℕ)
after_either_word longer shorter text = either (after_word longer text) (after_word shorter text)

-- ---- the epoch and the release

abbrev pub after_prefix : List ℕ → List ℕ
after_prefix text = unwrap_or (after_word (codes "v") text) text

-- the epoch and the first number of the release
unfoldable pub head_at : List ℕ → Option ((ℕ × ℕ) × List ℕ)
head_at text = do
  first ← number_at text
  if starts (λ b. b == 33) first.1
      then (number_at (drop 1 first.1) >>= λ second. Some ((first.0, second.0), second.1))
      else Some ((0, first.0), first.1)

unfoldable pub dotted_number_at : List ℕ → Option (ℕ × List ℕ)
dotted_number_at text = behind_at is_dot number_at text

-- the epoch and the release, after the prefix
unfoldable pub base_at : List ℕ → Option ((ℕ × List ℕ) × List ℕ)
base_at text = do
  head ← head_at (after_prefix text)
  let others = many_at dotted_number_at head.1
  Some ((head.0.0, head.0.1 ∷ others.0), others.1)

-- ---- pre, post and dev

-- what stands after the word of a part: at most one separator, digits or none
abbrev pub trailing_count_at : List ℕ → ℕ × List ℕ
trailing_count_at text = count_at (after_separator text)

unfoldable pub pre_word_at : List ℕ → Option (PreKind × List ℕ)
pre_word_at text =
    either (option_map (λ rest. (A, rest)) (after_either_word (codes "alpha") (codes "a") text))
    (either (option_map (λ rest. (B, rest)) (after_either_word (codes "beta") (codes "b") text))
    (either
    (option_map (λ rest. (Rc, rest)) (after_either_word (codes "preview") (codes "pre") text))
    (option_map (λ rest. (Rc, rest)) (after_either_word (codes "rc") (codes "c") text))))

unfoldable pub after_post_word : List ℕ → Option (List ℕ)
after_post_word text =
    either (after_word (codes "post") text) (after_either_word (codes "rev") (codes "r") text)

unfoldable pub tagged_pre_at : List ℕ → Option ((PreKind × ℕ) × List ℕ)
tagged_pre_at text = do
  word ← pre_word_at (after_separator text)
  Some ((word.0, (trailing_count_at word.1).0), (trailing_count_at word.1).1)

unfoldable pub tagged_post_at : List ℕ → Option (ℕ × List ℕ)
tagged_post_at text = do
  rest ← after_post_word (after_separator text)
  Some (trailing_count_at rest)

unfoldable pub dashed_number_at : List ℕ → Option (ℕ × List ℕ)
dashed_number_at text = behind_at (λ b. b == 45) number_at text

unfoldable pub dashed_or_tagged_post_at : List ℕ → Option (ℕ × List ℕ)
dashed_or_tagged_post_at text = either (dashed_number_at text) (tagged_post_at text)

unfoldable pub tagged_dev_at : List ℕ → Option (ℕ × List ℕ)
tagged_dev_at text = do
  rest ← after_word (codes "dev") (after_separator text)
  Some (trailing_count_at rest)

-- ---- the local part

abbrev pub segment_of : List ℕ → LocalPart
segment_of run =
    if list_all is_ascii_digit run then Number (digits_value 10 run)
    else Text (str_to_ascii_lowercase run)

unfoldable pub segment_at : List ℕ → Option (LocalPart × List ℕ)
segment_at text =
    let run = prefix_len is_ascii_alphanumeric text in
    if starts is_ascii_alphanumeric text then Some (segment_of (take run text), drop run text)
    else None

unfoldable pub separated_segment_at : List ℕ → Option (LocalPart × List ℕ)
separated_segment_at text = behind_at is_separator segment_at text

unfoldable pub added_segment_at : List ℕ → Option (LocalPart × List ℕ)
added_segment_at text = behind_at (λ b. b == 43) segment_at text

unfoldable pub local_at : List ℕ → List LocalPart × List ℕ
local_at text = unwrap_or
    (option_map (λ first. prepend_item first.0 (many_at separated_segment_at first.1))
    (added_segment_at text))
    ([], text)

-- ---- the whole text

-- the parts after the release
unfoldable pub parts_at : ℕ × List ℕ → List ℕ → Parts × List ℕ
parts_at base text =
    let pre = optional_at tagged_pre_at text in
    let post = optional_at dashed_or_tagged_post_at pre.1 in
    let dev = optional_at tagged_dev_at post.1 in
    let local = local_at dev.1 in (
      record {
        epoch = base.0;
        release = base.1;
        pre = pre.0;
        post = post.0;
        dev = dev.0;
        local = local.0;
      },
      local.1,
    )

-- The parts that the text spells.
unfoldable pub version_of : List ℕ → Option Parts
version_of text = do
  base ← base_at (after_white text)
  let parts = parts_at base.0 base.1
  if list_all is_white parts.1 then Some parts.0 else None
