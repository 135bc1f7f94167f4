-- Reading a specifier set from the left: the specifiers that a text has, as a function. It gives an
-- answer exactly where `SetText` holds, and the specifiers of which it holds.
use Rattle.std.specs.Prelude.{ℕ, ◌==◌, ◌&&◌, nat_eq, nat_le, nat_lt, if◌then◌else◌, List, [], ◌∷◌}
use Rattle.std.specs.Prelude.{length, take, drop, codes, Option, Some, None, option_map, Bool}
use Rattle.std.specs.List.{list_all, prefix_len, slice_split, starts_with}
use Rattle.pytext.specs.Bytes.{is_white}
use Rattle.pyver_core.specs.Version.Parts.{Parts}
use Rattle.pyver_core.specs.Set.Prefix.{Prefix}
use Rattle.pytext.specs.Options.{◌>>=◌, either}
use Rattle.pytext.specs.White.{after_white}
use Rattle.pyver_core.specs.Version.Reading.{base_at, version_of}
use Rattle.pyver_core.specs.Set.Grammar.{is_arbitrary_byte}
use Rattle.pyver_core.specs.Set.Normal.{operator_text}
use Rattle.pyver_core.specs.declared.set.specifier.Operator.{Operator}
use Rattle.pyver_core.specs.declared.set.specifier.Operator.TheVariants as operator
use Rattle.pyver_core.specs.declared.set.specifier.Specifier.{Specifier}
use Rattle.pyver_core.specs.declared.set.specifier.Specifier.TheVariants as specifier

-- ---- operators

-- the operators, the longer ones first
abbrev pub operators : List Operator
operators = operator.Arbitrary ∷ operator.Compatible ∷ operator.Equal ∷ operator.NotEqual
    ∷ operator.AtMost ∷ operator.AtLeast ∷ operator.Before ∷ operator.After ∷ []

-- the text after an operator
abbrev pub after_operator : Operator → List ℕ → Option (List ℕ)
after_operator o text =
    if starts_with nat_eq text (operator_text o) then Some (drop (length (operator_text o)) text)
    else None

-- the first of the operators that the text begins with, and the text after it
abbrev pub operator_among : List Operator → List ℕ → Option (Operator × List ℕ)
operator_among [] text = None
operator_among (o ∷ others) text =
    either (option_map (λ rest. (o, rest)) (after_operator o text)) (operator_among others text)

unfoldable pub operator_at : List ℕ → Option (Operator × List ℕ)
operator_at text = operator_among operators text

-- ---- operands

-- whether `.*` is all that stands there, but for white space
abbrev pub is_star : List ℕ → Bool
is_star text = starts_with nat_eq text (codes ".*") && list_all is_white (drop 2 text)

unfoldable pub prefix_of : List ℕ → Option Prefix
prefix_of text = do
  base ← base_at (after_white text)
  if is_star base.1 then Some (record { epoch = base.0.0; release = base.0.1 }) else None

-- a version without a local part
unfoldable pub public_version_of : List ℕ → Option Parts
public_version_of text = do
  v ← version_of text
  if length v.local == 0 then Some v else None

-- a version without a local part, and with two numbers or more
unfoldable pub compatible_version_of : List ℕ → Option Parts
compatible_version_of text = do
  v ← public_version_of text
  if nat_le 2 (length v.release) then Some v else None

-- what stands behind `===`
unfoldable pub arbitrary_text_of : List ℕ → Option (List ℕ)
arbitrary_text_of text =
    let run = prefix_len is_arbitrary_byte (after_white text) in
    if nat_lt 0 run && list_all is_white (drop run (after_white text))
    then Some (take run (after_white text)) else None

unfoldable pub operand_of : Operator → List ℕ → Option Specifier
operand_of operator.Equal text =
    either (option_map specifier.EqualPrefix (prefix_of text))
    (option_map specifier.Equal (version_of text))
operand_of operator.NotEqual text =
    either (option_map specifier.NotEqualPrefix (prefix_of text))
    (option_map specifier.NotEqual (version_of text))
operand_of operator.AtMost text = option_map specifier.AtMost (public_version_of text)
operand_of operator.AtLeast text = option_map specifier.AtLeast (public_version_of text)
operand_of operator.Before text = option_map specifier.Before (public_version_of text)
operand_of operator.After text = option_map specifier.After (public_version_of text)
operand_of operator.Compatible text = option_map specifier.Compatible (compatible_version_of text)
operand_of operator.Arbitrary text = option_map specifier.Arbitrary (arbitrary_text_of text)

-- ---- specifiers and sets

unfoldable pub specifier_of : List ℕ → Option Specifier
specifier_of piece = do
  cut ← operator_at (after_white piece)
  operand_of cut.0 cut.1

unfoldable pub specifiers_of : List (List ℕ) → Option (List Specifier)
specifiers_of [] = Some []
specifiers_of (piece ∷ rest) =
    if list_all is_white piece then specifiers_of rest
    else (specifier_of piece >>= λ s. option_map (λ others. s ∷ others) (specifiers_of rest))

-- the specifiers of the text
unfoldable pub set_of : List ℕ → Option (List Specifier)
set_of text = specifiers_of (slice_split (λ b. b == 44) text)
