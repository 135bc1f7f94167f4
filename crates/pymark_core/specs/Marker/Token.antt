-- The tokens of markers (PEP 508, "Grammar"): parentheses, the operators of specifiers, words and
-- quoted texts, with white space before, between and behind them.
use Rattle.std.specs.Prelude.{ℕ, zero, suc, ◌+◌, ◌-◌, Bool, ◌==◌, ◌&&◌, ◌||◌, not, nat_le}
use Rattle.std.specs.Prelude.{if◌then◌else◌, List, [], ◌∷◌, length, take, drop, Option, Some, None}
use Rattle.std.specs.Prelude.{option_map}
use Rattle.std.specs.List.{prefix_len}
use Rattle.pytext.specs.Bytes.{is_white, is_word_byte, starts}
use Rattle.pytext.specs.Options.{◌>>=◌}
use Rattle.pyver_core.specs.Set.Reading.{operator_at}
use Rattle.pyver_core.specs.Set.Normal.{operator_text}
use Rattle.pyver_core.specs.declared.set.specifier.Operator.{Operator}

pub data Token : Type 0 where
  -- `(`
  opening : Token
  -- `)`
  closing : Token
  -- an operator of specifiers
  sign : Operator → Token
  -- letters, digits and `_`
  word : List ℕ → Token
  -- what stands between two quotes
  quoted : List ℕ → Token

-- how many bytes of a text the token is
abbrev pub token_len : Token → ℕ
token_len opening = 1
token_len closing = 1
token_len (sign operator) = length (operator_text operator)
token_len (word letters) = length letters
token_len (quoted text) = length text + 2

-- ---- bytes

-- `"` and `'`
abbrev pub is_quote : ℕ → Bool
is_quote b = (b == 34) || (b == 39)

-- a byte that may stand between two of these quotes: any but the quote, a backslash, and the
-- control characters other than TAB
abbrev pub is_inside : ℕ → ℕ → Bool
is_inside quote b =
    not (b == quote) && (not (b == 92) && ((b == 9) || (nat_le 32 b && not (b == 127))))

-- ---- the token at the beginning of a text

-- what stands between an opening quote, which stands before this text, and the same quote
abbrev pub quoted_at : ℕ → List ℕ → Option (List ℕ)
quoted_at quote text =
    let inside = prefix_len (is_inside quote) text in
    if starts (λ b. b == quote) (drop inside text) then Some (take inside text) else None

-- the longest operator that stands there
abbrev pub operator_in : List ℕ → Option Operator
operator_in text = option_map (λ cut. cut.0) (operator_at text)

-- the longest run of letters, digits and `_`
abbrev pub word_in : List ℕ → List ℕ
word_in text = take (prefix_len is_word_byte text) text

-- the token of a text that begins with this byte
abbrev pub token_by : ℕ → List ℕ → Option Token
token_by b text =
    if b == 40 then Some opening
    else if b == 41 then Some closing
    else if is_quote b then option_map quoted (quoted_at b (drop 1 text))
    else if is_word_byte b then Some (word (word_in text))
    else option_map sign (operator_in text)

unfoldable pub token_at : List ℕ → Option Token
token_at [] = None
token_at (b ∷ rest) = token_by b (b ∷ rest)

-- ---- the tokens of a whole text, or none

-- the tokens after the first bytes, which belong to a token
unfoldable pub tokens_after : ℕ → List ℕ → Option (List Token)
tokens_after n [] = Some []
tokens_after (suc n) (b ∷ rest) = tokens_after n rest
tokens_after zero (b ∷ rest) =
    if is_white b then tokens_after zero rest
    else (token_at (b ∷ rest) >>= λ token.
    option_map (λ others. token ∷ others) (tokens_after (token_len token - 1) rest))

abbrev pub tokens : List ℕ → Option (List Token)
tokens text = tokens_after 0 text
