-- The tokens that the code lends from a text, seen as tokens.
use Rattle.std.specs.Prelude.{ℕ, ◌+◌, ◌==◌, if◌then◌else◌, List, length, drop, Option, Some, None}
use Rattle.std.specs.Prelude.{option_map}
use denote.Ref.{Bor}
use Rattle.pytext.specs.White.{after_white}
use Rattle.pymark_core.specs.Marker.Token as token
use Rattle.pymark_core.specs.Marker.Token.{quoted_at, token_at, token_len}
use Rattle.pymark_core.specs.declared.marker.token.Token.{Token}
use Rattle.pymark_core.specs.declared.marker.token.Token.TheVariants.{Open, Close, Sign, Word}
use Rattle.pymark_core.specs.declared.marker.token.Token.TheVariants.{Quoted}

abbrev pub token_view : Token → token.Token
token_view Open = token.opening
token_view Close = token.closing
token_view (Sign operator) = token.sign operator
token_view (Word letters) = token.word letters.now
token_view (Quoted text) = token.quoted text.now

-- a token with the text after it
abbrev pub lent_token : Token × Bor (List ℕ) → token.Token × List ℕ
lent_token front = (token_view front.0, front.1.now)

abbrev pub token_and_rest : List ℕ → Option token.Token → Option (token.Token × List ℕ)
token_and_rest text first = option_map (λ t. (t, drop (token_len t) text)) first

-- the token at the beginning of a text, and the text after it
abbrev pub first_token : List ℕ → Option (token.Token × List ℕ)
first_token text = token_and_rest text (token_at text)

-- two lent texts
abbrev pub lent_pair : Bor (List ℕ) × Bor (List ℕ) → List ℕ × List ℕ
lent_pair cut = (cut.0.now, cut.1.now)

-- what stands between two quotes, the first of which stood before the text, and the text after them
abbrev pub text_before_quote : ℕ → List ℕ → Option (List ℕ × List ℕ)
text_before_quote quote text =
    option_map (λ inside. (inside, drop (length inside + 1) text)) (quoted_at quote text)

-- the next token of a text, after white space: none where no token stands there, and no token where
-- the text ends
abbrev pub next_token : List ℕ → Option (Option (token.Token × List ℕ))
next_token text =
    if length (after_white text) == 0 then Some None
    else option_map Some (first_token (after_white text))

abbrev pub lent_next : Option (Token × Bor (List ℕ)) → Option (token.Token × List ℕ)
lent_next next = option_map lent_token next
