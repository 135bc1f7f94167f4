-- How far a text is the beginning of a marker (PEP 508, "Grammar").
use Rattle.std.specs.Prelude.{◌≡◌, ℕ, ◌==◌, ◌&&◌, Bool, false, nat_lt, if◌then◌else◌, List, [], ◌∷◌}
use Rattle.std.specs.Prelude.{length, ◌-◌, Option, Some, None, option_map}
use Rattle.std.specs.List.{list_any}
use Rattle.pytext.specs.Options.{◌>>=◌}
use Rattle.pytext.specs.White.{after_white}
use Rattle.pymark_core.specs.Inner.LentToken.{next_token}
use Rattle.pymark_core.specs.Marker.Token.{Token, is_quote}
use Rattle.pymark_expected.specs.Marker.Following.{depth_after, follow}
use Rattle.pymark_expected.specs.declared.marker.follow.Next.{Next}
use Rattle.pymark_expected.specs.declared.marker.follow.Next.TheVariants.{Start, Operator, In, Text}
use Rattle.pymark_expected.specs.declared.marker.follow.Next.TheVariants.{Container, Rest}
use Rattle.pymark_expected.specs.declared.expected.Expected.{Expected}
use Rattle.pymark_expected.specs.declared.expected.Expected.TheVariants as sentence
use Rattle.pymark_expected.specs.declared.fault.Fault.{Fault}
use Rattle.pymark_expected.specs.declared.marker.Reading.{Reading}

-- what is left of a text behind tokens, what may stand next, and how many parentheses are open
pub record Place : Type 0 where
  pub rest : List ℕ
  pub next : Next
  pub depth : ℕ

-- the place behind a token with the text after it, where the token may follow
abbrev pub behind : Next → ℕ → Option (Token × List ℕ) → Option Place
behind stage depth None = None
behind stage depth (Some front) =
    option_map
    (λ next. record { rest = front.1; next = next; depth = depth_after front.0 depth })
    (follow stage depth front.0)

-- the place behind the next token, where one stands there and may follow
unfoldable pub next_place : Place → Option Place
next_place place = next_token place.rest >>= λ front. behind place.next place.depth front

-- the tokens before the place may follow one another from the beginning of the text on
pub data Reaches : List ℕ → Place → Type 0 where
  at_start : (text : List ℕ) → Reaches text (record { rest = text; next = Start; depth = 0 })
  behind_token : (text : List ℕ) (place next : Place)
      → Reaches text place → next_place place ≡ Some next → Reaches text next

-- and no further token may
pub record StopsAt (text : List ℕ) (place : Place) : Type 0 where
  pub reached : Reaches text place
  pub stops : next_place place ≡ None

-- ---- what was expected there

-- whether the text begins with a quote that stands there once more
abbrev pub is_quotation : List ℕ → Bool
is_quotation [] = false
is_quotation (b ∷ rest) = is_quote b && list_any (λ c. c == b) rest

abbrev pub expected_operand : List ℕ → Expected
expected_operand text = if is_quotation text then sentence.PlainText else sentence.Operand

abbrev pub expected_behind : ℕ → Expected
expected_behind depth = if nat_lt 0 depth then sentence.ClosingMarker else sentence.MarkerEnd

-- what may stand next, in front of this text and inside so many parentheses
abbrev pub expected_by : Next → ℕ → List ℕ → Expected
expected_by Start depth text = expected_operand text
expected_by Operator depth text = sentence.MarkerOperator
expected_by In depth text = sentence.In
expected_by Text depth text = expected_operand text
expected_by Container depth text = expected_operand text
expected_by Rest depth text = expected_behind depth

-- the fault of a text that stops to be a marker: the stretch ends at the place, behind white space
pub record IsStop (text : List ℕ) (fault : Fault) : Type 0 where
  pub place : Place
  pub stops_at : StopsAt text place
  pub end : fault.end ≡ length text - length (after_white place.rest)
  pub expected : fault.expected ≡ expected_by place.next place.depth (after_white place.rest)

-- the text goes on to its end, and may end there
pub record IsEndOfMarker (text : List ℕ) : Type 0 where
  pub place : Place
  pub stops_at : StopsAt text place
  pub next : place.next ≡ Rest
  pub depth : place.depth ≡ 0
  pub end : after_white place.rest ≡ []

-- how far the code has read, seen as a place
abbrev pub place_of : Reading → Place
place_of reading = record { rest = reading.rest.now; next = reading.next; depth = reading.depth }
