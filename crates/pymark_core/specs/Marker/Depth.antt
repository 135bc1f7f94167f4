-- How deep the parentheses of a text are nested, quoted texts passed over. The text needn't be a
-- marker.
use Rattle.std.specs.Prelude.{ℕ, ◌-◌, Bool, ◌==◌, nat_lt, if◌then◌else◌, List, [], ◌∷◌, map, Option}
use Rattle.std.specs.Prelude.{Some, None, count_by}
use Rattle.std.specs.List.{list_any}
use Rattle.pymark_core.specs.Marker.Token.{is_quote}

-- The bytes that stand outside quotations, where a quotation by this quote is open or none is. It
-- ends at the next quote of its kind; one that isn't closed runs to the end.
abbrev pub outside_quotes_from : Option ℕ → List ℕ → List ℕ
outside_quotes_from quote [] = []
outside_quotes_from None (b ∷ rest) =
    if is_quote b then outside_quotes_from (Some b) rest else b ∷ outside_quotes_from None rest
outside_quotes_from (Some quote) (b ∷ rest) =
    outside_quotes_from (if b == quote then None else Some quote) rest

abbrev pub outside_quotes : List ℕ → List ℕ
outside_quotes text = outside_quotes_from None text

-- the prefixes of a list, from none of it to all of it
abbrev pub prefixes : List ℕ → List (List ℕ)
prefixes [] = [] ∷ []
prefixes (b ∷ rest) = [] ∷ map (λ prefix. b ∷ prefix) (prefixes rest)

abbrev pub is_opening : ℕ → Bool
is_opening b = b == 40

abbrev pub is_closing : ℕ → Bool
is_closing b = b == 41

-- how many parentheses are open at the end: those opened less those closed
abbrev pub open_count : List ℕ → ℕ
open_count text = count_by is_opening text - count_by is_closing text

-- how many parentheses may be open at one position
abbrev pub depth_limit : ℕ
depth_limit = 64

-- at some position outside quotations more than that are open
abbrev pub is_deep : List ℕ → Bool
is_deep text =
    list_any (λ prefix. nat_lt depth_limit (open_count prefix)) (prefixes (outside_quotes text))
