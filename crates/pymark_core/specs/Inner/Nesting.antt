-- The depth of a text, from a position on.
use Rattle.std.specs.Prelude.{ℕ, ◌+◌, ◌-◌, Bool, nat_lt, List, count_by}
use Rattle.std.specs.List.{list_any}
use Rattle.pymark_core.specs.Marker.Depth.{depth_limit, is_closing, is_opening, prefixes}
use Rattle.pymark_core.specs.Marker.Depth.{outside_quotes_from}
use Rattle.pymark_core.specs.declared.marker.depth.Nesting.{Nesting}

-- whether too many are open at a position of these bytes, where so many were opened and closed
-- before them
abbrev pub is_deep_after : ℕ → ℕ → List ℕ → Bool
is_deep_after opened closed out =
    list_any
    (λ prefix. nat_lt depth_limit ((opened + count_by is_opening prefix)
    - (closed + count_by is_closing prefix)))
    (prefixes out)

-- the same of a text of which this was passed
unfoldable pub is_deep_from : Nesting → List ℕ → Bool
is_deep_from nesting rest =
    is_deep_after nesting.opened nesting.closed (outside_quotes_from nesting.quote rest)
