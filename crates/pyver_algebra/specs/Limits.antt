-- Limits of versions in their order (PEP 440, "Summary of permitted suffixes and relative
-- ordering"). Local parts don't count.
use Rattle.std.specs.Prelude.{Bool, true, false, not, ◌&&◌, ◌||◌, if◌then◌else◌, IsTrue, List}
use Rattle.std.specs.Prelude.{Option, Some, None}
use Rattle.std.specs.List.{list_all}
use Rattle.std.specs.declared.cmp.Ordering.{Ordering}
use Rattle.std.specs.declared.cmp.Ordering.TheVariants.{Less, Equal, Greater}
use Rattle.pyver_core.specs.Version.Order.{is_before, version_cmp}
use Rattle.pyver_core.specs.Version.Parts.{Parts, public_part}
use Rattle.pyver_algebra.specs.declared.limit.Cut.{Cut}
use Rattle.pyver_algebra.specs.declared.limit.Limit.{Limit}
use Rattle.pyver_algebra.specs.declared.limit.Limit.TheVariants.{From, Until, Outside}

-- whether a version stands at another one or after it
abbrev pub is_from : Parts → Parts → Bool
is_from v c = not (is_before (public_part c) v)

-- whether a version stands at another one
abbrev pub is_at : Parts → Parts → Bool
is_at v c = is_from v c && not (is_before v (public_part c))

-- whether a version lies past a cut: after its version, or from its version on
abbrev pub is_past : Cut → Parts → Bool
is_past cut c =
    if cut.after then is_before cut.version (public_part c)
    else is_from cut.version c

-- past the first cut, and not past the second
abbrev pub is_between : Cut → Cut → Parts → Bool
is_between begin end c = is_past begin c && not (is_past end c)

abbrev pub lies_within : Limit → Parts → Bool
lies_within (From cut) c = is_past cut c
lies_within (Until cut) c = not (is_past cut c)
lies_within (Outside begin end) c = not (is_past begin c) || is_past end c

-- whether a cut comes no later than another one
abbrev pub comes_first : Ordering → Bool → Bool
comes_first Less tie = true
comes_first Equal tie = tie
comes_first Greater tie = false

abbrev pub is_at_or_before : Cut → Cut → Bool
is_at_or_before a b = comes_first (version_cmp a.version b.version) (not a.after || b.after)

-- whether a version lies past the lowest cut that is known
abbrev pub is_past_lowest : Option Cut → Parts → Bool
is_past_lowest None c = true
is_past_lowest (Some cut) c = is_past cut c

-- no version that lies past the lowest cut keeps the limit
abbrev pub ends_before : Option Cut → Limit → Bool
ends_before (Some lowest) (Until cut) = is_at_or_before cut lowest
ends_before lowest limit = false

-- a version keeps all the limits
abbrev pub Keeps : List Limit → Parts → Type 0
Keeps limits c = IsTrue (list_all (λ limit. lies_within limit c) limits)
