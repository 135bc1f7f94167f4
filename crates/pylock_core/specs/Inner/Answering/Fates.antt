-- What becomes of each entry, over the flat rows of a session.
use Rattle.std.specs.Prelude.{ℕ, ◌&&◌, nat_eq, List, ◌∷◌, map, Option, Some, None}
use Rattle.std.specs.Prelude.{[], if◌then◌else◌}
use Rattle.pylock_core.specs.Inner.Tables.Names.{policy_at}
use Rattle.pylock_core.specs.Inner.Tables.Rows.{row_source}
use Rattle.pylock_core.specs.Inner.Answering.Steps.{is_active}
use Rattle.pylock_core.specs.Session.Fates.{fate_by, own_fate}
use Rattle.pylock_core.specs.declared.edit.Policy.{Policy}
use Rattle.pylock_core.specs.declared.fate.Fate.{Fate}
use Rattle.pylock_core.specs.declared.session.tables.rows.Row.{Row}

-- the number of the first active row of the name
abbrev pub first_active_row : List (ℕ × Row) → ℕ → Option ℕ
first_active_row [] name = None
first_active_row (e ∷ es) name =
    if is_active e.1 && nat_eq name e.1.name then Some e.0 else first_active_row es name

-- what becomes of a row's entry, where this is the first active one of its name
abbrev pub row_fate : Policy → Option ℕ → ℕ × Row → Fate
row_fate policy first e =
    fate_by e.1.verdict.standing e.0 first
    (own_fate e.1.sources.conflict policy (row_source e.1 policy))

-- of each, among all rows
abbrev pub fate_among : List (ℕ × Row) → List Policy → ℕ × Row → Fate
fate_among all policies e =
    row_fate (policy_at policies e.1.name) (first_active_row all e.1.name) e

-- the same with its number
abbrev pub numbered_fate : List (ℕ × Row) → List Policy → ℕ × Row → ℕ × Fate
numbered_fate all policies e = (e.0, fate_among all policies e)

abbrev pub row_fates : List (ℕ × Row) → List Policy → List (ℕ × Fate)
row_fates all policies = map (numbered_fate all policies) all
