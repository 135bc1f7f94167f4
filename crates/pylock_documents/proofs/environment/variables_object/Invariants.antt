use Rattle.std.proofs.Common.{◌≡◌, drop, map}
use Rattle.serde_json.specs.View.{members_view}
use Rattle.pylock_json.specs.Json.{members_of, with_rows}
use Rattle.pylock_documents.specs.Environment.{variable_row}
use Rattle.pylock_documents.proofs.environment.variables_object.Given as goal

-- the variables that are left are still to be put
abbrev pub invariant-loop-variable : goal.invariant-loop-variable
invariant-loop-variable l =
    with_rows (map (variable_row l.environment) (drop l.variable-index l.variables)) (members_view l.object)
    ≡ members_of (map (variable_row l.environment) l.variables)
