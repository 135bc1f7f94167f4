-- The environment of a target as a text, which `read_environment` of `pylock_readers` takes.
use Rattle.std.specs.Prelude.{ℕ, ◌++◌, List, [], ◌∷◌, Some, codes, map}
use Rattle.serde_json.specs.Written.{compact_text}
use Rattle.pylock_json.specs.Json.{Row, maybe, object_of, texts_of}
use Rattle.pymark_core.specs.Environment.{EnvironmentValue, variable_in}
use Rattle.pymark_core.specs.Variables.{variable_name, variables}
use Rattle.pymark_core.specs.declared.variable.Var.{Var}
use Rattle.pywheel_core.specs.Tag.{TagValue, tag_text}
use Rattle.pywheel_core.specs.Target.Tags.{target_tags}
use Rattle.pywheel_core.specs.Target.Value.{TargetValue}
use Rattle.pylock_readers.specs.Target.{target_environment}

-- a variable without a text has no member
abbrev pub variable_row : EnvironmentValue → Var → Row
variable_row environment variable =
    (variable_name variable, maybe (variable_in variable environment))

abbrev pub environment_rows : EnvironmentValue → List TagValue → List Row
environment_rows environment tags =
    (codes "environment", Some (object_of (map (variable_row environment) variables)))
    ∷ (codes "tags", Some (texts_of (map tag_text tags)))
    ∷ []

-- JSON without white space, and LF
abbrev pub environment_text : EnvironmentValue → List TagValue → List ℕ
environment_text environment tags =
    compact_text (object_of (environment_rows environment tags)) ++ codes "\n"

unfoldable pub target_text : TargetValue → List ℕ
target_text target = environment_text (target_environment target) (target_tags target)
