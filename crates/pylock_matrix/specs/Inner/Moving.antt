-- The variables of an environment, given their texts one after another.
use Rattle.std.specs.Prelude.{ℕ, List, [], ◌∷◌, Option, slice_set}
use Rattle.pymark_core.specs.Environment.{EnvironmentValue, variable_in}
use Rattle.pymark_core.specs.Variables.{variable_number}
use Rattle.pymark_core.specs.declared.variable.Var.{Var}

-- the environment in which the variable has this text, or none
abbrev pub with_text : Var → Option (List ℕ) → EnvironmentValue → EnvironmentValue
with_text variable text environment =
    record environment {
      variables = slice_set environment.variables (variable_number variable) text;
    }

-- the environment in which these variables have the texts that they have in another one
abbrev pub with_texts_of : EnvironmentValue → List Var → EnvironmentValue → EnvironmentValue
with_texts_of wanted [] environment = environment
with_texts_of wanted (variable ∷ variables) environment =
    with_texts_of wanted variables (with_text variable (variable_in variable wanted) environment)
