-- The text of an environment: the variables and the tags of the Python that is installed for.
use Rattle.std.specs.Prelude.{ℕ, codes, List, [], ◌∷◌, Option, Some, None, option_and_then}
use Rattle.std.specs.Prelude.{option_map, ok_or, Result, Ok, Err}
use Rattle.serde_json.specs.Data.{Data, Items, no_items, item, Members}
use Rattle.serde_json.specs.Find.{get, get_member, as_str, as_array, as_object}
use Rattle.serde_json.specs.Read.{read}
use Rattle.pytext.specs.Results.{◌>>=◌}
use Rattle.pymark_core.specs.Environment.{EnvironmentValue, empty_environment, with_variable}
use Rattle.pymark_core.specs.Variables.{variable_name, variables}
use Rattle.pymark_core.specs.declared.variable.Var.{Var}
use Rattle.pywheel_core.specs.Tag.{TagValue, tags_of}
use Rattle.pywheel_core.specs.declared.error.TagListError.{TagListError}
use Rattle.pywheel_core.specs.declared.error.TagListError.TheVariants as list
use Rattle.pylock_readers.specs.Text.{utf8_text}
use Rattle.pylock_readers.specs.declared.error.EnvError.{EnvError}
use Rattle.pylock_readers.specs.declared.error.EnvError.TheVariants as error

-- an environment and its tags as they were read, or why they are refused
abbrev pub EnvironmentRead : Type 0
EnvironmentRead = Result (EnvironmentValue × List TagValue) EnvError

-- the object `environment`
abbrev pub members_in : Data → Result Members EnvError
members_in d = ok_or (option_and_then as_object (get (codes "environment") d)) error.Shape

-- the list `tags`
abbrev pub tag_items : Data → Result Items EnvError
tag_items d = ok_or (option_and_then as_array (get (codes "tags") d)) error.Shape

-- the text of a member, which is a text where it is there
abbrev pub member_text_in : Option Data → Result (Option (List ℕ)) EnvError
member_text_in None = Ok None
member_text_in (Some d) = ok_or (option_map Some (as_str d)) error.Shape

-- the environment where the variable has the text, if there is one
abbrev pub with_text : Var → Option (List ℕ) → EnvironmentValue → EnvironmentValue
with_text variable None environment = environment
with_text variable (Some text) environment = with_variable variable text environment

-- the environment where the variable has the text of the member of its name
abbrev pub with_member : Var → Members → EnvironmentValue → Result EnvironmentValue EnvError
with_member variable members environment =
    member_text_in (get_member (variable_name variable) members)
    >>= (λ text. Ok (with_text variable text environment))

-- the same of each of these variables
unfoldable pub with_members : List Var → Members → EnvironmentValue
    → Result EnvironmentValue EnvError
with_members [] ms environment = Ok environment
with_members (variable ∷ more) ms environment =
    with_member variable ms environment >>= with_members more ms

-- the texts of a list
abbrev pub texts_in : Items → Result (List (List ℕ)) EnvError
texts_in no_items = Ok []
texts_in (item d ds) =
    ok_or (as_str d) error.Shape >>= (λ text. texts_in ds >>= (λ texts. Ok (text ∷ texts)))

-- the refusal of tags is that of the environment
abbrev pub tag_refusal : TagListError → EnvError
tag_refusal (list.Tag place) = error.Tag place
tag_refusal list.Memory = error.Memory

abbrev pub from_tags : Result (List TagValue) TagListError → Result (List TagValue) EnvError
from_tags (Ok tags) = Ok tags
from_tags (Err e) = Err (tag_refusal e)

abbrev pub tag_list_of : List (List ℕ) → Result (List TagValue) EnvError
tag_list_of texts = from_tags (tags_of texts)

-- the environment and the tags of a value; its form is judged before any tag
unfoldable pub env_in : Data → Result (EnvironmentValue × List TagValue) EnvError
env_in d = do
  members ← members_in d
  environment ← with_members variables members empty_environment
  items ← tag_items d
  texts ← texts_in items
  tags ← tag_list_of texts
  Ok (environment, tags)

-- the text as JSON
abbrev pub value_of : List ℕ → Result Data EnvError
value_of text = ok_or (read text) error.Json

-- the environment and the tags that the bytes are
unfoldable pub env_of : List ℕ → Result (EnvironmentValue × List TagValue) EnvError
env_of bytes = do
  text ← ok_or (utf8_text bytes) error.Json
  value ← value_of text
  env_in value
