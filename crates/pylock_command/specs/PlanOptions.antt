-- The options of `plan`, in clap's terms.
use Rattle.std.specs.Prelude.{◌≡◌, ◌⊎◌, ◌++◌, List, [], ◌∷◌, Option, Some, None}
use Rattle.std.specs.Prelude.{Bool, if◌then◌else◌, codes, false, map, true, unwrap_or}
use Rattle.clap.specs.Words.{Row, Text, all_of}
use Rattle.pylock_command.specs.Texts.{has_flag}
use Rattle.pylock_command.specs.declared.option.PlanOption.{PlanOption}
use Rattle.pylock_command.specs.declared.option.PlanOption.TheVariants.{AllExtras, Extra}
use Rattle.pylock_command.specs.declared.option.PlanOption.TheVariants.{NoDefaultGroups, AllGroups}
use Rattle.pylock_command.specs.declared.option.PlanOption.TheVariants.{Group, NoGroup, OnlyBinary}
use Rattle.pylock_command.specs.declared.option.PlanOption.TheVariants.{Except, NoBinary}
use Rattle.pylock_command.specs.declared.option.PlanOption.TheVariants.{NoProject, Only}
use Rattle.pylock_command.specs.declared.option.PlanOption.TheVariants as option

-- an option as it stands among the words: its name, and its text, if it takes one
abbrev pub OptionWords : Type 0
OptionWords = Text × Option Text

abbrev pub option_words : PlanOption → OptionWords
option_words AllExtras = (codes "all-extras", None)
option_words (Extra name) = (codes "extra", Some name.now)
option_words NoDefaultGroups = (codes "no-default-groups", None)
option_words AllGroups = (codes "all-groups", None)
option_words (Group name) = (codes "group", Some name.now)
option_words (NoGroup name) = (codes "no-group", Some name.now)
option_words (OnlyBinary name) = (codes "only-binary", Some name.now)
option_words (NoBinary name) = (codes "no-binary", Some name.now)
option_words (option.Set text) = (codes "set", Some text.now)
option_words (Only name) = (codes "only", Some name.now)
option_words (Except name) = (codes "except", Some name.now)
option_words NoProject = (codes "no-project", None)

-- an option without a text, where the words have it
abbrev pub flag_of : Text → List Row → List OptionWords
flag_of name rows = if has_flag name rows then (name, None) ∷ [] else []

-- the texts that the words give an option, and the option with each of them
abbrev pub texts_at : Text → List Row → List Text
texts_at name rows = unwrap_or (all_of name rows) []

abbrev pub texts_of : Text → List Row → List OptionWords
texts_of name rows = map (λ text. (name, Some text)) (texts_at name rows)

-- what the words say of extras, and of dependency groups
abbrev pub on_extras : List Row → List OptionWords
on_extras rows = flag_of (codes "all-extras") rows ++ texts_of (codes "extra") rows

abbrev pub on_groups : List Row → List OptionWords
on_groups rows = flag_of (codes "no-default-groups") rows ++ flag_of (codes "all-groups") rows
    ++ texts_of (codes "group") rows ++ texts_of (codes "no-group") rows

-- `all` is made of two lists, of which each keeps its order
abbrev pub Interleaves : List OptionWords → List OptionWords → List OptionWords → Type 0
Interleaves one other [] = (one ≡ []) × (other ≡ [])
Interleaves one other (x ∷ all) =
    ((rest : List OptionWords) × (one ≡ x ∷ rest) × Interleaves rest other all)
    ⊎ ((rest : List OptionWords) × (other ≡ x ∷ rest) × Interleaves one rest all)

-- what the words say of files, in their order, of which rows tell that of each option alone
abbrev pub AreOnFiles : List Row → List OptionWords → Type 0
AreOnFiles rows = Interleaves (texts_of (codes "only-binary") rows)
    (texts_of (codes "no-binary") rows)

-- what the words say of which packages are left, and of variables too
abbrev pub on_left : List Row → List OptionWords
on_left rows = texts_of (codes "only") rows ++ texts_of (codes "except") rows
    ++ flag_of (codes "no-project") rows

abbrev pub on_plan : List Row → List OptionWords
on_plan rows = texts_of (codes "set") rows ++ on_left rows

-- these say what is left, and nothing else
abbrev pub AreLeft : List Row → List PlanOption → Type 0
AreLeft rows options = map option_words options ≡ on_left rows

-- the options that the rows have, in the order in which `PlanOption` names them
pub record AreOptions (rows : List Row) (options : List PlanOption) : Type 0 where
  pub on_files : List OptionWords
  pub are_on_files : AreOnFiles rows on_files
  pub in_order : map option_words options
      ≡ on_extras rows ++ on_groups rows ++ on_files ++ on_plan rows

-- the words have one of the options
abbrev pub has_one : List OptionWords → Bool
has_one [] = false
has_one (option ∷ others) = true

abbrev pub has_plan_options : List Row → Bool
has_plan_options rows = has_one (on_extras rows ++ on_groups rows
    ++ texts_of (codes "only-binary") rows ++ texts_of (codes "no-binary") rows
    ++ on_plan rows)
