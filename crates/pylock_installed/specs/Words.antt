-- The words of a refused list of what is installed.
use Rattle.std.specs.Prelude.{ℕ, codes, decimal, List, ◌∷◌, Option, Some, None, option_map}
use Rattle.std.specs.Prelude.{option_to_list}
use Rattle.pylock_installed.specs.declared.error.InstalledError.{InstalledError}
use Rattle.pylock_installed.specs.declared.error.InstalledError.TheVariants as error

-- what is wrong; out of memory is no refusal, and is never printed
abbrev pub installed_word : InstalledError → List ℕ
installed_word error.Json = codes "json"
installed_word error.Shape = codes "shape"
installed_word (error.Element place) = codes "element"
installed_word (error.Twice place) = codes "twice"
installed_word error.Memory = codes "memory"

-- the place of the element that is at fault
abbrev pub installed_place : InstalledError → Option ℕ
installed_place (error.Element place) = Some place
installed_place (error.Twice place) = Some place
installed_place other = None

-- both, as they are printed
abbrev pub installed_words : InstalledError → List (List ℕ)
installed_words refusal =
    installed_word refusal ∷ option_to_list (option_map decimal (installed_place refusal))
