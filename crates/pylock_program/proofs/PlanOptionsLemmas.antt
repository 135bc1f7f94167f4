-- The edits of an option, from names that were brought into normal form.
use Rattle.std.proofs.Common.{◌≡◌, ◌++◌, ℕ, List, [], ◌∷◌, ap, refl, map}
use Rattle.pyver_core.specs.Name.{normal_name}
use Rattle.pylock_readers.specs.Entry.{EntryValue}
use Rattle.pylock_core.specs.Session.Names.{name_change}
use Rattle.pylock_core.specs.declared.edit.Edit.TheVariants as edit
use Rattle.pylock_core.specs.declared.edit.NameChange.{NameChange}
use Rattle.pylock_core.specs.declared.edit.Policy.{Policy as FilePolicy}
use Rattle.pylock_program.specs.PlanOptions.{name_edit}
use Rattle.pylock_program.specs.declared.options.NameEdit.TheVariants.{Change, Policy}

-- of names in two parts
pub edits_of_names : (change : NameChange) (names others : List (List ℕ))
    → map (λ name. edit.Environment (name_change change name)) (map normal_name names ++ map normal_name others)
    ≡ map (name_edit (Change change)) names ++ map (name_edit (Change change)) others
edits_of_names change [] [] = refl
edits_of_names change [] (other ∷ others) = ap (λ edits. name_edit (Change change) other ∷ edits) (edits_of_names change [] others)
edits_of_names change (name ∷ names) others = ap (λ edits. name_edit (Change change) name ∷ edits) (edits_of_names change names others)

-- of the names of entries
pub policies_of_names : (policy : FilePolicy) (entries : List (ℕ × EntryValue))
    → map (λ name. edit.Policy name policy) (map (λ entry. normal_name entry.1.name) entries) ≡ map (λ entry. name_edit (Policy policy) entry.1.name) entries
policies_of_names policy [] = refl
policies_of_names policy (entry ∷ entries) = ap (λ edits. name_edit (Policy policy) entry.1.name ∷ edits) (policies_of_names policy entries)
