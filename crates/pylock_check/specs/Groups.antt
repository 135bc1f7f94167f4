-- Dependency groups that include others (PEP 735, "Dependency Group Include").
use Rattle.std.specs.Prelude.{◌≡◌, ℕ, zero, suc, Bool, false, ◌&&◌, ◌||◌, List, [], ◌∷◌, length}
use Rattle.std.specs.Prelude.{map, Result, Ok, Err, if◌then◌else◌, ⊤, IsTrue}
use Rattle.std.specs.List.{Contains, list_all, list_any}
use Rattle.std.specs.Str.{bytes_eq}
use Rattle.pytext.specs.Results.{◌>>=◌}
use Rattle.pymark_core.specs.Environment.{EnvironmentValue, has_group}
use Rattle.pylock_check.specs.Project.{IncludeValue, SectionValue, is_named}
use Rattle.pylock_check.specs.declared.error.ProjectError.{ProjectError}
use Rattle.pylock_check.specs.declared.error.ProjectError.TheVariants as error
use Rattle.pylock_check.specs.declared.groups.Marked.{Marked}
use Rattle.pylock_check.specs.declared.groups.Question.{Question}
use Rattle.pylock_check.specs.declared.groups.Question.TheVariants.{Ends, IsReached}

-- ---- each include is a group

-- the include names one of the groups
abbrev pub is_known : List SectionValue → IncludeValue → Bool
is_known groups include = list_any (is_named include.name) groups

-- the first of these includes that names none is refused
abbrev pub known_includes : List SectionValue → List IncludeValue → Result ⊤ ProjectError
known_includes groups [] = Ok tt
known_includes groups (include ∷ includes) =
    if is_known groups include then known_includes groups includes
    else Err (error.UnknownGroup include.place)

abbrev pub known_in : List SectionValue → List SectionValue → Result ⊤ ProjectError
known_in groups [] = Ok tt
known_in groups (group ∷ rest) =
    known_includes groups group.requirements.includes >>= λ _. known_in groups rest

-- ---- what follows over includes, found in rounds

-- a group, and whether it was found so
pub record MarkedValue : Type 0 where
  pub group : SectionValue
  pub is_so : Bool

-- one that lends its group
abbrev pub lent_marked : Marked → MarkedValue
lent_marked marked = record { group = marked.group.now; is_so = marked.is_so }

abbrev pub unmarked : SectionValue → MarkedValue
unmarked group = record { group = group; is_so = false }

-- by a round each group is so that is by what was found before
abbrev pub after_round : (List MarkedValue → SectionValue → Bool) → List MarkedValue
    → List MarkedValue
after_round test before =
    map (λ m. record { group = m.group; is_so = test before m.group }) before

abbrev pub after_rounds : (List MarkedValue → SectionValue → Bool) → ℕ → List MarkedValue
    → List MarkedValue
after_rounds test zero found = found
after_rounds test (suc rounds) found = after_rounds test rounds (after_round test found)

-- no chain of includes without a repeat is longer than the list of groups, so no more rounds find
-- more
unfoldable pub found_of : (List MarkedValue → SectionValue → Bool) → List SectionValue
    → List MarkedValue
found_of test groups = after_rounds test (length groups) (map unmarked groups)

-- ---- the two questions

-- the group was found so, and has the name
abbrev pub is_found : (name : List ℕ) → MarkedValue → Bool
is_found name marked = marked.is_so && is_named name marked.group

-- a group ends where each that it includes does
abbrev pub ends : List MarkedValue → SectionValue → Bool
ends found group =
    list_all (λ include. list_any (is_found include.name) found) group.requirements.includes

-- the group includes that of the name
abbrev pub includes : (name : List ℕ) → SectionValue → Bool
includes name group = list_any (λ i. bytes_eq name i.name) group.requirements.includes

-- the group was found so, and includes that of the name
abbrev pub leads_to : (name : List ℕ) → MarkedValue → Bool
leads_to name marked = marked.is_so && includes name marked.group

-- a group is reached where it is asked for, or included by one that is reached
abbrev pub is_reached : EnvironmentValue → List MarkedValue → SectionValue → Bool
is_reached environment found group =
    has_group group.name environment || list_any (leads_to group.name) found

-- what is asked of a group by what was found
abbrev pub is_so : Question → List MarkedValue → SectionValue → Bool
is_so Ends = ends
is_so (IsReached environment) = is_reached environment.now

-- ---- proper groups

-- the first group that doesn't end is refused: it includes itself, over others or not, or one that
-- does
abbrev pub all_end : List MarkedValue → Result ⊤ ProjectError
all_end [] = Ok tt
all_end (marked ∷ rest) =
    if marked.is_so then all_end rest else Err (error.Cycle marked.group.place)

unfoldable pub proper_groups : List SectionValue → Result ⊤ ProjectError
proper_groups groups = known_in groups groups >>= λ _. all_end (found_of ends groups)

-- ---- chains of includes

-- each group has a name of its own
abbrev pub HaveOwnNames : List SectionValue → Type 0
HaveOwnNames groups =
    (one other : SectionValue) → Contains groups one → Contains groups other
    → one.name ≡ other.name → one ≡ other

-- the first group includes the next of these, that one the next, and so on to the last
abbrev pub LeadsOver : SectionValue → (between : List SectionValue) → SectionValue → Type 0
LeadsOver first [] last = IsTrue (includes last.name first)
LeadsOver first (next ∷ between) last =
    IsTrue (includes next.name first) × LeadsOver next between last
