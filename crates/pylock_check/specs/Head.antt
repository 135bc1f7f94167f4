-- What a project says of Python, extras and groups, beside the head of a lock (PEP 751).
use Rattle.std.specs.Prelude.{◌≡◌, ℕ, ◌++◌, Bool, not, codes, List, [], ◌∷◌, filter, map, Option}
use Rattle.std.specs.Prelude.{Some, None, IsTrue, length, ◌==◌, if◌then◌else◌}
use Rattle.std.specs.List.{list_any}
use Rattle.std.specs.Str.{bytes_eq}
use Rattle.pyver_core.specs.Set.Admission.{admits_all}
use Rattle.pyver_core.specs.Version.Normal.{normal_text}
use Rattle.pyver_core.specs.declared.set.specifier.Specifier.{Specifier}
use Rattle.pyver_algebra.specs.Sets.{LiesIn, Says}
use Rattle.pyver_algebra.specs.declared.sets.Answer.{Answer}
use Rattle.pyver_algebra.specs.declared.sets.Answer.TheVariants.{Yes, No, Undecided}
use Rattle.pylock_readers.specs.Lock.{HeadValue}
use Rattle.pylock_check.specs.Judging.{dynamic_difference, is_dynamic}
use Rattle.pylock_check.specs.Project.{ProjectValue, SectionValue, is_named}
use Rattle.pylock_check.specs.Sections.{table_place}
use Rattle.pylock_check.specs.declared.difference.Difference.{Difference}
use Rattle.pylock_check.specs.declared.difference.DifferenceKind.{DifferenceKind}
use Rattle.pylock_check.specs.declared.difference.DifferenceKind.TheVariants as difference
use Rattle.pylock_check.specs.declared.requirements.ListKind.TheVariants as kind

-- ---- Python

abbrev pub of_python : DifferenceKind → List ℕ → Difference
of_python kind detail = record {
  kind = kind;
  place = codes "project.requires-python";
  name = None;
  detail = Some detail;
}

-- what is found by the answer whether the project's versions of Python are the lock's: a version
-- that the project alone admits, or that it wasn't decided
abbrev pub python_differences : Answer → List Difference
python_differences Yes = []
python_differences (No version) = of_python difference.Python (normal_text version) ∷ []
python_differences Undecided = of_python difference.Unknown (codes "undecided") ∷ []

-- where both have `requires-python`, each version that the project's admits is one that the lock's
-- does
abbrev pub ArePythons : Option (List Specifier) → Option (List Specifier) → List Difference → Type 0
ArePythons (Some project) (Some lock) found =
    (answer : Answer)
    × Says answer (LiesIn project lock)
    (λ v. IsTrue (admits_all project v) × (IsTrue (admits_all lock v) → ⊥))
    × (found ≡ python_differences answer)
ArePythons None lock found = found ≡ []
ArePythons (Some project) None found = found ≡ []

-- ---- names

-- an extra or a group that the project alone has
abbrev pub projects_alone : DifferenceKind → SectionValue → Difference
projects_alone kind section = record {
  kind = kind;
  place = section.place;
  name = Some section.name;
  detail = Some (codes "project");
}

-- one that the lock alone has
abbrev pub locks_alone : DifferenceKind → (place name : List ℕ) → Difference
locks_alone kind place name = record {
  kind = kind;
  place = place;
  name = Some name;
  detail = Some (codes "lock");
}

abbrev pub is_locks : List (List ℕ) → SectionValue → Bool
is_locks names section = list_any (bytes_eq section.name) names

abbrev pub is_projects : List SectionValue → List ℕ → Bool
is_projects sections name = list_any (is_named name) sections

-- those of the project that the lock doesn't name, and those of the lock that the project hasn't
abbrev pub names_apart : DifferenceKind → (place : List ℕ) → List SectionValue → List (List ℕ)
    → List Difference
names_apart kind place sections names =
    map (projects_alone kind) (filter (λ s. not (is_locks names s)) sections)
    ++ map (locks_alone kind place) (filter (λ n. not (is_projects sections n)) names)

-- a lock that names none says nothing of them
abbrev pub name_differences : DifferenceKind → (place : List ℕ) → List SectionValue
    → List (List ℕ) → List Difference
name_differences kind place sections names =
    if length names == 0 then [] else names_apart kind place sections names

-- nothing can be told of extras that are dynamic
abbrev pub extras_apart : ProjectValue → List (List ℕ) → List Difference
extras_apart project names =
    if is_dynamic (codes "optional-dependencies") project
    then dynamic_difference (codes "optional-dependencies") ∷ []
    else names_apart difference.Extra (table_place kind.Requirements) project.extras names

abbrev pub extra_names : ProjectValue → List (List ℕ) → List Difference
extra_names project names =
    if length names == 0 then [] else extras_apart project names

-- ---- all

-- what is found of Python, then of the extras, then of the groups
abbrev pub AreHeadDifferences : ProjectValue → HeadValue → List Difference → Type 0
AreHeadDifferences project head found =
    (pythons : List Difference) × ArePythons project.requires_python head.requires_python pythons
    × (found ≡ pythons ++ extra_names project head.extras
    ++ name_differences difference.Group (table_place kind.Group) project.groups head.groups)
