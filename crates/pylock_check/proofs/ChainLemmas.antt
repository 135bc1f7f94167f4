-- Groups that end include no chain back to themselves, and the groups of a project have names of their own.
use Rattle.std.proofs.Common.{◌≡◌, ◌∙◌, ◌⊎◌, ◌++◌, ◌<◌, ◌==◌, ◌&&◌, ◌||◌, ℕ, zero, suc, Bool, cond, true, false, not, List, [], ◌∷◌, codes, length, get_or, map, Option, Some, None, ok_or, option_map, Result, Ok, Err, ap, arith, inl, inr, refl, subst, sym}
use Rattle.std.specs.Prelude.{⊤}
use Rattle.std.specs.List.{All, Contains, list_all, list_any}
use Rattle.std.specs.Str.{bytes_eq}
use Rattle.std.proofs.lemmas.List.Elements.{All-append, All-cons, All-head, All-nil, All-tail, Contains-append_cases}
use Rattle.std.proofs.lemmas.List.Folds.{list_any_at}
use Rattle.std.proofs.lemmas.Slice.Eq.{bytes_eq-Decides}
use Rattle.toml.specs.Data.{Data, table, Members, no_members, member, as_table, get}
use Rattle.toml.specs.Parse.{parse_document}
use Rattle.pytext.specs.Results.{◌>>=◌}
use Rattle.pyver_core.specs.Name.{is_name, normal_name}
use Rattle.pylock_readers.specs.Text.{utf8_text}
use Rattle.pylock_check.specs.Groups.{HaveOwnNames, LeadsOver, MarkedValue, after_round, after_rounds, all_end, ends, found_of, includes, is_found, known_in, proper_groups, unmarked}
use Rattle.pylock_check.specs.Project.{IncludeValue, ProjectValue, RequirementsValue, SectionValue, is_named}
use Rattle.pylock_check.specs.Reading.{document_of, dynamic_in, project_in, project_of, project_table, requires_python_in, value_at}
use Rattle.pylock_check.specs.Requirements.{dependencies_in, requirements_of}
use Rattle.pylock_check.specs.Sections.{new_name, section_place, sections_in, table_place, with_section, with_sections}
use Rattle.pylock_check.specs.declared.error.ProjectError.{ProjectError}
use Rattle.pylock_check.specs.declared.error.ProjectError.TheVariants as error
use Rattle.pylock_check.specs.declared.requirements.ListKind.{ListKind}
use Rattle.pylock_check.specs.declared.requirements.ListKind.TheVariants as kind

-- ---- tests

left_true : (one other : Bool) → (one && other) ≡ true → one ≡ true
left_true true other is = refl
left_true false other is = is

right_true : (one other : Bool) → (one && other) ≡ true → other ≡ true
right_true true other is = is
right_true false other is = absurd cc

same_text : (one other : List ℕ) → bytes_eq one other ≡ true → one ≡ other
same_text one other is = (bytes_eq-Decides one other).0 is

text_same : (one other : List ℕ) → one ≡ other → bytes_eq one other ≡ true
text_same one other is = (bytes_eq-Decides one other).1 is

-- ---- elements of a list

-- an element that passes the test
record Passes {X : Type 0} (test : X → Bool) (xs : List X) : Type 0 where
  pub x : X
  pub among : Contains xs x
  pub passes : test x ≡ true

here : {X : Type 0} (x : X) (xs : List X) (y : X) → x ≡ y → Contains (x ∷ xs) y
here x xs y same = (0, omega arith, same)

there : {X : Type 0} (x : X) (xs : List X) (y : X) → Contains xs y → Contains (x ∷ xs) y
there x xs y has = (suc has.0, omega (arith, has.1), has.2)

passes_or : {X : Type 0} (test : X → Bool) (x : X) (xs : List X) (b : Bool) → test x ≡ b → (list_any test xs ≡ true → Passes test xs) → (b || list_any test xs) ≡ true → Passes test (x ∷ xs)
passes_or test x xs true is later any = record { x = x; among = here x xs x refl; passes = is }
passes_or test x xs false is later any =
    let found = later any in
    record { x = found.x; among = there x xs found.x found.among; passes = found.passes }

passing : {X : Type 0} (test : X → Bool) (xs : List X) → list_any test xs ≡ true → Passes test xs
passing test [] any = absurd cc
passing test (x ∷ xs) any = passes_or test x xs (test x) refl (passing test xs) any

each_at : {X : Type 0} (test : X → Bool) (xs : List X) (x : X) (k : ℕ) → k < length xs → get_or xs k x ≡ x → list_all test xs ≡ true → test x ≡ true
each_at test [] x k within is all = absurd (omega arith)
each_at test (y ∷ ys) x zero within is all = ap test (sym is) ∙ left_true (test y) (list_all test ys) all
each_at test (y ∷ ys) x (suc k) within is all = each_at test ys x k (omega arith) is (right_true (test y) (list_all test ys) all)

each : {X : Type 0} (test : X → Bool) (xs : List X) (x : X) → Contains xs x → list_all test xs ≡ true → test x ≡ true
each test xs x has all = each_at test xs x has.0 has.1 has.2 all

-- what an element of a mapped list comes from
record ComesFrom {X Y : Type 0} (f : X → Y) (xs : List X) (y : Y) : Type 0 where
  pub x : X
  pub among : Contains xs x
  pub gives : f x ≡ y

from_at : {X Y : Type 0} (f : X → Y) (xs : List X) (y : Y) (k : ℕ) → k < length (map f xs) → get_or (map f xs) k y ≡ y → ComesFrom f xs y
from_at f [] y k within is = absurd (omega arith)
from_at f (x ∷ xs) y zero within is = record { x = x; among = here x xs x refl; gives = is }
from_at f (x ∷ xs) y (suc k) within is =
    let more = from_at f xs y k (omega arith) is in
    record { x = more.x; among = there x xs more.x more.among; gives = more.gives }

from : {X Y : Type 0} (f : X → Y) (xs : List X) (y : Y) → Contains (map f xs) y → ComesFrom f xs y
from f xs y has = from_at f xs y has.0 has.1 has.2

mapped_at : {X Y : Type 0} (f : X → Y) (xs : List X) (x : X) (k : ℕ) → k < length xs → get_or xs k x ≡ x → Contains (map f xs) (f x)
mapped_at f [] x k within is = absurd (omega arith)
mapped_at f (y ∷ ys) x zero within is = here (f y) (map f ys) (f x) (ap f is)
mapped_at f (y ∷ ys) x (suc k) within is = there (f y) (map f ys) (f x) (mapped_at f ys x k (omega arith) is)

mapped : {X Y : Type 0} (f : X → Y) (xs : List X) (x : X) → Contains xs x → Contains (map f xs) (f x)
mapped f xs x has = mapped_at f xs x has.0 has.1 has.2

-- ---- rounds

abbrev Test : Type 0
Test = List MarkedValue → SectionValue → Bool

after_last : (test : Test) (k : ℕ) (found : List MarkedValue) → after_rounds test (suc k) found ≡ after_round test (after_rounds test k found)
after_last test zero found = refl
after_last test (suc k) found = after_last test k (after_round test found)

round_keeps : (so : SectionValue → Bool) (found : List MarkedValue) → map (λ (m : MarkedValue). m.group) (map (λ (m : MarkedValue). record { group = m.group; is_so = so m.group }) found) ≡ map (λ (m : MarkedValue). m.group) found
round_keeps so [] = refl
round_keeps so (m ∷ ms) = ap (λ (rest : List SectionValue). m.group ∷ rest) (round_keeps so ms)

rounds_keep : (test : Test) (k : ℕ) (found : List MarkedValue) → map (λ (m : MarkedValue). m.group) (after_rounds test k found) ≡ map (λ (m : MarkedValue). m.group) found
rounds_keep test zero found = refl
rounds_keep test (suc k) found = rounds_keep test k (after_round test found) ∙ round_keeps (test found) found

unmarked_all : (groups : List SectionValue) → map (λ (m : MarkedValue). m.group) (map unmarked groups) ≡ groups
unmarked_all [] = refl
unmarked_all (group ∷ groups) = ap (λ (rest : List SectionValue). group ∷ rest) (unmarked_all groups)

abbrev ended : ℕ → List SectionValue → List MarkedValue
ended k groups = after_rounds ends k (map unmarked groups)

groups_of : (k : ℕ) (groups : List SectionValue) → map (λ (m : MarkedValue). m.group) (ended k groups) ≡ groups
groups_of k groups = rounds_keep ends k (map unmarked groups) ∙ unmarked_all groups

stands : (k : ℕ) (groups : List SectionValue) (m : MarkedValue) → Contains (ended k groups) m → Contains groups m.group
stands k groups m has = subst (λ (gs : List SectionValue). Contains gs m.group) (groups_of k groups) (mapped (λ (m : MarkedValue). m.group) (ended k groups) m has)

-- ---- what a group that ends includes, ended before

record Ended (k : ℕ) (groups : List SectionValue) (group : SectionValue) : Type 0 where
  pub m : MarkedValue
  pub among : Contains (ended k groups) m
  pub is_so : m.is_so ≡ true
  pub is_group : m.group ≡ group

ended_before : (groups : List SectionValue) → HaveOwnNames groups → (k : ℕ) (m : MarkedValue) → Contains (ended (suc k) groups) m → m.is_so ≡ true
    → (next : SectionValue) → Contains groups next → includes next.name m.group ≡ true → Ended k groups next
ended_before groups own k m has so next stand includes_it =
    let before = ended k groups in
    let made = subst (λ (ms : List MarkedValue). Contains ms m) (after_last ends k (map unmarked groups)) has in
    let source = from (λ (m : MarkedValue). record { group = m.group; is_so = ends before m.group }) before m made in
    let group : source.x.group ≡ m.group = ap (λ (m : MarkedValue). m.group) source.gives in
    let test : ends before m.group ≡ true = ap (ends before) (sym group) ∙ ap (λ (m : MarkedValue). m.is_so) source.gives ∙ so in
    let include = passing (λ (i : IncludeValue). bytes_eq next.name i.name) m.group.requirements.includes includes_it in
    let ends_it = each (λ (i : IncludeValue). list_any (is_found i.name) before) m.group.requirements.includes include.x include.among test in
    let found = passing (is_found include.x.name) before ends_it in
    let named = same_text include.x.name found.x.group.name (right_true found.x.is_so (is_named include.x.name found.x.group) found.passes) in
    record {
      m = found.x;
      among = found.among;
      is_so = left_true found.x.is_so (is_named include.x.name found.x.group) found.passes;
      is_group = sym (own next found.x.group stand (stands k groups found.x found.among) (same_text next.name include.x.name include.passes ∙ named));
    }

-- ---- no chain comes back

turned : (first : SectionValue) (between : List SectionValue) (last more : SectionValue) → LeadsOver first between last → includes more.name last ≡ true
    → LeadsOver first (between ++ last ∷ []) more
turned first [] last more leads one = (leads, one)
turned first (next ∷ between) last more leads one = (leads.0, turned next between last more leads.1 one)

no_return : (groups : List SectionValue) → HaveOwnNames groups → (k : ℕ) (m : MarkedValue) → Contains (ended k groups) m → m.is_so ≡ true
    → (between : List SectionValue) → All (Contains groups) between → LeadsOver m.group between m.group → ⊥
no_return groups own zero m has so between all leads =
    let source = from unmarked groups m has in
    let wrong : false ≡ true = ap (λ (m : MarkedValue). m.is_so) source.gives ∙ so in
    cc
no_return groups own (suc k) m has so [] all leads =
    let before = ended_before groups own k m has so m.group (stands (suc k) groups m has) leads in
    no_return groups own k before.m before.among before.is_so [] (All-nil (Contains groups)) (subst (λ g. LeadsOver g [] g) (sym before.is_group) leads)
no_return groups own (suc k) m has so (next ∷ between) all leads =
    let before = ended_before groups own k m has so next (All-head (Contains groups) next between all) leads.0 in
    let there_is = stands (suc k) groups m has in
    no_return groups own k before.m before.among before.is_so (between ++ m.group ∷ [])
    (All-append (Contains groups) between (m.group ∷ []) (All-tail (Contains groups) next between all) (All-cons (Contains groups) m.group [] there_is (All-nil (Contains groups))))
    (subst (λ g. LeadsOver g (between ++ m.group ∷ []) g) (sym before.is_group) (turned next between m.group next leads.1 leads.0))

-- ---- proper groups

-- a step that gave a value, and the rest
record Steps {A B E : Type 0} (r : Result A E) (f : A → Result B E) (y : B) : Type 0 where
  pub x : A
  pub first : r ≡ Ok x
  pub second : f x ≡ Ok y

steps : {A B E : Type 0} (r : Result A E) (f : A → Result B E) (y : B) → (r >>= f) ≡ Ok y → Steps r f y
steps (Ok x) f y is = record { x = x; first = refl; second = is }
steps (Err e) f y is = absurd cc

if_ok_test : {A E : Type 0} (b : Bool) (rest : Result A E) (e : E) (y : A) → cond b rest (Err e) ≡ Ok y → b ≡ true
if_ok_test true rest e y is = refl
if_ok_test false rest e y is = absurd cc

if_ok_rest : {A E : Type 0} (b : Bool) (rest : Result A E) (e : E) (y : A) → cond b rest (Err e) ≡ Ok y → rest ≡ Ok y
if_ok_rest true rest e y is = is
if_ok_rest false rest e y is = absurd cc

all_so_at : (found : List MarkedValue) (m : MarkedValue) (k : ℕ) → k < length found → get_or found k m ≡ m → all_end found ≡ Ok tt → m.is_so ≡ true
all_so_at [] m k within is all = absurd (omega arith)
all_so_at (x ∷ xs) m zero within is all =
    ap (λ (m : MarkedValue). m.is_so) (sym is) ∙ if_ok_test x.is_so (all_end xs) (error.Cycle x.group.place) tt all
all_so_at (x ∷ xs) m (suc k) within is all = all_so_at xs m k (omega arith) is (if_ok_rest x.is_so (all_end xs) (error.Cycle x.group.place) tt all)

found_ended : (groups : List SectionValue) → found_of ends groups ≡ ended (length groups) groups
unfolding found_of
found_ended groups = refl

proper_end : (groups : List SectionValue) → proper_groups groups ≡ Ok tt → all_end (ended (length groups) groups) ≡ Ok tt
unfolding proper_groups
proper_end groups proper =
    let made = steps (known_in groups groups) (λ _. all_end (found_of ends groups)) tt proper in
    ap all_end (sym (found_ended groups)) ∙ made.second

proper_returns : (groups : List SectionValue) → HaveOwnNames groups → proper_groups groups ≡ Ok tt → (group : SectionValue) (between : List SectionValue)
    → Contains groups group → All (Contains groups) between → LeadsOver group between group → ⊥
proper_returns groups own proper group between stand all leads =
    let k = length groups in
    let among = subst (λ (gs : List SectionValue). Contains gs group) (sym (groups_of k groups)) stand in
    let source = from (λ (m : MarkedValue). m.group) (ended k groups) group among in
    let so = all_so_at (ended k groups) source.x source.among.0 source.among.1 source.among.2 (proper_end groups proper) in
    no_return groups own k source.x source.among so between all (subst (λ g. LeadsOver g between g) (sym source.gives) leads)

-- ---- names of their own

none_own : HaveOwnNames []
none_own one other has has' same = absurd (let within = has.1 in omega (arith, within))

only_at : (section one : SectionValue) (k : ℕ) → k < 1 → get_or (section ∷ []) k one ≡ one → section ≡ one
only_at section one zero within is = is
only_at section one (suc k) within is = absurd (omega arith)

only : (section one : SectionValue) → Contains (section ∷ []) one → section ≡ one
only section one has = only_at section one has.0 has.1 has.2

-- none of the sections has the name
not_named : (sections : List SectionValue) (name : List ℕ) → list_any (is_named name) sections ≡ false → (one : SectionValue) → Contains sections one → name ≡ one.name → ⊥
not_named sections name new one has same =
    let any : list_any (is_named name) sections ≡ true = list_any_at (is_named name) sections has.0 one has.1 (ap (is_named name) has.2 ∙ text_same name one.name same) in
    let wrong : false ≡ true = sym new ∙ any in
    cc

own_cases : (sections : List SectionValue) (section : SectionValue) → HaveOwnNames sections → list_any (is_named section.name) sections ≡ false
    → (one other : SectionValue) → one.name ≡ other.name → Contains sections one ⊎ Contains (section ∷ []) one → Contains sections other ⊎ Contains (section ∷ []) other → one ≡ other
own_cases sections section own new one other same (inl a) (inl b) = own one other a b same
own_cases sections section own new one other same (inl a) (inr b) =
    absurd (not_named sections section.name new one a (ap (λ (s : SectionValue). s.name) (only section other b) ∙ sym same))
own_cases sections section own new one other same (inr a) (inl b) =
    absurd (not_named sections section.name new other b (ap (λ (s : SectionValue). s.name) (only section one a) ∙ same))
own_cases sections section own new one other same (inr a) (inr b) = sym (only section one a) ∙ only section other b

one_more_own : (sections : List SectionValue) (section : SectionValue) → HaveOwnNames sections → list_any (is_named section.name) sections ≡ false
    → HaveOwnNames (sections ++ section ∷ [])
one_more_own sections section own new one other has has' same =
    own_cases sections section own new one other same (Contains-append_cases sections (section ∷ []) one has) (Contains-append_cases sections (section ∷ []) other has')

new_if : (bad twice : Bool) (e f : ProjectError) (key name : List ℕ) → cond bad (Err e) (cond twice (Err f) (Ok key)) ≡ Ok name → (twice ≡ false) × (key ≡ name)
new_if true twice e f key name is = absurd cc
new_if false true e f key name is = absurd cc
new_if false false e f key name is = (refl, cc)

name_new : (place : List ℕ) (sections : List SectionValue) (key name : List ℕ) → new_name place sections key ≡ Ok name → list_any (is_named name) sections ≡ false
name_new place sections key name is =
    let both = new_if (not (is_name key)) (list_any (is_named (normal_name key)) sections) (error.Name place) (error.Twice place) (normal_name key) name is in
    subst (λ (n : List ℕ). list_any (is_named n) sections ≡ false) both.1 both.0

section_own : (k : ListKind) (sections : List SectionValue) (key : List ℕ) (d : Data) (more : List SectionValue) → HaveOwnNames sections
    → with_section k sections key d ≡ Ok more → HaveOwnNames more
unfolding with_section
section_own k sections key d more own is =
    let named = steps (new_name (section_place k key) sections key) _ more is in
    let asked = steps (requirements_of k (section_place k key) d) _ more named.second in
    let section : SectionValue = record { place = section_place k key; name = named.x; requirements = asked.x } in
    let whole : sections ++ section ∷ [] ≡ more = let last = asked.second in cc in
    subst HaveOwnNames whole (one_more_own sections section own (name_new (section_place k key) sections key named.x named.first))

members_own : (k : ListKind) (sections : List SectionValue) (ms : Members) (all : List SectionValue) → HaveOwnNames sections
    → with_sections k sections ms ≡ Ok all → HaveOwnNames all
members_own k sections no_members all own is = let same : sections ≡ all = cc in subst HaveOwnNames same own
members_own k sections (member key d rest) all own is =
    let made = steps (with_section k sections key d) (λ more. with_sections k more rest) all is in
    members_own k made.x rest all (section_own k sections key d made.x own made.first) made.second

sections_own : (k : ListKind) (o : Option Data) (all : List SectionValue) → sections_in k o ≡ Ok all → HaveOwnNames all
unfolding sections_in
sections_own k None all is = let same : ◌≡◌ {A = List SectionValue} [] all = cc in subst HaveOwnNames same none_own
sections_own k (Some d) all is =
    let made = steps (ok_or (as_table d) (error.WrongType (table_place k))) (with_sections k []) all is in
    members_own k [] made.x all none_own made.second

-- ---- the file

abbrev Proper : List SectionValue → Type 0
Proper groups = HaveOwnNames groups × (proper_groups groups ≡ Ok tt)

document_proper : (document : Data) (project : ProjectValue) → project_in document ≡ Ok project → Proper project.groups
unfolding project_in
document_proper document project is =
    let table = steps (project_table (get (codes "project") document)) _ project is in
    let python = steps (requires_python_in (value_at (codes "requires-python") table.x)) _ project table.second in
    let dynamic = steps (dynamic_in (value_at (codes "dynamic") table.x)) _ project python.second in
    let dependencies = steps (dependencies_in (value_at (codes "dependencies") table.x)) _ project dynamic.second in
    let extras = steps (sections_in kind.Requirements (value_at (codes "optional-dependencies") table.x)) _ project dependencies.second in
    let groups = steps (sections_in kind.Group (get (codes "dependency-groups") document)) _ project extras.second in
    let proper = steps (proper_groups groups.x) _ project groups.second in
    let read : ProjectValue = record { requires_python = python.x; dynamic = dynamic.x; dependencies = dependencies.x; extras = extras.x; groups = groups.x } in
    let made : read ≡ project = let last = proper.second in cc in
    subst Proper (ap (λ (p : ProjectValue). p.groups) made) (sections_own kind.Group (get (codes "dependency-groups") document) groups.x groups.first, proper.first)

project_proper : (bytes : List ℕ) (project : ProjectValue) → project_of bytes ≡ Ok project → Proper project.groups
unfolding project_of
project_proper bytes project is =
    let text = steps (ok_or (utf8_text bytes) error.NotText) _ project is in
    let document = steps (document_of text.x) project_in project text.second in
    document_proper document.x project document.second

pub none_returns : (bytes : List ℕ) (project : ProjectValue) → project_of bytes ≡ Ok project → (group : SectionValue) (between : List SectionValue)
    → Contains project.groups group → All (Contains project.groups) between → LeadsOver group between group → ⊥
none_returns bytes project is group between stand all leads =
    let proper = project_proper bytes project is in
    proper_returns project.groups proper.0 proper.1 group between stand all leads
