-- Of the projects that are read no two have one name.
use Rattle.std.proofs.Common.{◌≡◌, ◌∙◌, ℕ, ◌+◌, Bool, true, false, ◌||◌, cond, List, [], ◌∷◌, ◌++◌, ok_or, Ok, Err, refl, sym, ap, subst}
use Rattle.std.specs.Cmp.Lexicographic.{nat_list_eq_equiv}
use Rattle.std.specs.List.{IsDistinct, list_any}
use Rattle.std.specs.Str.{bytes_eq}
use Rattle.std.proofs.lemmas.List.{map-append}
use Rattle.std.proofs.lemmas.Map.Keys.{IsDistinct-push}
use Rattle.serde_json.specs.Data.{Data, Items, no_items, item}
use Rattle.pytext.proofs.ResultsLemmas.{bind_ok}
use Rattle.pylock_readers.specs.Text.{utf8_text}
use Rattle.pylock_installed.specs.Element.{project_in}
use Rattle.pylock_installed.specs.Project.{ProjectValue, is_named, names}
use Rattle.pylock_installed.specs.Reading.{elements_in, installed_of, projects_in, value_of, with_element, with_elements, with_project}
use Rattle.pylock_installed.specs.declared.error.InstalledError.TheVariants as error
use Rattle.pylock_installed.specs.declared.reading.Form.{Form}

same_test : (name : List ℕ) (projects : List ProjectValue) → list_any (bytes_eq name) (names projects) ≡ list_any (is_named name) projects
same_test name [] = refl
same_test name (p ∷ ps) = ap (λ b. bytes_eq name p.name || b) (same_test name ps)

distinct_more : (place : ℕ) (projects more : List ProjectValue) (p : ProjectValue) → IsDistinct bytes_eq (names projects)
    → with_project place projects p ≡ Ok more → IsDistinct bytes_eq (names more)
distinct_more place projects more p are made = by (list_any (is_named p.name) projects) refl made
  where
    by : (b : Bool) → list_any (is_named p.name) projects ≡ b → cond b (Err (error.Twice place)) (Ok (projects ++ p ∷ [])) ≡ Ok more → IsDistinct bytes_eq (names more)
    by true is made = absurd cc
    by false is made =
        let same : projects ++ p ∷ [] ≡ more = cc in
        subst (λ list. IsDistinct bytes_eq (names list)) same
        (subst (IsDistinct bytes_eq) (sym (map-append (λ q. q.name) projects (p ∷ [])))
        (IsDistinct-push nat_list_eq_equiv (names projects) p.name are (same_test p.name projects ∙ is)))

distinct_with : (f : Form) (place : ℕ) (projects more : List ProjectValue) (element : Data) → IsDistinct bytes_eq (names projects)
    → with_element f place projects element ≡ Ok more → IsDistinct bytes_eq (names more)
unfolding with_element
distinct_with f place projects more element are made =
    let step = bind_ok (ok_or (project_in f element) (error.Element place)) (with_project place projects) more made in
    distinct_more place projects more step.0 are step.2

distinct_all : (f : Form) (place : ℕ) (projects all : List ProjectValue) (elements : Items) → IsDistinct bytes_eq (names projects)
    → with_elements f place projects elements ≡ Ok all → IsDistinct bytes_eq (names all)
distinct_all f place projects all no_items are made =
    let same : projects ≡ all = cc in subst (λ list. IsDistinct bytes_eq (names list)) same are
distinct_all f place projects all (item element elements) are made =
    let step = bind_ok (with_element f place projects element) (λ more. with_elements f (place + 1) more elements) all made in
    distinct_all f (place + 1) step.0 all elements (distinct_with f place projects step.0 element are step.1) step.2

pub read_once : (bytes : List ℕ) (projects : List ProjectValue) → installed_of bytes ≡ Ok projects → IsDistinct bytes_eq (names projects)
unfolding installed_of projects_in IsDistinct
read_once bytes projects made =
    let text = bind_ok (ok_or (utf8_text bytes) error.Json) _ projects made in
    let value = bind_ok (value_of text.0) _ projects text.2 in
    let list = bind_ok (elements_in value.0) _ projects value.2 in
    distinct_all list.0.0 1 [] projects list.0.1 tt list.2
