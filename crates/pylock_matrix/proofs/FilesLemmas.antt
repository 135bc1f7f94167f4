-- What is taken of all files.
use Rattle.std.proofs.Common.{◌≡◌, ◌∙◌, ◌++◌, Bool, List, [], ◌∷◌, filter, map, Result, Ok, Err, IfOk, refl, sym, ap}
use Rattle.std.proofs.lemmas.List.Elements.{filter-append}
use Rattle.std.specs.List.{flat_map, list_any}
use Rattle.pylock_core.specs.Session.Fates.{fates}
use Rattle.pylock_core.specs.Session.State.{State}
use Rattle.pylock_core.specs.declared.answer.Answer.{Answer}
use Rattle.pylock_core.specs.declared.answer.Pick.{Pick}
use Rattle.pylock_matrix.specs.Files.{all_picks, picks_of, takes}
use Rattle.pylock_matrix.specs.Inner.Taken.{is_taken}
use Rattle.pylock_matrix.specs.Moving.{unmoved}
use Rattle.pylock_matrix.specs.declared.taken.Taken.{Taken}

-- ---- lists

flat_filter : {A B C : Type 0} (test : C → Bool) (files : B → List C) (key : A → B) (xs : List A)
    → flat_map (λ y. filter test (files y)) (map key xs) ≡ filter test (flat_map (λ x. files (key x)) xs)
flat_filter test files key [] = refl
flat_filter test files key (x ∷ xs) =
    ap (λ zs. filter test (files (key x)) ++ zs) (flat_filter test files key xs)
    ∙ sym (filter-append test (files (key x)) (flat_map (λ x. files (key x)) xs))

pub if_ok_also : {T E : Type 0} {P Q : T → Type 0} (result : Result T E) → ((x : T) → P x → Q x) → IfOk result P → IfOk result Q
if_ok_also (Ok x) leads holds = leads x holds
if_ok_also (Err error) leads holds = tt

-- ---- the files of a session

pub all_taken : (taken : Taken) (state : State)
    → flat_map (λ f. filter (is_taken taken) (picks_of state f.0)) (fates state) ≡ filter (is_taken taken) (all_picks state)
all_taken taken state = flat_filter (is_taken taken) (λ f. picks_of state f.0) _ state.entries

-- a move leaves all files as they are
same_files : (a b : State) → unmoved a ≡ unmoved b → all_picks a ≡ all_picks b
same_files a b same = ap all_picks same

-- what the marks tell of all answers
pub files_by : (answers : List Answer) (taken : Taken) (first last : State) (files : List Pick) → unmoved last ≡ unmoved first
    → ((pick : Pick) → is_taken taken pick ≡ list_any (λ answer. takes answer pick) answers)
    → files ≡ filter (is_taken taken) (all_picks last)
    → files ≡ filter (λ pick. list_any (λ answer. takes answer pick) answers) (all_picks first)
files_by answers taken first last files stays known found =
    found ∙ (λ i. filter (λ pick. known pick i) (all_picks last))
    ∙ ap (filter (λ pick. list_any (λ answer. takes answer pick) answers)) (same_files last first stays)
