-- The lines of many targets: how many they are, and all of them one behind another.
use Rattle.std.proofs.Common.{◌≡◌, ◌∙◌, ◌+◌, ◌++◌, ◌==◌, ◌&&◌, ℕ, Bool, List, [], ◌∷◌, ap, append_assoc, length, map, refl, rules, sym}
use Rattle.std.proofs.lemmas.List.{append-nil, length-append, length-map}
use Rattle.std.proofs.lemmas.List.Concat.{concat_is, flat_map-append}
use Rattle.std.proofs.lemmas.List.Folds.{concat-append, flat_map-map}
use Rattle.std.specs.List.{concat, flat_map, list_all}
use Rattle.std.specs.Prelude.{codes, decimal}
use Rattle.pylock_check.specs.Targets.{check_lines, head_line, target_checks_text, target_lines}
use Rattle.pylock_check.specs.declared.difference.Difference.{Difference}
use Rattle.pylock_check.specs.declared.targets.TargetCheck.{TargetCheck}

-- ---- lists

both_empty : {X : Type 0} (xs ys : List X) → (length (xs ++ ys) == 0) ≡ ((length xs == 0) && (length ys == 0))
both_empty [] ys = refl
both_empty (x ∷ xs) ys = search rules

all_empty : {X Y : Type 0} (f : X → List Y) (xs : List X) → (length (flat_map f xs) == 0) ≡ list_all (λ x. length (f x) == 0) xs
all_empty f [] = refl
all_empty f (x ∷ xs) =
    both_empty (f x) (flat_map f xs) ∙ ap (λ rest. (length (f x) == 0) && rest) (all_empty f xs)

-- the texts of all, one behind another
pub concat_map : {X : Type 0} (f : X → List ℕ) (xs : List X) → concat (map f xs) ≡ flat_map f xs
concat_map f [] = refl
concat_map f (x ∷ xs) = ap (λ rest. f x ++ rest) (concat_map f xs)

concat_flat : {X : Type 0} (f : X → List (List ℕ)) (xs : List X) → concat (flat_map f xs) ≡ flat_map (λ x. concat (f x)) xs
concat_flat f [] = refl
concat_flat f (x ∷ xs) = concat-append (f x) (flat_map f xs) ∙ ap (λ rest. concat (f x) ++ rest) (concat_flat f xs)

-- ---- lines

pub clean : (of_head : List Difference) (checks : List TargetCheck)
    → ((length of_head == 0) && list_all (λ check. length (check_lines check) == 0) checks) ≡ (length (target_lines of_head checks) == 0)
clean of_head checks =
    sym (both_empty (map head_line of_head) (flat_map check_lines checks)
    ∙ ap (λ n. (n == 0) && (length (flat_map check_lines checks) == 0)) (length-map of_head head_line)
    ∙ ap (λ rest. (length of_head == 0) && rest) (all_empty check_lines checks))

-- those of the head alone
pub no_target : (of_head : List Difference) → length (target_lines of_head []) ≡ length of_head
no_target of_head = ap length (append-nil (map head_line of_head)) ∙ length-map of_head head_line

-- one more target
pub one_target : (of_head : List Difference) (checks : List TargetCheck) (check : TargetCheck)
    → length (target_lines of_head checks) + length (check_lines check) ≡ length (target_lines of_head (checks ++ check ∷ []))
one_target of_head checks check =
    sym (ap (λ (more : List (List ℕ)). length (map head_line of_head ++ more)) (flat_map-append check_lines checks (check ∷ [])
    ∙ ap (λ (more : List (List ℕ)). flat_map check_lines checks ++ more) (append-nil (check_lines check)))
    ∙ ap length (sym (append_assoc (map head_line of_head) (flat_map check_lines checks) (check_lines check)))
    ∙ length-append (target_lines of_head checks) (check_lines check))

pub ruleset counting = (no_target, one_target)

-- all lines, one behind another
all_lines : (of_head : List Difference) (checks : List TargetCheck)
    → concat (target_lines of_head checks) ≡ flat_map head_line of_head ++ flat_map (λ check. concat (check_lines check)) checks
all_lines of_head checks =
    concat-append (map head_line of_head) (flat_map check_lines checks)
    ∙ ap (λ (before : List ℕ). before ++ concat (flat_map check_lines checks)) (concat_map head_line of_head)
    ∙ ap (λ (after : List ℕ). flat_map head_line of_head ++ after) (concat_flat check_lines checks)

-- they are pushed so, behind their number
pub all_pushed : (old first second all : List ℕ) (count : ℕ) (of_head : List Difference) (checks : List TargetCheck)
    → count ≡ length (target_lines of_head checks) → first ≡ old ++ codes "differences " ++ decimal count ++ codes "\n"
    → second ≡ first ++ flat_map head_line of_head → all ≡ second ++ flat_map (λ check. concat (check_lines check)) checks
    → all ≡ old ++ target_checks_text of_head checks
all_pushed old first second all count of_head checks counted one two three =
    let heads = flat_map head_line of_head in
    let targets = flat_map (λ check. concat (check_lines check)) checks in
    let lines = concat (target_lines of_head checks) in
    let word = codes "differences " in
    let number = decimal count in
    three
    ∙ ap (λ (t : List ℕ). t ++ targets) two
    ∙ append_assoc first heads targets
    ∙ ap (λ (t : List ℕ). first ++ t) (sym (all_lines of_head checks))
    ∙ ap (λ (t : List ℕ). t ++ lines) one
    ∙ ap (λ (t : List ℕ). t ++ codes "\n" ++ lines) (append_assoc old word number)
    ∙ ap (λ (t : List ℕ). t ++ lines) (append_assoc old (word ++ number) (codes "\n"))
    ∙ append_assoc old (word ++ number ++ codes "\n") lines
    ∙ ap (λ n. old ++ (word ++ decimal n ++ codes "\n" ++ lines)) counted
