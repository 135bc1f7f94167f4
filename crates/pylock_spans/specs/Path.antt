-- The paths that findings and refusals write.
use Rattle.std.specs.Prelude.{◌≡◌, ◌==◌, ℕ, List, [], ◌∷◌}
use Rattle.std.specs.List.{after_first, before_first}
use Rattle.std.specs.Str.Parse.{IsNumeral, digits_value, without_leading_plus}
use Rattle.pylock_spans.specs.declared.step.Step.{Step}
use Rattle.pylock_spans.specs.declared.step.Step.TheVariants.{Key, Element}

-- a word of a path that writes a step: the key, or the position in decimal digits
abbrev pub IsWordOf : List ℕ → Step → Type 0
IsWordOf word (Key key) = key.now ≡ word
IsWordOf word (Element position) =
    IsNumeral 10 (without_leading_plus word)
    × (position ≡ digits_value 10 (without_leading_plus word))

-- the first word of a path, and what stands behind its first space
abbrev pub first_word : List ℕ → List ℕ
first_word path = before_first (λ b. b == 32) path

abbrev pub behind_word : List ℕ → List ℕ
behind_word path = after_first (λ b. b == 32) path

-- the words of a path write the steps, and the last step has all that is left of it
abbrev pub IsPathOf : List ℕ → List Step → Type 0
IsPathOf path [] = ⊥
IsPathOf path (step ∷ []) = IsWordOf path step
IsPathOf path (step ∷ next ∷ more) =
    IsWordOf (first_word path) step × IsPathOf (behind_word path) (next ∷ more)
