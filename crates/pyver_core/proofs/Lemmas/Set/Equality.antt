-- Specifiers that are equal as they are written have the same text.
use Rattle.std.proofs.Common.{◌≡◌, ℕ, true, List, [], ◌∷◌, ◌++◌, refl, sym, ap, ◌∙◌}
use Rattle.std.specs.Prelude.{flat_map}
use Rattle.std.specs.Cmp.{first_so, second_so}
use Rattle.std.specs.Cmp.Lexicographic.{bytes_decides, pointwise_decides}
use Rattle.pyver_core.specs.Set.Equality.{specifier_pieces, set_eq, specifier_eq}
use Rattle.pyver_core.specs.Set.Normal.{comma_specifier, set_text, specifier_text}
use Rattle.pyver_core.specs.Version.Normal.{epoch_text, release_text}
use Rattle.pyver_core.specs.declared.set.specifier.Specifier.{Specifier}
use Rattle.pyver_core.specs.declared.set.specifier.Specifier.TheVariants.{Equal, EqualPrefix, NotEqual, NotEqualPrefix, AtMost, AtLeast, Before, After, Compatible, Arbitrary}

-- the text of a prefix from its numbers and its end
abbrev prefix_from : List ℕ → List ℕ → List ℕ
prefix_from [] end = end
prefix_from (epoch ∷ release) end = epoch_text epoch ++ (release_text release ++ end)

abbrev operand_from : List ℕ → List (List ℕ) → List ℕ
operand_from operand [] = operand
operand_from numbers (end ∷ rest) = prefix_from numbers end

-- the text from the pieces
abbrev text_from : List (List ℕ) → List ℕ
text_from [] = []
text_from (operator ∷ []) = operator
text_from (operator ∷ operand ∷ rest) = operator ++ operand_from operand rest

text_is : (s : Specifier) → specifier_text s ≡ text_from (specifier_pieces s)
text_is (Equal v) = refl
text_is s = refl

pub same_text : (s t : Specifier) → specifier_eq s t ≡ true → specifier_text s ≡ specifier_text t
same_text s t e = text_is s ∙ ap text_from ((pointwise_decides bytes_decides (specifier_pieces s) (specifier_pieces t)).0 e) ∙ sym (text_is t)

-- alike from the first on, and after another
same_texts : (xs ys : List Specifier) → set_eq xs ys ≡ true → (set_text xs ≡ set_text ys) × (flat_map comma_specifier xs ≡ flat_map comma_specifier ys)
same_texts [] [] e = (refl, refl)
same_texts (x ∷ xs) (y ∷ ys) e =
    let first = same_text x y (first_so (specifier_eq x y) (set_eq xs ys) e) in
    let rest = (same_texts xs ys (second_so (specifier_eq x y) (set_eq xs ys) e)).1 in
    (rw (first, rest) refl, rw (first, rest) refl)
same_texts xs ys e = absurd cc

pub same_set_text : (xs ys : List Specifier) → set_eq xs ys ≡ true → set_text xs ≡ set_text ys
same_set_text xs ys e = (same_texts xs ys e).0

pub ruleset equal_texts = (same_text, same_set_text)
