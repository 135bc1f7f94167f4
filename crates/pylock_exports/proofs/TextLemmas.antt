-- Texts that are pushed in parts, and lines in turn.
use Rattle.std.proofs.Common.{◌≡◌, ◌∙◌, ℕ, List, [], ◌∷◌, ◌++◌, ap, append_assoc, flat_map, refl, sym}
use Rattle.std.proofs.lemmas.Grind.{flat_map-append}
use Rattle.pylock_exports.specs.Listed.{ListedValue}
use Rattle.pylock_exports.specs.Texts.{lines_text}

pub two_parts : (t u v a b : List ℕ) → u ≡ t ++ a → v ≡ u ++ b → v ≡ t ++ (a ++ b)
two_parts t u v a b first second = second ∙ ap (λ x. x ++ b) first ∙ append_assoc t a b

pub three_parts : (t u v w a b c : List ℕ) → u ≡ t ++ a → v ≡ u ++ b → w ≡ v ++ c → w ≡ t ++ (a ++ (b ++ c))
three_parts t u v w a b c first second third =
    two_parts u v w b c second third ∙ ap (λ x. x ++ (b ++ c)) first ∙ append_assoc t a (b ++ c)

pub five_parts : (t u v w x y a b c d e : List ℕ) → u ≡ t ++ a → v ≡ u ++ b → w ≡ v ++ c → x ≡ w ++ d → y ≡ x ++ e
    → y ≡ t ++ (a ++ (b ++ (c ++ (d ++ e))))
five_parts t u v w x y a b c d e one two three four five =
    three_parts v w x y c d e three four five
    ∙ ap (λ z. z ++ (c ++ (d ++ e))) (two_parts t u v a b one two)
    ∙ append_assoc t (a ++ b) (c ++ (d ++ e))
    ∙ ap (λ z. t ++ z) (append_assoc a b (c ++ (d ++ e)))

-- ---- lines

pub lines_joined : (xs ys : List (List ℕ)) → lines_text (xs ++ ys) ≡ lines_text xs ++ lines_text ys
lines_joined xs ys = flat_map-append _ xs ys

one_more : (t u : List ℕ) (x : List ℕ) (ys : List (List ℕ)) → u ≡ t ++ lines_text (x ∷ []) → u ++ lines_text ys ≡ t ++ lines_text (x ∷ ys)
one_more t u x ys pushed =
    ap (λ z. z ++ lines_text ys) pushed ∙ append_assoc t (lines_text (x ∷ [])) (lines_text ys) ∙ ap (λ z. t ++ z) (sym (lines_joined (x ∷ []) ys))

pub six_lines : (t u v w x y z : List ℕ) (a b c d e f : List ℕ)
    → u ≡ t ++ lines_text (a ∷ []) → v ≡ u ++ lines_text (b ∷ []) → w ≡ v ++ lines_text (c ∷ []) → x ≡ w ++ lines_text (d ∷ []) → y ≡ x ++ lines_text (e ∷ [])
    → z ≡ y ++ lines_text (f ∷ []) → z ≡ t ++ lines_text (a ∷ b ∷ c ∷ d ∷ e ∷ f ∷ [])
six_lines t u v w x y z a b c d e f one two three four five six =
    six ∙ one_more x y e (f ∷ []) five ∙ one_more w x d (e ∷ f ∷ []) four ∙ one_more v w c (d ∷ e ∷ f ∷ []) three ∙ one_more u v b (c ∷ d ∷ e ∷ f ∷ []) two
    ∙ one_more t u a (b ∷ c ∷ d ∷ e ∷ f ∷ []) one

pub lines_each : (shown : ListedValue → List (List ℕ)) (kept : List ListedValue) → lines_text (flat_map shown kept) ≡ flat_map (λ s. lines_text (shown s)) kept
lines_each shown [] = refl
lines_each shown (s ∷ kept) = lines_joined (shown s) (flat_map shown kept) ∙ ap (λ more. lines_text (shown s) ++ more) (lines_each shown kept)

pub four_parts : (t u v w x a b c d : List ℕ) → u ≡ t ++ a → v ≡ u ++ b → w ≡ v ++ c → x ≡ w ++ d → x ≡ t ++ (((a ++ b) ++ c) ++ d)
four_parts t u v w x a b c d one two three four =
    four ∙ ap (λ z. z ++ d) (three ∙ ap (λ z. z ++ c) (two_parts t u v a b one two) ∙ append_assoc t (a ++ b) c) ∙ append_assoc t ((a ++ b) ++ c) d
