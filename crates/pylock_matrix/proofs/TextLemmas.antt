-- Numbers with `,` between them.
use Rattle.std.proofs.Common.{◌≡◌, ◌∙◌, ◌++◌, ℕ, List, [], ◌∷◌, ap, append_assoc, sym}
use Rattle.std.proofs.lemmas.List.{append-nil}
use Rattle.std.specs.Prelude.{decimal}
use Rattle.std.specs.List.{flat_map}
use Rattle.pylock_matrix.specs.Text.{numbers_text}

-- the first number, and each other behind a `,`
pub numbers_joined : (number : ℕ) (numbers : List ℕ) → numbers_text (number ∷ numbers) ≡ decimal number ++ flat_map (λ n. 44 ∷ decimal n) numbers
numbers_joined number [] = sym (append-nil (decimal number))
numbers_joined number (next ∷ numbers) = ap (λ (text : List ℕ). decimal number ++ (44 ∷ text)) (numbers_joined next numbers)

-- they are pushed so, each after those before
pub numbers_pushed : (old begun all : List ℕ) (given first : ℕ) (rest numbers : List ℕ) → given ≡ first → numbers ≡ first ∷ rest
    → begun ≡ old ++ 9 ∷ decimal given → all ≡ begun ++ flat_map (λ n. 44 ∷ decimal n) rest → all ≡ old ++ 9 ∷ numbers_text numbers
numbers_pushed old begun all given first rest numbers same whole one more =
    let others = flat_map (λ n. 44 ∷ decimal n) rest in
    more
    ∙ ap (λ (t : List ℕ). t ++ others) (one ∙ ap (λ n. old ++ 9 ∷ decimal n) same)
    ∙ append_assoc old (9 ∷ decimal first) others
    ∙ ap (λ (t : List ℕ). old ++ 9 ∷ t) (sym (numbers_joined first rest))
    ∙ ap (λ (ns : List ℕ). old ++ 9 ∷ numbers_text ns) (sym whole)
