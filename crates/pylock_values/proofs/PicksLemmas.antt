-- Fields and lines that are pushed one after another.
use Rattle.std.proofs.Common.{◌≡◌, ◌++◌, ◌∷◌, ◌∙◌, [], ℕ, List, Option, ap, append_assoc}
use Rattle.pylock_run.specs.Text.Field.{field, fields_text, line_of}

-- a field before others
pub one_field : (old now all text : List ℕ) (rest : List (List ℕ)) → now ≡ old ++ 9 ∷ text → all ≡ now ++ fields_text rest
    → all ≡ old ++ fields_text (text ∷ rest)
one_field old now all text rest first more =
    more ∙ ap (λ (t : List ℕ). t ++ fields_text rest) first ∙ append_assoc old (9 ∷ text) (fields_text rest)

-- that of a text which is given
pub one_given : (old now all : List ℕ) (given text : Option (List ℕ)) (rest : List (List ℕ)) → given ≡ text → now ≡ old ++ 9 ∷ field given
    → all ≡ now ++ fields_text rest → all ≡ old ++ fields_text (field text ∷ rest)
one_given old now all given text rest same first more = one_field old now all (field text) rest (first ∙ ap (λ t. old ++ 9 ∷ field t) same) more

-- the first text of a line, its fields and its LF
pub one_line : (old begun filled all text : List ℕ) (rest : List (List ℕ)) → begun ≡ old ++ text → filled ≡ begun ++ fields_text rest → all ≡ filled ++ 10 ∷ []
    → all ≡ old ++ line_of text rest
one_line old begun filled all text rest first fields last =
    let end = 10 ∷ [] in
    last
    ∙ ap (λ (t : List ℕ). t ++ end) (fields ∙ ap (λ (t : List ℕ). t ++ fields_text rest) first ∙ append_assoc old text (fields_text rest))
    ∙ append_assoc old (text ++ fields_text rest) end
