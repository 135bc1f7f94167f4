-- Facts that are added one after another.
use Rattle.std.proofs.Common.{◌≡◌, ◌∙◌, List, [], ◌∷◌, ◌++◌, ap, append_assoc}
use Rattle.pylock_summary.specs.Fact.{FactValue}

pub three : (old one two all : List FactValue) (a b c : FactValue) → one ≡ old ++ a ∷ [] → two ≡ one ++ b ∷ [] → all ≡ two ++ c ∷ []
    → all ≡ old ++ a ∷ b ∷ c ∷ []
three old one two all a b c first second third =
    third
    ∙ ap (λ list. list ++ c ∷ []) (second ∙ ap (λ list. list ++ b ∷ []) first)
    ∙ append_assoc (old ++ a ∷ []) (b ∷ []) (c ∷ [])
    ∙ append_assoc old (a ∷ []) (b ∷ c ∷ [])
