-- A text that is cut at its first `?`.
use Rattle.std.proofs.Common.{◌≡◌, ◌∙◌, ℕ, List, ◌∷◌, ◌++◌, ap, refl, sym, append_assoc, inl, inr}
use Rattle.std.specs.Prelude.{codes}
use Rattle.pytext.proofs.OptionsLemmas.{option_cases}
use Rattle.pywheel_core.proofs.Lemmas.Texts.Cuts.{Lacks, cut_joined, cut_lacking, cut_says, no_cut_says}
use Rattle.pywheel_core.specs.Texts.{cut_at}
use Rattle.pylock_shown.proofs.EachLemmas.{lacks_both}
use Rattle.pylock_shown.specs.Hidden.{hidden, hidden_behind_mark, hidden_front, hidden_name, with_query}

module _ (shown : List ℕ → List ℕ) where
  pub without_query : (x : List ℕ) → Lacks 63 x → with_query shown x ≡ shown x
  without_query x lacks = rw (cut_lacking 63 x lacks) refl

  pub before_query : (x z : List ℕ) → Lacks 63 x → with_query shown (x ++ (63 ∷ z)) ≡ shown x ++ codes "?" ++ hidden_behind_mark z
  before_query x z lacks = rw (cut_joined 63 x z lacks) refl

  -- two fronts, before a query or none
  pub fronts_alike : (x y : List ℕ) → Lacks 63 x → Lacks 63 y → ((u : List ℕ) → shown (x ++ u) ≡ shown (y ++ u))
      → (u : List ℕ) → with_query shown (x ++ u) ≡ with_query shown (y ++ u)
  fronts_alike x y no_x no_y same u = elim (option_cases (cut_at 63 u)) [
    | inl none ↦
        let no_u = no_cut_says 63 u none in
        without_query (x ++ u) (lacks_both 63 x u no_x no_u) ∙ same u ∙ sym (without_query (y ++ u) (lacks_both 63 y u no_y no_u))
    | inr some ↦
        let a = some.0.0 in let b = some.0.1 in
        let says = cut_says 63 u a b some.1 in
        ap (λ u. with_query shown (x ++ u)) says.0 ∙ query x a b no_x says.1
        ∙ ap (λ t. t ++ codes "?" ++ hidden_behind_mark b) (same a)
        ∙ sym (query y a b no_y says.1) ∙ ap (λ u. with_query shown (y ++ u)) (sym says.0)
  ]
    where
      query : (x a b : List ℕ) → Lacks 63 x → Lacks 63 a
          → with_query shown (x ++ (a ++ (63 ∷ b))) ≡ shown (x ++ a) ++ codes "?" ++ hidden_behind_mark b
      query x a b no_x no_a =
          ap (with_query shown) (sym (append_assoc x a (63 ∷ b)))
          ∙ before_query (x ++ a) b (lacks_both 63 x a no_x no_a)

-- two queries
pub queries_alike : (place y z : List ℕ) → Lacks 63 place → hidden_behind_mark y ≡ hidden_behind_mark z
    → hidden (place ++ (63 ∷ y)) ≡ hidden (place ++ (63 ∷ z))
queries_alike place y z lacks same =
    before_query hidden_front place y lacks ∙ ap (λ t. hidden_front place ++ codes "?" ++ t) same
    ∙ sym (before_query hidden_front place z lacks)

-- a file name behind a slash
pub behind_slash : (name : List ℕ) → hidden (47 ∷ name) ≡ 47 ∷ hidden_name name
behind_slash name = elim (option_cases (cut_at 63 name)) [
  | inl none ↦ rw none refl
  | inr some ↦ rw some.1 refl
]
