-- A text whose pieces between a byte are shown, from one piece to the next.
use Rattle.std.proofs.Common.{◌≡◌, ◌∙◌, ◌<◌, ℕ, ◌==◌, List, [], ◌∷◌, ◌++◌, length, Some, None, ap, arith, refl, sym, append_assoc, map}
use Rattle.std.specs.List.{join_with_byte}
use Rattle.std.proofs.lemmas.List.Splits.{length-slice_split}
use Rattle.pywheel_core.proofs.Lemmas.Texts.Cuts.{pieces_cut, pieces_whole}
use Rattle.pywheel_core.specs.Texts.{cut_at, pieces_at}

module _ (c : ℕ) (shown : List ℕ → List ℕ) where
  -- each piece as it is shown
  abbrev pub each_shown : List ℕ → List ℕ
  each_shown text = join_with_byte c (map shown (pieces_at c text))

  joined : (x : List ℕ) (pieces : List (List ℕ)) → 0 < length pieces
      → join_with_byte c (map shown (x ∷ pieces)) ≡ shown x ++ (c ∷ join_with_byte c (map shown pieces))
  joined x [] some = absurd (omega (arith, some))
  joined x (y ∷ pieces) some = refl

  joined_pieces : (x y : List ℕ) → join_with_byte c (map shown (x ∷ pieces_at c y)) ≡ shown x ++ (c ∷ each_shown y)
  joined_pieces x y = let count = length-slice_split (λ b. b == c) y in joined x (pieces_at c y) (omega (arith, count))

  pub shown_cut : (s x y : List ℕ) → cut_at c s ≡ Some (x, y) → each_shown s ≡ shown x ++ (c ∷ each_shown y)
  shown_cut s x y cut = ap (λ pieces. join_with_byte c (map shown pieces)) (pieces_cut c s x y cut) ∙ joined_pieces x y

  pub shown_whole : (s : List ℕ) → cut_at c s ≡ None → each_shown s ≡ shown s
  shown_whole s cut = ap (λ pieces. join_with_byte c (map shown pieces)) (pieces_whole c s cut)

  -- what was written so far, with what is left
  pub shown_more : (text s x y whole : List ℕ) → cut_at c s ≡ Some (x, y) → text ++ each_shown s ≡ whole
      → ((text ++ shown x) ++ (c ∷ [])) ++ each_shown y ≡ whole
  shown_more text s x y whole cut so_far =
      append_assoc (text ++ shown x) (c ∷ []) (each_shown y)
      ∙ append_assoc text (shown x) (c ∷ each_shown y)
      ∙ ap (λ t. text ++ t) (sym (shown_cut s x y cut))
      ∙ so_far

  pub shown_last : (text s whole : List ℕ) → cut_at c s ≡ None → text ++ each_shown s ≡ whole → text ++ shown s ≡ whole
  shown_last text s whole cut so_far = ap (λ t. text ++ t) (sym (shown_whole s cut)) ∙ so_far
