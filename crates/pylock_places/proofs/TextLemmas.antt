-- A text that is cut at a byte.
use Rattle.std.proofs.Common.{◌≡◌, ◌∙◌, ℕ, ◌+◌, List, ◌∷◌, length, Some, ap, arith}
use Rattle.std.proofs.lemmas.List.{length-append}
use Rattle.pywheel_core.proofs.Lemmas.Texts.Cuts.{cut_says}
use Rattle.pywheel_core.specs.Texts.{cut_at}

-- what stands behind a cut is shorter
pub cut_shorter : (c : ℕ) (s x y : List ℕ) → cut_at c s ≡ Some (x, y) → length s ≡ length x + (1 + length y)
cut_shorter c s x y cut = ap length (cut_says c s x y cut).0 ∙ (length-append x (c ∷ y) ∙ omega arith)
