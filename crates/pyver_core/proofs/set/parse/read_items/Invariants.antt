use Rattle.std.proofs.Common.{List, ℕ}
use Rattle.std.specs.List.{slice_split}
use Rattle.std.specs.Prelude.{◌==◌, ◌≡◌}
use Rattle.std.specs.Str.Iter.{split_steps}
use Rattle.std.specs.Str.Pattern.{FindsChar}
use Rattle.std.proofs.lemmas.Iterator.{YieldsList}
use Rattle.pyver_core.proofs.Lemmas.Set.Reading.SoFar.{ReadSoFar}
use Rattle.pyver_core.proofs.set.parse.read_items.Given as goal

abbrev pub invariant-loop-piece : goal.invariant-loop-piece
invariant-loop-piece l = (left : List (List ℕ))
    × YieldsList (split_steps FindsChar (λ a b. b ≡ a)) (λ x. x.now) l.piece-iterator left
    × ReadSoFar left (slice_split (λ b. b == 44) l.fn.text) l.items.items l.is_large
