use Rattle.std.proofs.Common.{◌≡◌, List, ℕ, map}
use Rattle.std.specs.List.{slice_split}
use Rattle.std.specs.Prelude.{◌==◌, string_bytes}
use Rattle.std.specs.Str.Iter.{split_steps}
use Rattle.std.specs.Str.Pattern.{FindsChar}
use Rattle.std.proofs.lemmas.Iterator.{YieldsList}
use Rattle.pymark_core.specs.Requirement.Reading.{names_in}
use Rattle.pymark_core.proofs.Lemmas.Requirement.Names.{onto}
use Rattle.pymark_core.proofs.requirement.parts.names_in.Given as goal

-- the pieces that are left give the other names
abbrev pub invariant-loop-piece : goal.invariant-loop-piece
invariant-loop-piece l = (left : List (List ℕ))
    × YieldsList (split_steps FindsChar (λ a b. b ≡ a)) (λ x. x.now) l.piece-iterator left
    × (onto (map string_bytes l.names.items) (names_in left) ≡ names_in (slice_split (λ b. b == 44) l.fn.text))
