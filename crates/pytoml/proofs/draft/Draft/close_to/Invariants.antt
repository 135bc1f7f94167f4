use Rattle.std.proofs.Common.{◌≡◌, ◌≤◌, List, vec_len, take}
use Rattle.toml.specs.Tables.{Nodes}
use Rattle.pytoml.specs.Draft.{IsDraft, Ring, path_of, plug}
use Rattle.pytoml.proofs.draft.Draft.close_to.Given as goal

-- the document is the same, with so many tables open as there are now
abbrev pub invariant-loop-self : goal.invariant-loop-self
invariant-loop-self l =
    (l.count ≤ vec_len l.self.levels)
    × ((rings : List Ring) (inner : Nodes) → IsDraft l.fn.self rings inner
    → (fewer : List Ring) × (outside : Nodes) × IsDraft l.self fewer outside
    × (plug fewer outside ≡ plug rings inner) × (path_of fewer ≡ take (vec_len l.self.levels) (path_of rings)))

abbrev pub decreases-loop-self : goal.decreases-loop-self
decreases-loop-self l = vec_len l.self.levels
