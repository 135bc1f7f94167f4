use Rattle.std.proofs.Common.{◌≡◌, ◌-◌, ◌≤◌, length, map, take, vec_len}
use Rattle.toml_parser.specs.Reading.{path_view}
use Rattle.pytoml.specs.Draft.{key_of}
use Rattle.pytoml.proofs.draft.Draft.shared.Given as goal

abbrev pub invariant-loop-count : goal.invariant-loop-count
invariant-loop-count l =
    (l.count ≤ length l.path) × (l.count ≤ vec_len l.self.levels)
    × (take l.count (path_view l.path) ≡ take l.count (map key_of l.self.levels.items))

abbrev pub decreases-loop-count : goal.decreases-loop-count
decreases-loop-count l = length l.path - l.count
