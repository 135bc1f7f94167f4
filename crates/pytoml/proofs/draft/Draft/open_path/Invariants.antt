use Rattle.std.proofs.Common.{◌≡◌, ◌++◌, List, drop, option_map}
use Rattle.toml_parser.specs.Reading.{path_view}
use Rattle.toml.specs.Tables.{Nodes, Edit, along_header}
use Rattle.pytoml.specs.Draft.{IsDraft, Ring, path_of, plug}
use Rattle.pytoml.proofs.draft.Draft.open_path.Given as goal

-- tables are open at the parts of the path up to this one
abbrev pub invariant-loop-at : goal.invariant-loop-at
invariant-loop-at l =
    (rings : List Ring) (inner : Nodes) → IsDraft l.fn.self rings inner
    → (more : List Ring) × (top : Nodes) × IsDraft l.self more top
    × (path_of more ++ drop l.at (path_view l.path) ≡ path_of rings ++ drop l.from (path_view l.path))
    × ((edit : Edit) → option_map (plug rings) (along_header (drop l.from (path_view l.path)) edit inner)
    ≡ option_map (plug more) (along_header (drop l.at (path_view l.path)) edit top))
