use Rattle.std.proofs.Common.{◌≡◌, ◌+◌, drop}
use Rattle.toml.specs.View.{items_view}
use Rattle.pylock_check.specs.Project.{no_requirements}
use Rattle.pylock_check.specs.Requirements.{with_elements}
use Rattle.pylock_check.proofs.requirements.read_elements.Given as goal

-- the elements that are left are still to be read
abbrev pub invariant-loop-index : goal.invariant-loop-index
invariant-loop-index l =
    with_elements l.kind l.place (l.index + 1) l.list (items_view (drop l.index l.elements))
    ≡ with_elements l.kind l.place 1 no_requirements (items_view l.elements)
