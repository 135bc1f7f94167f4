use Rattle.std.proofs.Common.{map, not, refl, ap, ◌∙◌}
use Rattle.pymark_core.specs.Marker.Pieces.{piece_view}
use Rattle.pymark_clauses.proofs.GroupLemmas.{found_weaker, marker_tells, not_itself}
use Rattle.pymark_clauses.proofs.marker.clauses_of.Goals as goal

pub returns-in-Some-clause-holds : goal.returns-in-Some-clause-holds
returns-in-Some-clause-holds c =
    let wanted = c.args.wanted in
    let pieces = map piece_view c.as_slice.result.now in
    let reaches = rw c.in-Some.is at c.in_ok-groups.ensures in
    let is = ap (map piece_view) c.as_slice.ensures.value ∙ c.in_ok-pieces.ensures in
    found_weaker c.of_group.result _ _
    (λ clauses tells e has. (marker_tells e wanted wanted c.args.marker.now.tree c.in-Some.groups clauses.items pieces is has (reaches e) (tells e)).0 refl)
    c.of_group.ensures.tells

pub returns-in-Some-clause-only : goal.returns-in-Some-clause-only
returns-in-Some-clause-only c =
    let wanted = c.args.wanted in
    let pieces = map piece_view c.as_slice.result.now in
    let reaches = rw c.in-Some.is at c.in_ok-groups.ensures in
    let is = ap (map piece_view) c.as_slice.ensures.value ∙ c.in_ok-pieces.ensures in
    found_weaker c.of_group.result _ _
    (λ clauses tells e has some. not_itself wanted ((marker_tells e wanted (not wanted) c.args.marker.now.tree c.in-Some.groups clauses.items pieces is has (reaches e) (tells e)).1 some))
    c.of_group.ensures.tells
