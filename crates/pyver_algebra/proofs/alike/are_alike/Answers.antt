use Rattle.std.proofs.Common.{ap}
use Rattle.std.specs.Prelude.{not}
use Rattle.pyver_algebra.proofs.AlikeLemmas.{same_above, same_below, same_matches}
use Rattle.pyver_algebra.proofs.alike.are_alike.Goals as goal

pub returns-in-Equal-Equal : goal.returns-in-Equal-Equal
returns-in-Equal-Equal c = λ same v.
    let m = c.in-Equal-Equal in
    rw (m.is-0, m.is-1) (same_matches m.left m.right v (c.are_same.ensures same))

pub returns-in-NotEqual-NotEqual : goal.returns-in-NotEqual-NotEqual
returns-in-NotEqual-NotEqual c = λ same v.
    let m = c.in-NotEqual-NotEqual in
    rw (m.is-0, m.is-1) (ap not (same_matches m.left m.right v (c.are_same-in-NotEqual-NotEqual.ensures same)))

pub returns-in-Before-Before : goal.returns-in-Before-Before
returns-in-Before-Before c = λ same v.
    let m = c.in-Before-Before in
    rw (m.is-0, m.is-1) (same_below m.left m.right v (c.are_same-in-Before-Before.ensures same))

pub returns-in-After-After : goal.returns-in-After-After
returns-in-After-After c = λ same v.
    let m = c.in-After-After in
    rw (m.is-0, m.is-1) (same_above m.left m.right v (c.are_same-in-After-After.ensures same))
