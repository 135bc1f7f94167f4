use Rattle.std.proofs.Common.{[], refl, sym, ap, subst}
use Rattle.toml.specs.Tables.{no_nodes}
use Rattle.toml.specs.View.{members_view}
use Rattle.pytoml.specs.Draft.{AreLevels}
use Rattle.pytoml.proofs.draft.Draft.new.Goals as goal

pub returns : goal.returns
returns c = ([], no_nodes, record { levels = subst (λ t. AreLevels t []) (sym c.new.ensures.items) tt; table = sym (ap members_view c.new-2.ensures.empty) }, refl)
