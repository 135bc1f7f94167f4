use Rattle.std.proofs.Common.{◌≡◌, ◌∙◌, ◌++◌, ◌∷◌, [], subst, sym, ap}
use Rattle.toml.specs.Data.{push_item, table}
use Rattle.toml.specs.Tables.{close, no_nodes}
use Rattle.toml.specs.View.{table_view, members_view}
use Rattle.pytoml.specs.Draft.{AreLevels, IsLevel, Ring, in_array}
use Rattle.pytoml.proofs.Levels.{AreLevels-pop, AreLevels-push}
use Rattle.pytoml.proofs.draft.Draft.next_element.Goals as goal

pub returns : goal.returns
returns c = λ rings inner h.
    let level = c.in-Some.level in
    let new_level = c.in_ok-with_element.field-0 in
    let split : c.args.self.now.levels.items ≡ c.pop.new.self.items ++ level ∷ [] = c.in-Some.ensures.items in
    let (front, r, rings_are, before, is_level) = AreLevels-pop c.pop.new.self.items level rings (subst (λ t. AreLevels t rings) split h.levels) in
    let (done, opened, more) = c.in_ok-with_element.ensures r is_level in
    let same : table_view c.replace-element.result ≡ close inner = ap table_view c.replace-element.ensures.value ∙ sym h.table in
    let r' : Ring = record r { opened = in_array (push_item done (table (close inner))) } in
    let is_new : IsLevel new_level r' = subst (λ t. IsLevel new_level (record r { opened = in_array (push_item done (table t)) })) same more in
    let levels : AreLevels c.push.new.self.items (front ++ r' ∷ []) =
    subst (λ t. AreLevels t (front ++ r' ∷ [])) (sym c.in_ok-push.ensures.items) (AreLevels-push c.pop.new.self.items front new_level r' before is_new) in
    let empty : close no_nodes ≡ table_view c.replace-element.new.dest = sym (ap table_view c.replace-element.ensures.after ∙ ap members_view c.new.ensures.empty) in
    (front, r, done, rings_are, opened, record { levels = levels; table = empty })
