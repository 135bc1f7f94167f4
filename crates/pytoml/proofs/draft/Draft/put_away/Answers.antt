use Rattle.std.proofs.Common.{◌≡◌, ◌∙◌, ap, subst}
use Rattle.toml.specs.View.{view, table_view, members_view}
use Rattle.pytoml.specs.Draft.{Closes, key_of}
use Rattle.pytoml.specs.Members.{with_member}
use Rattle.pytoml.proofs.Tables.{members_view-insert_entry}
use Rattle.pytoml.proofs.draft.Draft.put_away.Goals as goal

pub returns-clause-closed : goal.returns-clause-closed
returns-clause-closed c =
    let value = c.in_ok-closed.field-0 in
    let level = c.args.level in
    let placed : c.replace-inner.new.dest ≡ level.around = c.replace-inner.ensures.after in
    let put : table_view c.insert.new.self ≡ with_member (key_of level) (view value) (table_view level.around) =
    ap members_view c.in_ok-insert.ensures.entries
    ∙ members_view-insert_entry c.replace-inner.new.dest.entries level.key value
    ∙ ap (λ t. with_member (key_of level) (view value) (table_view t)) placed in
    let closes : Closes level.kind (table_view c.args.self.now.table) (view value) =
    subst (λ t. Closes level.kind (table_view t) (view value)) c.replace-inner.ensures.value c.in_ok-closed.ensures in
    (view value, closes, put)
