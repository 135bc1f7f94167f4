use Rattle.std.proofs.Common.{sym, ap, ◌∙◌, option_map}
use Rattle.toml.specs.View.{view, members_view}
use Rattle.pytoml.proofs.Tables.{members_view-insert_entry, get_member-get}
use Rattle.pytoml.proofs.value.insert_new.Goals as goal
use Rattle.pytoml.proofs.value.insert_new.Goals.{in-None, in-Some}

pub returns-clause-absent : goal.returns-clause-absent
returns-clause-absent c = elim c.match-branch-2.branch [
  | in-None w ↦ rw w.result-is (sym (get_member-get c.args.key c.args.table.now c.in_ok-insert.field-0 c.in_ok-insert.ensures.old) ∙ ap (option_map view) w.in-None.is)
  | in-Some w ↦ rw w.result-is tt
]

pub returns-clause-put : goal.returns-clause-put
returns-clause-put c = elim c.match-branch-2.branch [
  | in-None w ↦ rw w.result-is (ap members_view c.in_ok-insert.ensures.entries ∙ members_view-insert_entry c.args.table.now.entries c.args.key c.args.value)
  | in-Some w ↦ rw w.result-is tt
]
