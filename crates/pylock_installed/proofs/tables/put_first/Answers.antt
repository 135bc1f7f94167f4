use Rattle.std.proofs.Common.{◌≡◌, ◌∙◌, None, Some, ap, false, is_some, option_map, rules}
use Rattle.std.proofs.lemmas.Map.Text.{btree_map_updates_str}
use Rattle.std.specs.BTreeMap.{get_by}
use Rattle.std.specs.Cmp.Lexicographic.{slice_cmp}
use Rattle.std.specs.Ordering.{nat_cmp}
use Rattle.std.specs.Str.{bytes_eq}
use Rattle.pylock_installed.specs.Inner.Tables.{found}
use Rattle.pylock_installed.proofs.TableLemmas.{absent, is_put, now_of, put_found}
use Rattle.pylock_installed.proofs.tables.put_first.Goals as goal

pub returns-in_ok-insert : goal.returns-in_ok-insert
returns-in_ok-insert c = λ name.
    let key = c.name-name.result.now in
    let table = c.args.table.now in
    let is_absent : is_some (get_by (λ k. slice_cmp nat_cmp key k.now) table) ≡ false = search rules in
    let none : found table key ≡ None = absent (get_by (λ k. slice_cmp nat_cmp key k.now) table) is_absent in
    let same : c.args.project.now.name ≡ key = search rules in
    is_put key name c.args.project.now (found table) (found c.insert.new.self name) none same
    (ap (option_map now_of) (btree_map_updates_str key table c.insert.new.self (Some c.args.project) c.in_ok-insert.ensures.updates name)
    ∙ put_found (bytes_eq key name) c.args.project (get_by (λ k. slice_cmp nat_cmp name k.now) table))
