use Rattle.std.proofs.Common.{◌≡◌, ◌∙◌, ◌++◌, ◌∷◌, [], None, subst, sym, ap, refl, string_bytes, false, is_some, nat_cmp}
use Rattle.std.specs.BTreeMap.{is_at}
use Rattle.std.specs.Cmp.Lexicographic.{slice_cmp}
use Rattle.std.specs.Map.{lookup}
use Rattle.toml.specs.Data.{get_member}
use Rattle.toml.specs.Tables.{close, no_nodes}
use Rattle.toml.specs.View.{table_view, members_view}
use Rattle.pytoml.specs.Draft.{AreLevels, Ring}
use Rattle.pytoml.proofs.Levels.{AreLevels-push}
use Rattle.pytoml.proofs.Rings.{absent_node}
use Rattle.pytoml.proofs.Tables.{absent_key}
use Rattle.pytoml.proofs.draft.Draft.open.Goals as goal

pub returns : goal.returns
returns c = λ rings inner opened h kind.
    let key = string_bytes c.args.key in
    let text : c.as_str.result.now ≡ key = c.as_str.ensures.value in
    let none : is_some (lookup (is_at (λ x. slice_cmp nat_cmp c.as_str.result.now (string_bytes x))) c.args.self.now.table.entries) ≡ false =
    sym c.contains_key.ensures ∙ c.if-contains_key.false in
    let absent : get_member key (table_view c.args.self.now.table) ≡ None =
    subst (λ t. get_member t (table_view c.args.self.now.table) ≡ None) text (absent_key c.as_str.result.now c.args.self.now.table.entries none) in
    let no_node = absent_node key inner (ap (get_member key) h.table ∙ absent) in
    let r : Ring = record { around = inner; key = key; opened = opened } in
    let around : close inner ≡ table_view c.replace-around.result = h.table ∙ ap table_view (sym c.replace-around.ensures.value) in
    let levels : AreLevels c.push.new.self.items (rings ++ r ∷ []) =
    subst (λ t. AreLevels t (rings ++ r ∷ [])) (sym c.in_ok-push.ensures.items)
    (AreLevels-push c.args.self.now.levels.items rings _ r h.levels (record { around = around; key = refl; kind = kind })) in
    let empty : close no_nodes ≡ table_view c.replace-around.new.dest = sym (ap table_view c.replace-around.ensures.after ∙ ap members_view c.new.ensures.empty) in
    (no_node, record { levels = levels; table = empty })
