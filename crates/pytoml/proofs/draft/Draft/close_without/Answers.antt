use Rattle.std.proofs.Common.{◌≡◌, ◌∙◌, None, false, is_some, nat_cmp, string_bytes, sym, ap, ap₂}
use Rattle.std.specs.BTreeMap.{is_at}
use Rattle.std.specs.Cmp.Lexicographic.{slice_cmp}
use Rattle.std.specs.Map.{lookup}
use Rattle.toml.specs.Data.{get_member}
use Rattle.toml.specs.Tables.{get_node}
use Rattle.pytoml.specs.Draft.{plug}
use Rattle.pytoml.proofs.Levels.{no_path}
use Rattle.pytoml.proofs.Rings.{absent_node}
use Rattle.pytoml.proofs.Tables.{absent_key}
use Rattle.pytoml.proofs.draft.Draft.close_without.Goals as goal

pub returns : goal.returns
returns c = λ doc stands.
    let (rings, inner, draft, is) = stands in
    let (fewer, outside, kept, plugs, path) = c.in_ok-close_to.ensures.kept rings inner draft in
    let nodes = ap (λ t. t.0) is ∙ sym plugs in
    let key = c.args.key.now in
    let table = c.close_to.new.self.table in
    let none : is_some (lookup (is_at (λ x. slice_cmp nat_cmp key (string_bytes x))) table.entries) ≡ false =
    sym c.contains_key.ensures ∙ c.if-contains_key.false in
    let absent : get_node key outside ≡ None = absent_node key outside (ap (get_member key) kept.table ∙ absent_key key table.entries none) in
    ((fewer, outside, kept, ap₂ (λ a b. (a, b)) nodes (sym path)), ap (get_node key) (nodes ∙ ap (λ t. plug t outside) (no_path fewer path)) ∙ absent)
