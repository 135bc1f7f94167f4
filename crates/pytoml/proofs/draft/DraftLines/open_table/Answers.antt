use Rattle.std.proofs.Common.{ap, refl, string_bytes}
use Rattle.toml_parser.specs.Reading.{path_view}
use Rattle.toml.specs.Tables.{header, std_table}
use Rattle.pytoml.specs.Draft.{in_table}
use Rattle.pytoml.proofs.Levels.{define_table, header_leads, header_opened}
use Rattle.pytoml.proofs.Results.{on_ok_then}
use Rattle.pytoml.proofs.draft.DraftLines.open_table.Goals as goal

pub returns : goal.returns
returns c = λ doc stands.
    let p = path_view c.args.key.path.items in
    let k = string_bytes c.args.key.last in
    let (rings, inner, draft, is) = stands in
    let (fewer, outside, kept, plugs, path) = c.in_ok-close_to.ensures.kept rings inner draft in
    let (more, top, opened, ways, along) = c.in_ok-open_path.ensures fewer outside kept in
    let leads = header_leads c.args.self.now rings fewer more inner outside top c.shared-shared.result p _ _ draft (ap path_view c.deref.ensures.value) (ap path_view c.deref-2.ensures.value)
    c.shared-shared.ensures.same plugs path ways along in
    on_ok_then c.open.result (λ found. header_opened p k _ c.open.new.self doc rings more inner top std_table (in_table header) (define_table doc p k) refl is leads found.0 found.1)
    (c.open.ensures more top (in_table header) opened tt)
