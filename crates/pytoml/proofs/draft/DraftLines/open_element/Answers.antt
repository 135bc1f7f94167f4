use Rattle.std.proofs.Common.{◌≡◌, ◌+◌, ◌∙◌, ◌∷◌, ◌++◌, [], take, string_bytes, sym, ap, ap₂, arith, refl}
use Rattle.std.proofs.lemmas.List.{take_all, length-map}
use Rattle.toml_parser.specs.Reading.{path_view}
use Rattle.toml.specs.Tables.{array_table}
use Rattle.toml.specs.Data.{no_items}
use Rattle.toml.specs.View.{items_view}
use Rattle.pytoml.specs.Draft.{in_array, path_of}
use Rattle.pytoml.proofs.Levels.{define_element, element_turned, header_leads, header_opened, keys_are_path, shared_path}
use Rattle.pytoml.proofs.Results.{on_ok_then}
use Rattle.pytoml.proofs.draft.DraftLines.open_element.Goals as goal

pub returns-then-has_key : goal.returns-then-has_key
returns-then-has_key c = λ doc stands.
    let n = c.shared-shared.result in
    let p = path_view c.args.key.path.items in
    let k = string_bytes c.args.key.last in
    let (rings, inner, draft, is) = stands in
    let keys = keys_are_path c.args.self.now.levels.items rings draft.levels in
    let shared = shared_path c.args.self.now rings inner n p _ draft (ap path_view c.deref.ensures.value) c.shared-shared.ensures.same in
    let all : take n p ≡ p = take_all n p (omega (arith, length-map c.args.key.path.items string_bytes, c.args.key.path.ok)) in
    let here = c.has_key.ensures c.if-has_key.true in
    let next : take (n + 1) (path_of rings) ≡ p ++ k ∷ [] =
    ap (take (n + 1)) (sym keys) ∙ here.1 ∙ ap₂ (λ t l. take n t ++ l ∷ []) keys c.as_str.ensures.value ∙ ap (λ t. t ++ k ∷ []) (shared ∙ all) in
    let (fewer, outside, kept, plugs, path) = c.in_ok-close_to.ensures.kept rings inner draft in
    on_ok_then c.next_element.result
    (λ turned. element_turned p k c.next_element.new.self doc rings fewer turned.0 inner outside turned.1 turned.2 is plugs (path ∙ next) turned.3 turned.4 turned.5)
    (c.next_element.ensures fewer outside kept)

pub returns : goal.returns
returns c = λ doc stands.
    let p = path_view c.args.key.path.items in
    let k = string_bytes c.args.key.last in
    let (rings, inner, draft, is) = stands in
    let (fewer, outside, kept, plugs, path) = c.in_ok-close_to-2.ensures.kept rings inner draft in
    let (more, top, opened, ways, along) = c.in_ok-open_path.ensures fewer outside kept in
    let leads = header_leads c.args.self.now rings fewer more inner outside top c.shared-shared.result p _ _ draft (ap path_view c.deref.ensures.value) (ap path_view c.deref-2.ensures.value)
    c.shared-shared.ensures.same plugs path ways along in
    on_ok_then c.open.result (λ found. header_opened p k _ c.open.new.self doc rings more inner top array_table (in_array no_items) (define_element doc p k) refl is leads found.0 found.1)
    (c.open.ensures more top (in_array no_items) opened (sym (ap items_view c.new.ensures.items)))
