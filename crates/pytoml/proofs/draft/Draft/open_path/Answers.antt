use Rattle.std.proofs.Common.{◌≡◌, ◌<◌, ◌≤◌, ◌+◌, ◌++◌, ◌∷◌, [], ◌∙◌, length, drop, option_map, string_bytes, sym, ap, arith, append_assoc, append-nil}
use Rattle.std.proofs.lemmas.List.{drop_all, length-map}
use Rattle.toml_parser.specs.Reading.{path_view}
use Rattle.toml.specs.Tables.{along_header, implicit, no_nodes}
use Rattle.pytoml.specs.Draft.{Ring, in_table, path_of, plug}
use Rattle.pytoml.proofs.Levels.{along_none, along_opened, drop_part, path-append}
use Rattle.pytoml.proofs.draft.Draft.open_path.Goals as goal

pub loop-at-preserved : goal.loop-at-preserved
loop-at-preserved c = λ rings inner h.
    let at = c.loop-at.at in
    let ps = c.args.path.now in
    let part = c.index-path-at.result in
    let k = string_bytes c.in_ok-clone.field-0 in
    let (more, top, draft, path, along) = c.loop-at.invariant rings inner h in
    let within : at < length ps = omega arith in
    let copied : k ≡ string_bytes part = c.in_ok-clone.ensures.cases in
    let next : drop at (path_view ps) ≡ k ∷ drop (at + 1) (path_view ps) =
    drop_part ps at part within ∙ ap (λ t. string_bytes t ∷ drop (at + 1) (path_view ps)) (sym c.index-path-at.is)
    ∙ ap (λ t. t ∷ drop (at + 1) (path_view ps)) (sym copied) in
    let (none, opened) = c.in_ok-open.ensures more top (in_table implicit) draft tt in
    let r : Ring = record { around = top; key = k; opened = in_table implicit } in
    let path_now : path_of (more ++ r ∷ []) ++ drop (at + 1) (path_view ps) ≡ path_of more ++ drop at (path_view ps) =
    ap (λ t. t ++ drop (at + 1) (path_view ps)) (path-append more (r ∷ []))
    ∙ append_assoc (path_of more) (k ∷ []) (drop (at + 1) (path_view ps)) ∙ ap (λ t. path_of more ++ t) (sym next) in (
      more ++ r ∷ [],
      no_nodes,
      opened,
      path_now ∙ path,
      λ edit. along edit ∙ ap (λ t. option_map (plug more) (along_header t edit top)) next ∙ along_opened more top k (drop (at + 1) (path_view ps)) edit none,
    )

pub returns : goal.returns
returns c = λ rings inner h.
    let at = c.loop-at.at in
    let ps = c.args.path.now in
    let (more, top, draft, path, along) = c.loop-at.invariant rings inner h in
    let ended : length (path_view ps) ≤ at = omega (arith, length-map ps string_bytes) in
    let none : drop at (path_view ps) ≡ [] = drop_all at (path_view ps) ended in (
      more,
      top,
      draft,
      sym (append-nil (path_of more)) ∙ ap (λ t. path_of more ++ t) (sym none) ∙ path,
      λ edit. along edit ∙ ap (λ t. option_map (plug more) (along_header t edit top)) none ∙ ap (option_map (plug more)) (along_none edit top),
    )
