use Rattle.std.proofs.Common.{◌≡◌, ◌<◌, ◌++◌, ◌∷◌, [], ◌∙◌, get_or, length, string_bytes, sym, ap, ap₂, arith}
use Rattle.pytoml.proofs.Levels.{next_key}
use Rattle.pytoml.proofs.draft.Draft.shared.Goals as goal

pub loop-count-preserved : goal.loop-count-preserved
loop-count-preserved c =
    let count = c.loop-count.count in
    let part = c.index-path-count.result in
    let path = c.args.path.now in
    let ls = c.args.self.now.levels.items in
    let key = c.has_key.ensures c.if-has_key.true in
    let within : count < length path = omega arith in
    let text : string_bytes (get_or path count part) ≡ c.as_str.result.now = ap string_bytes (sym c.index-path-count.is) ∙ sym c.as_str.ensures.value in
    let same = next_key string_bytes path count part within
    ∙ ap₂ (λ t k. t ++ k ∷ []) c.loop-count.invariant.2 text ∙ sym key.1 in
    (omega arith, omega (arith, key.0, c.args.self.now.levels.ok), same)
