use Rattle.std.proofs.Common.{◌≡◌, ◌<◌, ◌++◌, ◌∷◌, [], ◌∙◌, get_or, length, map, take, string_bytes, sym, ap, arith}
use Rattle.std.proofs.lemmas.Bool.Decides.{nat_tests}
use Rattle.std.proofs.lemmas.Grind.{common_steps}
use Rattle.std.proofs.lemmas.Slice.Eq.{bytes_eq-Decides}
use Rattle.pytoml.specs.Draft.{key_of}
use Rattle.pytoml.proofs.Levels.{next_key}
use Rattle.pytoml.proofs.draft.Draft.has_key.Goals as goal

pub returns-in-Some : goal.returns-in-Some
returns-in-Some c = λ yes.
    let at = c.args.at in
    let ls = c.args.self.now.levels.items in
    let level = c.in-Some.level.now in
    let key_is : string_bytes level.key ≡ c.args.key.now =
    sym c.as_str.ensures.value ∙ (bytes_eq-Decides c.as_str.result.now c.args.key.now).0 (sym c.eq.ensures ∙ yes) in
    let list : c.deref.result.now ≡ ls = c.deref.ensures.value in
    let within : at < length ls = grind (arith, nat_tests, common_steps) in
    let found : level ≡ get_or ls at level = c.in-Some.ensures.lookup.3.1 level ∙ ap (λ t. get_or t at level) list in
    (within, next_key key_of ls at level within ∙ ap (λ k. take at (map key_of ls) ++ k ∷ []) (ap key_of (sym found) ∙ key_is))
