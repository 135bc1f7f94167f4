use Rattle.std.proofs.Common.{◌≡◌, ◌∙◌, List, ℕ, ap, map, subst, sym, true}
use Rattle.std.specs.Char.{to_ascii_lowercase}
use Rattle.std.specs.Str.{str_to_ascii_lowercase}
use Rattle.pyver_core.specs.Version.Grammar.{Spells}
use Rattle.pyver_algebra.specs.Plain.{is_plain}
use Rattle.pyver_algebra.proofs.SpelledLemmas.{at_public, one_spelled}
use Rattle.pyver_algebra.proofs.spelled.spelled_version.Goals as goal

pub returns-in-Ok : goal.returns-in-Ok
returns-in-Ok c = λ v is.
    let text = c.args.text.now in
    let lowered = c.make_ascii_lowercase.ensures.bytes ∙ ap (map to_ascii_lowercase) c.in_ok-lower.ensures.ok in
    let bytes : c.as_bytes.result.now ≡ str_to_ascii_lowercase text = c.as_bytes.ensures.value ∙ lowered in
    let read : c.as_str.result.now ≡ str_to_ascii_lowercase text = c.as_str.ensures.value ∙ lowered in
    let plain : is_plain (str_to_ascii_lowercase text) ≡ true = ap is_plain (sym bytes) ∙ sym c.is_plain.ensures ∙ c.if-not-is_plain.false in
    let spells : Spells (str_to_ascii_lowercase text) c.in-Ok.version = subst (λ (t : List ℕ). Spells t c.in-Ok.version) read c.in-Ok.ensures.ok in
    at_public c.in-Ok.version v (one_spelled text c.in-Ok.version v spells plain is)
