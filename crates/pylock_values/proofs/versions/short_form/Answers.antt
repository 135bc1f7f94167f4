use Rattle.std.proofs.Common.{◌≡◌, ◌++◌, ◌∙◌, ℕ, List, ap, drop, rules}
use Rattle.std.proofs.lemmas.List.{take_rest}
use Rattle.pyver_core.specs.Version.Normal.{normal_text}
use Rattle.pylock_values.specs.Parts.{base_length, base_with, short_release}
use Rattle.pylock_values.proofs.PartsLemmas.{short_text}
use Rattle.pylock_values.proofs.versions.short_form.Goals as goal

pub returns : goal.returns
returns c =
    let v = c.args.version.now in
    let n = c.base_length-base.result in
    let whole : c.as_bytes-2.result.now ≡ normal_text v = c.as_bytes-2.ensures.value ∙ c.text-2.ensures in
    let at : n ≡ base_length v = c.base_length-base.ensures in
    let front : c.in_ok-text.text.items ≡ normal_text (base_with v.epoch (short_release v.release)) = search rules in
    c.in_ok-extend_from_slice.ensures.items
    ∙ ap (λ (t : List ℕ). c.in_ok-text.text.items ++ t) (take_rest c.as_bytes-2.result.now n)
    ∙ ap (λ (t : List ℕ). t ++ drop n c.as_bytes-2.result.now) front
    ∙ ap (λ (k : ℕ). normal_text (base_with v.epoch (short_release v.release)) ++ drop k c.as_bytes-2.result.now) at
    ∙ ap (λ (t : List ℕ). normal_text (base_with v.epoch (short_release v.release)) ++ drop (base_length v) t) whole
    ∙ short_text v
