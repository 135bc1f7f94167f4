use Rattle.std.proofs.Common.{◌≡◌, ◌∙◌, List, ℕ, ap, length, rules, subst, sym, take}
use Rattle.std.specs.Str.{IsUtf8, chars}
use Rattle.std.proofs.lemmas.Str.{IsUtf8-take, chars_from_encodes}
use Rattle.pylock_pointed.proofs.TextLemmas.{visible_utf8}
use Rattle.pylock_pointed.proofs.lines.column.Goals as goal
use Rattle.pylock_shown.specs.Visible.{visible}

pub returns : goal.returns
returns c =
    let front : List ℕ = take c.args.place c.args.text.now in
    let bytes : List ℕ = c.deref.result.now in
    let written : bytes ≡ visible front = search rules in
    let utf8 : IsUtf8 bytes = subst IsUtf8 (sym written) (visible_utf8 front (IsUtf8-take c.args.text.now c.args.place c.utf8.text c.requires)) in
    let text : c.as_str.result.now ≡ visible front = c.as_str.ensures.value ∙ c.in_ok-shown.ensures.ok utf8 ∙ written in
    let count : c.count.result ≡ length (chars c.as_str.result.now) = search (rules, chars_from_encodes) in
    count ∙ ap (λ (shown : List ℕ). length (chars shown)) text
