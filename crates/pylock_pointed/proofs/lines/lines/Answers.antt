use Rattle.std.proofs.Common.{◌≡◌, ◌∙◌, List, ℕ, rules, string_bytes, subst, sym}
use Rattle.std.specs.Str.{IsUtf8}
use Rattle.std.proofs.lemmas.Result.{IfOk-weaker}
use Rattle.pylock_pointed.proofs.TextLemmas.{lines_utf8}
use Rattle.pylock_pointed.proofs.lines.lines.Goals as goal
use Rattle.pylock_pointed.specs.Lines.{lines}
use Rattle.pylock_shown.specs.Visible.{visible}

pub returns : goal.returns
returns c =
    let bytes : List ℕ = c.deref.result.now in
    let all : List ℕ = lines (visible c.args.text.now) c.args.before c.args.within in
    let written : bytes ≡ all = search rules in
    let utf8 : IsUtf8 bytes = subst IsUtf8 (sym written) (lines_utf8 c.args.text.now c.args.before c.args.within c.utf8.text) in
    IfOk-weaker c.from_utf8_lossy.result (λ shown. IsUtf8 bytes → string_bytes shown ≡ bytes) (λ shown. string_bytes shown ≡ all)
    (λ shown is. is utf8 ∙ written) c.from_utf8_lossy.ensures.ok
