use Rattle.std.proofs.Common.{◌∙◌, ℕ, Bor, List, sym}
use Rattle.std.specs.Cmp.Derive.Mapped.{pointwise-map}
use Rattle.std.specs.Str.{bytes_eq}
use Rattle.pylock_diff.proofs.texts.are_same_texts.Goals as goal

pub returns : goal.returns
returns c = c.eq.ensures ∙ sym (pointwise-map (λ (text : Bor (List ℕ)). text.now) bytes_eq c.args.olds.now c.args.news.now)
