use Rattle.std.proofs.Common.{◌∙◌}
use Rattle.pylock_compare.specs.Texts.{texts_cmp}
use Rattle.pylock_compare.proofs.KeyLemmas.{lent_cmp}
use Rattle.pylock_compare.proofs.key.KeyOrd.cmp.Goals as goal

pub returns : goal.returns
returns c = c.cmp.ensures ∙ lent_cmp c.self.inside.texts.items c.other.inside.texts.items ∙ (λ i. texts_cmp (c.self.view_is i) (c.other.view_is i))
