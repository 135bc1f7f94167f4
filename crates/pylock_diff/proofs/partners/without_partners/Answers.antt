use Rattle.std.proofs.Common.{◌∙◌}
use Rattle.pylock_compare.specs.Partners.{are_alone}
use Rattle.pylock_diff.proofs.PartnerLemmas.{where_lent}
use Rattle.pylock_diff.proofs.partners.without_partners.Goals as goal

pub returns : goal.returns
returns c =
    where_lent c.where_true.result c.as_slice.result.now _ c.args.items.now
    (c.as_slice.ensures.value ∙ c.in_ok-alone.ensures ∙ (λ i. are_alone (c.in_ok-keys_of.ensures i) (c.in_ok-keys_of-2.ensures i)))
    c.where_true.ensures
