use Rattle.std.proofs.Common.{◌≡◌, ◌||◌, ◌∙◌, true, arith, ap}
use Rattle.std.proofs.lemmas.Grind.{common_steps}
use Rattle.std.specs.BTreeSet.{contains}
use Rattle.std.specs.List.{list_any}
use Rattle.pylock_compare.specs.Texts.{are_alike, texts_cmp}
use Rattle.pylock_compare.proofs.KeyLemmas.{alike_equal}
use Rattle.pylock_compare.proofs.PartnerLemmas.{alike_turned}
use Rattle.pylock_core.specs.Session.Picks.{SourceValue}
use Rattle.pylock_diff.specs.Inner.Others.{holds_at}
use Rattle.pylock_diff.specs.Sources.{condition_key, identity}
use Rattle.pylock_diff.proofs.sources.put_item.Goals as goal

pub returns-clause-conditions : goal.returns-clause-conditions
returns-clause-conditions c = λ d.
    let is = ap (are_alike d) c.in_ok-condition_key.ensures in
    grind (arith, alike_turned d c.in_ok-condition_key.field-0, is)

pub returns-clause-sources : goal.returns-clause-sources
returns-clause-sources c = λ d k.
    let key = c.in_ok-condition_key.field-0 in
    let has = list_any (λ source. are_alike k (identity source)) c.args.item.now.sources in
    let is : are_alike d key ≡ are_alike d (condition_key c.args.item.now) = ap (are_alike d) c.in_ok-condition_key.ensures in
    let same : are_alike key d ≡ are_alike d key = alike_turned key d in
    let put : contains texts_cmp c.put_sources.new.set k ≡ (contains texts_cmp c.or_default-set.result.now k || has) =
    c.in_ok-put_sources.ensures k ∙ ap (λ sources. contains texts_cmp c.or_default-set.result.now k || list_any (λ (source : SourceValue). are_alike k (identity source)) sources) c.sources.ensures in
    let was : contains texts_cmp c.or_default-set.result.now k ≡ holds_at c.args.table.now key k = grind (arith, common_steps) in
    let moved : are_alike d key ≡ true → holds_at c.args.table.now d k ≡ holds_at c.args.table.now key k = λ is. ap (λ t. holds_at c.args.table.now t k) (alike_equal d key is) in
    grind (arith, same, put, was, moved, is)
