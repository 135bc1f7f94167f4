use Rattle.std.proofs.Common.{◌∙◌, ◌+◌, ◌||◌, ap, sym, take}
use Rattle.std.specs.BTreeSet.{contains}
use Rattle.pylock_core.specs.Session.Picks.{SourceValue, lent_source}
use Rattle.pylock_core.specs.declared.picked.PickedSource.{PickedSource}
use Rattle.pylock_diff.specs.Sources.{identity}
use Rattle.pylock_compare.specs.Texts.{are_alike, texts_cmp}
use Rattle.pylock_compare.proofs.KeyLemmas.{any_grown, any_mapped}
use Rattle.pylock_diff.proofs.sources.put_sources.Goals as goal

pub loop-source-preserved : goal.loop-source-preserved
loop-source-preserved c = λ key.
    let before = contains texts_cmp c.args.set.now key in
    let p = λ (source : SourceValue). are_alike key (identity source) in
    any_grown key c.in_ok-identity.field-0 c.loop-source.set.keys c.insert.new.self.keys before (λ (source : PickedSource). p (lent_source source))
    c.args.sources.now c.loop-source.source-index c.source-item.result c.loop-source-test.true c.in_ok-insert.ensures.keys
    (ap (are_alike key) c.in_ok-identity.ensures ∙ ap (λ (source : PickedSource). p (lent_source source)) c.source-item.is)
    (c.loop-source.invariant key ∙ ap (λ b. before || b) (any_mapped p lent_source (take c.loop-source.source-index c.args.sources.now)))
    ∙ ap (λ b. before || b) (sym (any_mapped p lent_source (take (c.loop-source.source-index + 1) c.args.sources.now)))
