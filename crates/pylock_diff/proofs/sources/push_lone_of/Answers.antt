use Rattle.std.proofs.Common.{◌≡◌, ◌∙◌, ◌++◌, ◌∷◌, [], None, Some, true, ap, filter, map, not, sym}
use Rattle.std.specs.BTreeMap.{get}
use Rattle.std.specs.BTreeSet.{contains}
use Rattle.pylock_compare.specs.Texts.{texts_cmp}
use Rattle.pylock_core.specs.Session.Picks.{SourceValue, lent_source}
use Rattle.pylock_diff.specs.Sources.{condition_key, identity}
use Rattle.pylock_diff.specs.Versions.{version_key}
use Rattle.pylock_diff.proofs.OtherLemmas.{on_ok, with_set, without_set}
use Rattle.pylock_diff.proofs.sources.push_lone_of.Goals as goal

pub returns-in-Some : goal.returns-in-Some
returns-in-Some c =
    let others = c.args.others.now in
    let item = c.args.item.now in
    let set = c.in-Some.set.now in
    let versioned : contains texts_cmp others.versions (version_key item ∷ []) ≡ true =
    ap (contains texts_cmp others.versions) (sym c.in_ok-whole_key.ensures) ∙ sym c.contains.ensures ∙ c.if-not-contains.false in
    let found : get texts_cmp others.sources (condition_key item) ≡ Some set = ap (get texts_cmp others.sources) (sym c.in_ok-key.ensures) ∙ sym c.in-Some.ensures.value in
    on_ok c.push_lone.result
    (λ put known are. put
    ∙ ap (λ sources. map lent_source c.args.list.now.items ++ filter (λ (source : SourceValue). not (contains texts_cmp set (identity source))) sources) c.sources.ensures
    ∙ ap (λ more. map lent_source c.args.list.now.items ++ more) (with_set others known are item versioned set found))
    c.push_lone.ensures

pub returns : goal.returns
returns c =
    let others = c.args.others.now in
    let item = c.args.item.now in
    let versioned : contains texts_cmp others.versions (version_key item ∷ []) ≡ true =
    ap (contains texts_cmp others.versions) (sym c.in_ok-whole_key.ensures) ∙ sym c.contains.ensures ∙ c.if-not-contains.false in
    let none : get texts_cmp others.sources (condition_key item) ≡ None = ap (get texts_cmp others.sources) (sym c.in_ok-key.ensures) ∙ sym c.in-None.ensures.value in
    on_ok c.push_unless_moved.result
    (λ put known are. put known are ∙ ap (λ more. map lent_source c.args.list.now.items ++ more) (sym (without_set others known are item versioned none)))
    c.push_unless_moved.ensures
