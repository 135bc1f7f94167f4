use Rattle.std.proofs.Common.{◌≡◌, ◌++◌, ◌∙◌, ap, drop, fold, subst, sym, take, []}
use Rattle.std.proofs.lemmas.List.Elements.{All-drop, All-take}
use Rattle.std.specs.Rc.{rc_str_bytes}
use Rattle.pywheel_core.specs.Inner.TargetWords.{parts_tags, triples_at}
use Rattle.pywheel_core.specs.Spans.{AreWithin, IsWithin}
use Rattle.pywheel_core.specs.Tag.{with_tag}
use Rattle.pywheel_core.proofs.TargetLemmas.{four_added}
use Rattle.pywheel_core.proofs.tag_list.TagList.of_parts.Goals as goal

pub add_triples-requires-2-clause-abis : goal.add_triples-requires-2-clause-abis
add_triples-requires-2-clause-abis c = let text = rc_str_bytes c.args.text.now in
    subst (AreWithin text) (sym (c.split_at-2.ensures.front ∙ ap (take 1) c.split_at.ensures.back)) (All-take (IsWithin text) 1 _ (All-drop (IsWithin text) 1 _ c.requires.abis))

pub add_triples-requires-3-clause-abis : goal.add_triples-requires-3-clause-abis
add_triples-requires-3-clause-abis c = let text = rc_str_bytes c.args.text.now in
    subst (AreWithin text) (sym (c.split_at-2.ensures.back ∙ ap (drop 1) c.split_at.ensures.back)) (All-drop (IsWithin text) 1 _ (All-drop (IsWithin text) 1 _ c.requires.abis))

pub add_triples-requires-4-clause-abis : goal.add_triples-requires-4-clause-abis
add_triples-requires-4-clause-abis c = let text = rc_str_bytes c.args.text.now in
    subst (AreWithin text) (sym (c.split_at-2.ensures.back ∙ ap (drop 1) c.split_at.ensures.back)) (All-drop (IsWithin text) 1 _ (All-drop (IsWithin text) 1 _ c.requires.abis))

pub returns : goal.returns
unfolding parts_tags
returns c =
    let text = rc_str_bytes c.args.text.now in
    let parts = c.args.parts.now in
    let stable = c.split_at-2.ensures.front ∙ ap (take 1) c.split_at.ensures.back in
    let none = c.split_at-2.ensures.back ∙ ap (drop 1) c.split_at.ensures.back in
    let cpython = c.split_at-3.ensures.front in
    let others = c.split_at-3.ensures.back in
    four_added (triples_at text c.split_at-3.result.0.now parts.abis.now parts.platforms.now) (triples_at text parts.older.now c.split_at-2.result.0.now parts.platforms.now)
    (triples_at text c.split_at-3.result.1.now c.split_at-2.result.1.now parts.platforms.now) (triples_at text parts.pythons.now c.split_at-2.result.1.now parts.any.now) c.in_ok-list.list c.add_triples.new.self c.add_triples-2.new.self c.add_triples-3.new.self c.add_triples-4.new.self
    c.in_ok-list.ensures.empty c.in_ok-add_triples.ensures c.in_ok-add_triples-2.ensures c.in_ok-add_triples-3.ensures c.in_ok-add_triples-4.ensures
    ∙ (λ i. fold with_tag [] (triples_at text (cpython i) parts.abis.now parts.platforms.now ++ (triples_at text parts.older.now (stable i) parts.platforms.now
    ++ (triples_at text (others i) (none i) parts.platforms.now ++ triples_at text parts.pythons.now (none i) parts.any.now))))
