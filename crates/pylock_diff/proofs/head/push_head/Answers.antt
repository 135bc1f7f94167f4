use Rattle.std.proofs.Common.{◌≡◌, ◌∙◌, ◌++◌, ℕ, Bor, List, ap, filter, map, not}
use Rattle.pylock_compare.specs.Lent.{lent_texts}
use Rattle.pylock_compare.specs.Rows.{in_order, names_of}
use Rattle.pylock_compare.proofs.RowLemmas.{each_seen, in_turn, names_seen}
use Rattle.pylock_diff.specs.Head.{HeadKey, head_rows, head_told, is_list_key, keys_changes}
use Rattle.pylock_diff.specs.Inner.Lent.{key_row}
use Rattle.pylock_diff.proofs.head.push_head.Goals as goal

pub returns : goal.returns
returns c =
    let seen = λ (key : Bor HeadKey). key.now in
    let sides = c.in_ok-sides.sides in
    let old = head_rows c.args.old.now in
    let new = head_rows c.args.new.now in
    let from = ap (map key_row) c.as_slice.ensures.value ∙ c.in_ok-olds.ensures in
    let to = ap (map key_row) c.as_slice-2.ensures.value ∙ c.in_ok-news.ensures in
    let told = λ (keys : List (Bor (List ℕ))).
    each_seen seen head_told sides c.as_slice.result.now c.as_slice-2.result.now c.in_ok-sides.ensures.olds c.in_ok-sides.ensures.news keys
    ∙ (λ i. keys_changes (from i) (to i) (lent_texts keys)) in
    let names : lent_texts sides.names.items ≡ in_order (names_of old ++ names_of new) =
    c.in_ok-sides.ensures.names
    ∙ (λ i. in_order ((names_seen seen c.as_slice.result.now ∙ ap names_of from) i ++ (names_seen seen c.as_slice-2.result.now ∙ ap names_of to) i)) in
    let others = c.in_ok-others.ensures ∙ ap (filter (λ key. not (is_list_key key))) (ap lent_texts c.as_slice-4.ensures.value ∙ names) in
    in_turn c.args.changes.now.items c.push_keys.new.changes.items c.push_keys-2.new.changes.items _ _
    (c.in_ok-push_keys.ensures ∙ ap (λ more. c.args.changes.now.items ++ more) (told _ ∙ ap (keys_changes old new) (ap lent_texts c.as_slice-3.ensures)))
    (c.in_ok-push_keys-2.ensures ∙ ap (λ more. c.push_keys.new.changes.items ++ more) (told _ ∙ ap (keys_changes old new) (ap lent_texts c.as_slice-5.ensures.value ∙ others)))
