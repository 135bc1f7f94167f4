use Rattle.std.proofs.Common.{◌≡◌, ◌∙◌, [], ap, arith, drop, length, nat_eq, sym}
use Rattle.std.proofs.Math.ListN.{drop_of_length-le}
use Rattle.std.specs.Vec.{vec_len}
use Rattle.toml.specs.Data.{no_items}
use Rattle.toml.specs.View.{items_view}
use Rattle.pylock_metadata.specs.Meets.{all_meet}
use Rattle.pylock_metadata.proofs.MeetsLemmas.{ended}
use Rattle.pylock_metadata.proofs.meets.+meeting.Goals as goal

pub all_meet-returns : goal.all_meet-returns
all_meet-returns t c =
    let given = c.args.given.now.items in
    let items = c.deref-item-items.result.now in
    let none : drop c.items.item-index items ≡ [] = drop_of_length-le items c.items-test.false in
    let count : vec_len c.args.given.now ≡ length given = omega arith in
    ap (nat_eq c.items.place) (c.len.ensures ∙ count)
    ∙ ended given c.items.place c.items.invariant.within
    ∙ ap (λ i. all_meet no_items (items_view (drop i given))) c.items.invariant.place
    ∙ ap (λ left. all_meet (items_view left) (items_view (drop c.items.item-index given))) (sym none)
    ∙ c.items.invariant.left
    ∙ ap (λ all. all_meet (items_view all) (items_view given)) c.deref-item-items.ensures.value
