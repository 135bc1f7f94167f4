use Rattle.std.proofs.Common.{◌≡◌, ◌∙◌, false, length, replicate, get_or, subst, sym, ap, []}
use Rattle.std.proofs.lemmas.List.{get_or-replicate, length-map}
use Rattle.pylock_core.specs.Session.State.{Rises}
use Rattle.pylock_core.specs.Inner.Tables.Index.{numbers_in}
use Rattle.pylock_core.proofs.Lemmas.Tables.Index.{head_lists, none_listed}
use Rattle.pylock_core.proofs.session.tables.index.head_index.Goals as goal

pub move_in_lists-requires-clause-rise : goal.move_in_lists-requires-clause-rise
move_in_lists-requires-clause-rise c = λ key less.
    let none : numbers_in c.reserve_in_lists.new.lists ≡ replicate 14 [] = c.in_ok-reserve_in_lists.ensures.kept ∙ c.empty_lists-lists.ensures in
    subst (Rises 0) (sym (ap (λ ls. get_or ls key []) none ∙ none_listed 14 key)) tt

pub returns : goal.returns
returns c =
    let none : numbers_in c.reserve_in_lists.new.lists ≡ replicate 14 [] = c.in_ok-reserve_in_lists.ensures.kept ∙ c.empty_lists-lists.ensures in
    head_lists c.move_in_lists.new.lists c.reserve_in_lists.new.lists c.args.head.now c.head_keys-read.result (replicate 14 false)
    (c.move_in_lists.ensures.long ∙ sym (length-map c.reserve_in_lists.new.lists (λ list. list.items)) ∙ ap length none)
    (λ key. ap (λ ls. get_or ls key []) none ∙ none_listed 14 key)
    c.head_keys-read.ensures (λ key less. get_or-replicate 14 key false false less) c.move_in_lists.ensures.changed
