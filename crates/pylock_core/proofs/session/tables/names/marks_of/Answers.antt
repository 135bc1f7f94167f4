use Rattle.std.proofs.Common.{◌≡◌, ◌∙◌, ◌+◌, ◌∷◌, ◌||◌, false, ap, sym, drop, length, slice_index_or}
use Rattle.std.proofs.lemmas.List.{drop_more}
use Rattle.pylock_core.specs.Session.State.{is_among}
use Rattle.pylock_core.specs.Inner.Tables.Names.{is_at, number_named}
use Rattle.pylock_core.proofs.Lemmas.Editing.Policies.{drop_end, one_marked, or_nothing, within_marks}
use Rattle.pylock_core.proofs.session.tables.names.marks_of.Goals as goal

pub mark-requires : goal.mark-requires
mark-requires c =
    within_marks c.args.names.now c.requires c.as_str.result.now c.known_number.result c.known_number.ensures (length c.loop-name.marks.items) c.loop-name.invariant.0

pub loop-name-preserved : goal.loop-name-preserved
loop-name-preserved c =
    let names = c.args.names.now in
    let list = c.args.list.now in
    let i = c.loop-name.name-index in
    let x = c.name-item.result in
    let rest = drop (i + 1) list in
    let old = c.loop-name.marks.items in
    let more : drop i list ≡ x ∷ rest = drop_more list i x c.loop-name-test.true ∙ ap (λ e. e ∷ rest) (sym c.name-item.is) in (
      c.mark.ensures.length ∙ c.loop-name.invariant.0,
      λ q n has. one_marked names c.requires q x n (slice_index_or old n false) (slice_index_or c.mark.new.marks.items n false) rest has
          (c.mark.ensures.marks n ∙ ap (λ m. is_at n m || slice_index_or old n false) (c.known_number.ensures ∙ ap (number_named names) c.as_str.ensures.text))
          ∙ ap (λ left. slice_index_or old n false || is_among left q) (sym more)
          ∙ c.loop-name.invariant.1 q n has,
    )

pub returns : goal.returns
returns c = λ name n has.
    or_nothing (slice_index_or c.loop-name.marks.items n false)
    ∙ ap (λ left. slice_index_or c.loop-name.marks.items n false || is_among left name) (sym (drop_end c.args.list.now c.loop-name.name-index c.loop-name-test.false))
    ∙ c.loop-name.invariant.1 name n has
