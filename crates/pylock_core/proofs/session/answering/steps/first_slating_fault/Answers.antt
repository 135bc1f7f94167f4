use Rattle.std.proofs.Common.{[], drop, get_or, ◌∙◌, ◌+◌, refl, sym, subst, ap}
use Rattle.std.specs.Option.{option_copied}
use Rattle.pylock_core.specs.Inner.Answering.Steps.{numbered}
use Rattle.pylock_core.specs.Inner.Answering.SlatedNames.{HasPlace, is_slated}
use Rattle.pylock_core.proofs.Lemmas.Answering.Steps.{Slating, numbered_none, numbered_some, of_row, slating_faulty, slating_on}
use Rattle.pylock_core.proofs.session.answering.steps.first_slating_fault.Goals as goal

pub loop-number-init : goal.loop-number-init
loop-number-init c = record { slating = ([], c.requires.none, refl); places = c.requires.places }

pub loop-number-preserved-in_default : goal.loop-number-preserved-in_default
loop-number-preserved-in_default c = record {
  slating = subst (λ rest. Slating (numbered c.args.rows.now c.args.numbers.now) rest (is_slated c.loop-number.slated))
      (numbered_none c.args.rows.now c.args.numbers.now c.loop-number.number-index c.loop-number-test.true (sym c.row_in.ensures ∙ ap option_copied c.in_default.is)) c.loop-number.invariant.slating;
  places = c.loop-number.invariant.places;
}

pub slate_row-requires : goal.slate_row-requires
slate_row-requires c =
    of_row (λ row. HasPlace c.loop-number.slated row.name) c.args.rows.now c.loop-number.invariant.places (get_or c.args.numbers.now c.loop-number.number-index 0) c.in-Some.row.now
    (sym c.row_in.ensures ∙ ap option_copied c.in-Some.is)

pub returns-in-Faulty : goal.returns-in-Faulty
returns-in-Faulty c =
    let rows = c.args.rows.now in
    let numbers = c.args.numbers.now in
    let i = c.loop-number.number-index in
    let row = c.in-Some.row.now in
    slating_faulty (numbered rows numbers) (numbered rows (drop (i + 1) numbers)) (is_slated c.loop-number.slated) (get_or numbers i 0) row c.in-Faulty.code
    (sym c.in_ok-code.ensures.standing ∙ c.in-Faulty.is)
    (subst (λ rest. Slating (numbered rows numbers) rest (is_slated c.loop-number.slated)) (numbered_some rows numbers i row c.loop-number-test.true (sym c.row_in.ensures ∙ ap option_copied c.in-Some.is)) c.loop-number.invariant.slating)

pub loop-number-preserved : goal.loop-number-preserved
loop-number-preserved c =
    let rows = c.args.rows.now in
    let numbers = c.args.numbers.now in
    let i = c.loop-number.number-index in
    let row = c.in-Some.row.now in
    let slated = is_slated c.loop-number.slated in
    let told = c.in_ok-code.ensures in
    let at = subst (λ rest. Slating (numbered rows numbers) rest slated) (numbered_some rows numbers i row c.loop-number-test.true (sym c.row_in.ensures ∙ ap option_copied c.in-Some.is)) c.loop-number.invariant.slating in
    record {
      slating = slating_on (numbered rows numbers) (numbered rows (drop (i + 1) numbers)) slated (is_slated c.slate_row.new.slated) (get_or numbers i 0) row c.in_ok-code.field-0
          c.in_default-2.not-Faulty (sym told.standing) told.slated at;
      places = λ k found is. told.places found.name (c.loop-number.invariant.places k found is);
    }
