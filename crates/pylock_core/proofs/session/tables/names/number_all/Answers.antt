use Rattle.std.proofs.Common.{◌≡◌, ◌∙◌, ℕ, ◌<◌, List, [], Some, IsSome, is_some, ap, sym, arith, slice_index_or}
use Rattle.pylock_core.specs.Inner.Tables.Names.{number_named}
use Rattle.pylock_core.proofs.Lemmas.Editing.Policies.{get_default, kept_itself, kept_then, known_kept}
use Rattle.pylock_core.proofs.Lemmas.Tables.Index.{below_more}
use Rattle.pylock_core.proofs.session.tables.names.number_all.Goals as goal

pub loop-name-init : goal.loop-name-init
loop-name-init c = record {
  kept = kept_itself c.args.names.now c.requires;
  known = λ j less. absurd (omega (arith, less));
}

pub number_of-requires : goal.number_of-requires
number_of-requires c = c.loop-name.invariant.kept.is

pub returns-in_err-number_of-clause-kept : goal.returns-in_err-number_of-clause-kept
returns-in_err-number_of-clause-kept c = kept_then _ _ _ c.loop-name.invariant.kept c.in_err-number_of.ensures.kept

pub loop-name-preserved : goal.loop-name-preserved
loop-name-preserved c =
    let list = c.args.list.now in
    let old = c.loop-name.names in
    let new = c.number_of.new.names in
    let here : IsSome (number_named new (slice_index_or list c.loop-name.name-index [])) =
    ap (λ (q : List ℕ). is_some (number_named new q)) (sym (c.as_str.ensures.text ∙ c.name-item.is ∙ get_default list c.loop-name.name-index c.name-item.result [] c.loop-name-test.true))
    ∙ ap is_some c.in_ok-number_of.ensures.found in
    record {
      kept = kept_then _ old new c.loop-name.invariant.kept c.in_ok-number_of.ensures.kept;
      known = λ j less. below_more (λ (k : ℕ). IsSome (number_named new (slice_index_or list k []))) c.loop-name.name-index j less
          (λ k within. known_kept (number_named old (slice_index_or list k [])) (number_named new (slice_index_or list k []))
          (c.in_ok-number_of.ensures.kept.numbers (slice_index_or list k [])) (c.loop-name.invariant.known k within)) here;
    }

pub returns-clause-known : goal.returns-clause-known
returns-clause-known c = λ i less. c.loop-name.invariant.known i (omega (arith, less, c.loop-name-test.false))

pub returns-clause-kept : goal.returns-clause-kept
returns-clause-kept c = c.loop-name.invariant.kept
