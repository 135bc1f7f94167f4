use Rattle.std.proofs.Common.{◌∙◌, ◌+◌, ◌++◌, ◌∷◌, [], ap, sym}
use Rattle.pylock_core.specs.Inner.Parts.{state_of}
use Rattle.pylock_core.proofs.Lemmas.Session.{all_numbers_next, with_all, with_all_next}
use Rattle.pylock_core.proofs.session.start_and_edit.start_parts.Goals as goal

pub loop-entry-preserved : goal.loop-entry-preserved
loop-entry-preserved c =
    let before = state_of c.loop-entry.parts in
    record {
      session = c.in_ok-append_entry.ensures.session;
      whole = with_all_next before (state_of c.append_entry.new.parts) c.in-Some.entry _ c.in_ok-append_entry.ensures.made.applied
          ∙ ap (with_all before) (sym c.in-Some.ensures.steps.0) ∙ c.loop-entry.invariant.whole;
      judged = c.in_ok-append_entry.ensures.made.judged ∙ ap (λ ns. ns ++ (before.last + 1) ∷ []) c.loop-entry.invariant.judged
          ∙ sym (all_numbers_next before (state_of c.append_entry.new.parts) c.in-Some.entry c.in_ok-append_entry.ensures.made.applied);
    }
