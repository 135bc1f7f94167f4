use Rattle.std.proofs.Common.{◌≡◌}
use Rattle.pylock_core.specs.Inner.Parts.{IsSession, state_of}
use Rattle.pylock_core.specs.Session.Judgement.{all_numbers}
use Rattle.pylock_core.specs.Session.State.{first}
use Rattle.pylock_core.proofs.Lemmas.Session.{with_all}
use Rattle.pylock_core.proofs.session.start_and_edit.start_parts.Given as goal

-- the entries that are left make the state at the start
abbrev pub invariant-loop-entry : goal.invariant-loop-entry
invariant-loop-entry l = record {
  session : IsSession l.parts;
  whole : with_all (state_of l.parts) l.entry-iterator.rest.items ≡ first l.fn.lock l.fn.environment l.fn.tags;
  judged : l.judged ≡ all_numbers (state_of l.parts);
}
