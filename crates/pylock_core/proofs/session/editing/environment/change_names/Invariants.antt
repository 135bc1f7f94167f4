use Rattle.std.proofs.Common.{◌≡◌}
use Rattle.pylock_core.specs.Inner.Editing.{DifferAt}
use Rattle.pylock_core.specs.Inner.KeptEnvironment.{LeadsFrom}
use Rattle.pylock_core.specs.Inner.Parts.{state_of}
use Rattle.pylock_core.specs.Session.Names.{names_key}
use Rattle.pylock_core.specs.Session.State.{after_names}
use Rattle.pylock_core.specs.Session.State.{in_environment}
use Rattle.pylock_core.proofs.session.editing.environment.change_names.Given as goal

-- the names that are left lead on from the environment so far, and the changes that are kept lead to it
abbrev pub invariant-loop-name : goal.invariant-loop-name
invariant-loop-name l = record {
  leads : after_names l.change l.fn.names.items (state_of l.parts)
      ≡ after_names l.change l.name-iterator.rest.items (in_environment l.edited.environment (state_of l.parts));
  differ : DifferAt (names_key l.change) l.parts.environment l.edited.environment;
  changes : LeadsFrom l.parts.environment l.edited;
}
