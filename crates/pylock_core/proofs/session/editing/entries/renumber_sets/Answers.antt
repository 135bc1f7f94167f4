use Rattle.std.proofs.Common.{subst}
use Rattle.pylock_core.specs.Inner.Tables.TagSets.{AreSets}
use Rattle.pylock_core.proofs.Lemmas.Tables.TagSets.{session_with}
use Rattle.pylock_core.proofs.session.editing.entries.renumber_sets.Goals as goal

pub returns-clause-session : goal.returns-clause-session
returns-clause-session c =
    let sets = c.in_ok-sets.sets in
    session_with c.args.parts.now sets (subst (AreSets sets) c.as_slice.ensures.value c.in_ok-sets.ensures) c.requires
