use Rattle.std.proofs.Common.{Option, subst, sym}
use Rattle.pymark_core.specs.Marker.Reading.{MarkerValue}
use Rattle.pylock_environments.specs.Environments.{IsMarked}
use Rattle.pylock_environments.specs.Inner.{IsRefused, IsSoughtIn}
use Rattle.pylock_environments.proofs.AskingLemmas.{on_ok}
use Rattle.pylock_environments.proofs.wanted.Wanted.add_sought.Goals as goal

pub returns-in_ok-add_marker-in-Refused : goal.returns-in_ok-add_marker-in-Refused
returns-in_ok-add_marker-in-Refused c =
    on_ok c.add_specifier.result
    (λ follows e wanted sought.
    let refused : IsRefused c.in-Refused.weighed.now.entry.now c.in-Refused.specifier.now e = subst (IsSoughtIn e) c.in-Refused.is sought in
    follows e
    (c.in_ok-add_marker-in-Refused.ensures e wanted (subst (λ (m : Option MarkerValue). IsMarked m e) (sym c.marker.ensures) refused.0)) refused.1)
    c.add_specifier.ensures
