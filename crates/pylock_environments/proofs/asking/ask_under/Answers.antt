use Rattle.std.proofs.Common.{subst, sym}
use Rattle.pymark_algebra.specs.Questions.{AllHave, AllSay, SaysNever}
use Rattle.pylock_environments.proofs.asking.ask_under.Goals as goal

pub returns-in-Yes : goal.returns-in-Yes
returns-in-Yes c = λ e of both.
    let wanted = c.in_ok-wanted.ensures e of.admitted both.0 both.1 in
    subst (SaysNever (λ e. AllSay e c.deref.result.now × AllHave e c.deref-2.result.now)) c.in-Yes.is c.in_ok-are_never_of.ensures e of.coherent
    (subst (AllSay e) (sym c.deref.ensures.value) wanted.0, subst (AllHave e) (sym c.deref-2.ensures.value) wanted.1)
