use Rattle.pylock_environments.proofs.LawLemmas.{clash_is_no_plan}
use Rattle.pylock_environments.proofs.laws.a_clash_is_no_plan.Goals as goal

pub returns : goal.returns
returns c = λ head entries found state number other environment plan shown of among same is.
    clash_is_no_plan head entries state of found number other environment plan shown among same is
