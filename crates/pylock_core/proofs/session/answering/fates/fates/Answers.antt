use Rattle.std.proofs.Common.{◌≡◌, ◌∙◌, List, IfOk, ℕ, subst, ap}
use Rattle.pylock_core.specs.Inner.Answering.Fates.{row_fates}
use Rattle.pylock_core.specs.declared.fate.Fate.{Fate}
use Rattle.pylock_core.proofs.Lemmas.Answering.Fates.{session_fates}
use Rattle.pylock_core.proofs.Lemmas.Answering.Steps.{session_rows}
use Rattle.pylock_core.proofs.Lemmas.Parts.{session_below}
use Rattle.pylock_core.proofs.session.answering.fates.fates.Goals as goal

pub fates_of-requires : goal.fates_of-requires
fates_of-requires c = rw (c.as_slice-2.ensures.value, c.as_slice-3.ensures.value) (session_below c.args.parts.now c.requires)

pub returns : goal.returns
returns c =
    let p = c.args.parts.now in
    let given = rw (c.as_slice.ensures.value, c.as_slice-2.ensures.value, c.as_slice-3.ensures.value) at c.fates_of.ensures in
    subst (λ (x : List (ℕ × Fate)). IfOk c.fates_of.result (λ found. found.items ≡ x))
    (ap (λ es. row_fates es p.names.policies.items) (session_rows p c.requires) ∙ session_fates p c.requires) given
