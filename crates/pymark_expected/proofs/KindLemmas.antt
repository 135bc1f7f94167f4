-- Kinds of sentences.
use Rattle.std.proofs.Common.{◌≡◌, subst, true}
use Rattle.pymark_core.specs.declared.requirement.error.RequirementError.{RequirementError}
use Rattle.pymark_core.specs.declared.requirement.error.RequirementError.TheVariants.{Memory}
use Rattle.pymark_expected.specs.Kinds.{belongs}
use Rattle.pymark_expected.specs.declared.expected.Expected.{Expected}

-- none belongs to want of memory
pub no_memory : (error : RequirementError) (expected : Expected) → belongs error expected ≡ true → error ≡ Memory → ⊥
no_memory error expected is e =
    let none : belongs Memory expected ≡ true = subst (λ (x : RequirementError). belongs x expected ≡ true) e is in
    absurd cc
