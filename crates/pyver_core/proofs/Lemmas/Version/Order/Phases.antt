-- The phase that the code keeps has the rank and the number of the definition.
use Rattle.std.proofs.Common.{◌≡◌, ℕ, Option, Some, None, refl}
use Rattle.pyver_core.specs.Version.Order.{phase_number, phase_rank}
use Rattle.pyver_core.specs.Inner.Phase.{number_of, phase_of, rank_of}
use Rattle.pyver_core.specs.declared.version.part.PreKind.{PreKind}

pub rank_is : (pre : Option (PreKind × ℕ)) (post dev : Option ℕ) → rank_of (phase_of pre post dev) ≡ phase_rank pre post dev
rank_is None None (Some d) = refl
rank_is pre post dev = refl

pub number_is : (pre : Option (PreKind × ℕ)) (post dev : Option ℕ) → number_of (phase_of pre post dev) ≡ phase_number pre
number_is None None (Some d) = refl
number_is pre post dev = refl

pub ruleset phases = (rank_is, number_is)
