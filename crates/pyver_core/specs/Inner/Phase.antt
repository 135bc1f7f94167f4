-- The phase of a version as the code keeps it.
use Rattle.std.specs.Prelude.{ℕ, Option, Some, None}
use Rattle.pyver_core.specs.Version.Order.{letter_rank}
use Rattle.pyver_core.specs.declared.version.part.PreKind.{PreKind}
use Rattle.pyver_core.specs.declared.version.order.Phase.{Phase}
use Rattle.pyver_core.specs.declared.version.order.Phase.TheVariants.{Developmental, Pre, Final}

abbrev pub phase_of : Option (PreKind × ℕ) → Option ℕ → Option ℕ → Phase
phase_of None None (Some dev) = Developmental
phase_of (Some pre) post dev = Pre pre.0 pre.1
phase_of None post dev = Final

-- its rank among the phases, and the number of a pre-release
abbrev pub rank_of : Phase → ℕ
rank_of Developmental = 0
rank_of (Pre kind n) = letter_rank kind
rank_of Final = 4

abbrev pub number_of : Phase → ℕ
number_of Developmental = 0
number_of (Pre kind n) = n
number_of Final = 0
