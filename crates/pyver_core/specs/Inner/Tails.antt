-- What stands behind the epoch and the release of a version.
use Rattle.std.specs.Prelude.{[], ◌∷◌}
use Rattle.std.specs.Ordering.{nat_cmp}
use Rattle.std.specs.Option.{option_cmp}
use Rattle.std.specs.Cmp.Lexicographic.{slice_cmp}
use Rattle.std.specs.declared.cmp.Ordering.{Ordering}
use Rattle.pyver_core.specs.Version.Order.{cmp_in_turn, dev_cmp, phase_number, phase_rank}
use Rattle.pyver_core.specs.Version.Order.{segment_cmp}
use Rattle.pyver_core.specs.Version.Parts.{Parts}

-- the rest of `version_cmp`: the phase, the post-release, the developmental release and the local
-- part
unfoldable pub tail_cmp : Parts → Parts → Ordering
tail_cmp v w = cmp_in_turn (
    nat_cmp (phase_rank v.pre v.post v.dev) (phase_rank w.pre w.post w.dev)
    ∷ nat_cmp (phase_number v.pre) (phase_number w.pre)
    ∷ option_cmp nat_cmp v.post w.post
    ∷ dev_cmp v.dev w.dev
    ∷ slice_cmp segment_cmp v.local w.local
    ∷ [])
