-- The last version that was introduced at or below another.
use Rattle.std.specs.Prelude.{◌&&◌, ◌||◌, Bool, false, not, List, Option, Some, None}
use Rattle.std.specs.Prelude.{if◌then◌else◌}
use Rattle.std.specs.List.{fold, list_any}
use Rattle.pyver_core.specs.Version.Order.{is_before}
use Rattle.pyver_core.specs.Version.Parts.{Parts}
use Rattle.pylock_advisories.specs.Advisory.{RangeValue}
use Rattle.pylock_advisories.specs.Evaluation.{fixes, has_reached, is_last}

-- the later of the two, of those at or below v
abbrev pub later : Parts → Option Parts → Parts → Option Parts
later v None e = if has_reached e v then Some e else None
later v (Some best) e = if has_reached e v && is_before best e then Some e else Some best

-- the last of those at or below v
abbrev pub latest : Parts → List Parts → Option Parts
latest v versions = fold (later v) None versions

-- nothing ends for v what was introduced at one of these
abbrev pub is_open_from_some : Parts → RangeValue → Option Parts → Bool
is_open_from_some v r None = false
is_open_from_some v r (Some e) =
    not (list_any (fixes e v) r.fixed || list_any (is_last e v) r.last_affected)

-- nothing ends for v what was introduced last
abbrev pub is_open_from_latest : Parts → RangeValue → Bool
is_open_from_latest v r = is_open_from_some v r (latest v r.introduced)
