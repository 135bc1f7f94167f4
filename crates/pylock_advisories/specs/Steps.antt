-- The schema's evaluation of a range ("Evaluation", IncludedInRanges): its events in order, each of
-- which makes a version vulnerable or ends that. The law `steps_agree` says that it includes the
-- same versions.
use Rattle.std.specs.Prelude.{◌&&◌, Bool, true, false, List, [], ◌∷◌, Option, Some, None}
use Rattle.std.specs.Prelude.{filter_map, if◌then◌else◌}
use Rattle.std.specs.List.{fold, list_all, list_any}
use Rattle.pyver_core.specs.Version.Order.{is_before}
use Rattle.pyver_core.specs.Version.Parts.{Parts}
use Rattle.pylock_advisories.specs.Advisory.{RangeValue}
use Rattle.pylock_advisories.specs.Evaluation.{has_reached}

-- an event; `from_start` is `introduced` `0`
pub data Event : Type 0 where
  from_start : Event
  introduced : Parts → Event
  fixed : Parts → Event
  last_affected : Parts → Event

-- whether v is vulnerable behind an event, by whether it was so before it
abbrev pub step : Parts → Bool → Event → Bool
step v before from_start = true
step v before (introduced e) = if has_reached e v then true else before
step v before (fixed f) = if has_reached f v then false else before
step v before (last_affected l) = if is_before l v then false else before

-- whether it is vulnerable behind all of them
abbrev pub is_vulnerable : Parts → List Event → Bool
is_vulnerable v events = fold (step v) false events

-- the one may stand before the other: by their versions, and at one version `fixed` before
-- `introduced` before `last_affected`
abbrev pub may_precede : Event → Event → Bool
may_precede from_start f = true
may_precede (introduced d) from_start = false
may_precede (introduced d) (introduced e) = has_reached d e
may_precede (introduced d) (fixed f) = is_before d f
may_precede (introduced d) (last_affected l) = has_reached d l
may_precede (fixed f) from_start = false
may_precede (fixed f) (introduced e) = has_reached f e
may_precede (fixed f) (fixed g) = has_reached f g
may_precede (fixed f) (last_affected l) = has_reached f l
may_precede (last_affected l) from_start = false
may_precede (last_affected l) (introduced e) = is_before l e
may_precede (last_affected l) (fixed f) = is_before l f
may_precede (last_affected l) (last_affected m) = has_reached l m

-- each event may stand before those behind it
abbrev pub are_in_order : List Event → Bool
are_in_order [] = true
are_in_order (e ∷ es) = list_all (may_precede e) es && are_in_order es

-- the versions of a kind of event
abbrev pub is_start : Event → Bool
is_start from_start = true
is_start (introduced e) = false
is_start (fixed f) = false
is_start (last_affected l) = false

abbrev pub introduced_at : Event → Option Parts
introduced_at from_start = None
introduced_at (introduced e) = Some e
introduced_at (fixed f) = None
introduced_at (last_affected l) = None

abbrev pub fixed_at : Event → Option Parts
fixed_at from_start = None
fixed_at (introduced e) = None
fixed_at (fixed f) = Some f
fixed_at (last_affected l) = None

abbrev pub last_affected_at : Event → Option Parts
last_affected_at from_start = None
last_affected_at (introduced e) = None
last_affected_at (fixed f) = None
last_affected_at (last_affected l) = Some l

-- the range that has these events, and no limit
abbrev pub range_with : List Event → RangeValue
range_with events = record {
  is_from_start = list_any is_start events;
  introduced = filter_map introduced_at events;
  fixed = filter_map fixed_at events;
  last_affected = filter_map last_affected_at events;
  is_unlimited = false;
  limits = [];
}
