-- The choice of a wheel (PEP 425, "Use"; PEP 427, "File name convention", on the build tag): of the
-- wheels with a tag in the list, the one whose best tag stands first there; then the greater build;
-- then the earlier position.
use Rattle.std.specs.Prelude.{◌≡◌, ◌≢◌, ◌⊎◌, ℕ, suc, ◌<◌, ◌≤◌, Bool, ◌==◌, ◌&&◌, ◌||◌, nat_lt}
use Rattle.std.specs.Prelude.{if◌then◌else◌, List, [], ◌∷◌, slice_get, Option, Some, None}
use Rattle.std.specs.Prelude.{option_map}
use Rattle.std.specs.List.{Contains}
use Rattle.std.specs.Ordering.{is_lt}
use Rattle.std.specs.declared.cmp.Ordering.TheVariants.{Less, Equal}
use Rattle.pywheel_core.specs.Tag.{TagValue, rank_of}
use Rattle.pywheel_core.specs.Wheel.Build.{builds_cmp}
use Rattle.pywheel_core.specs.Wheel.Value.{WheelValue}

-- ---- the statement, over pairs of positions

-- the least position in the list of a tag among these
pub record IsRank (own tags : List TagValue) (rank : ℕ) : Type 0 where
  pub stands : (t : TagValue) × Contains own t × (rank_of t tags ≡ Some rank)
  pub least : (t : TagValue) (s : ℕ) → Contains own t → rank_of t tags ≡ Some s → rank ≤ s

-- a wheel stands there, and this is its rank
abbrev pub IsCompatible : List (Option WheelValue) → List TagValue → ℕ → WheelValue → ℕ → Type 0
IsCompatible wheels tags position w rank =
    (slice_get wheels position ≡ Some (Some w)) × IsRank w.tags tags rank

-- a wheel, its rank and its position; another comes behind it: a greater rank, or the same rank and
-- a lesser build, or the same rank and build and a later position
pub record Ranked : Type 0 where
  pub rank : ℕ
  pub build : Option (List ℕ)
  pub place : ℕ

abbrev pub ComesBehind : Ranked → Ranked → Type 0
ComesBehind best other = (best.rank < other.rank)
    ⊎ (((best.rank ≡ other.rank) × (builds_cmp other.build best.build ≡ Less))
    ⊎ ((best.rank ≡ other.rank) × (builds_cmp other.build best.build ≡ Equal)
    × (best.place < other.place)))

-- the best position is a compatible one, and every other compatible position comes behind it; no
-- position is best where none is compatible
abbrev pub IsBest : List (Option WheelValue) → List TagValue → Option ℕ → Type 0
IsBest wheels tags None =
    (position : ℕ) (w : WheelValue) (rank : ℕ) → IsCompatible wheels tags position w rank → ⊥
IsBest wheels tags (Some position) =
    (w : WheelValue) × (rank : ℕ) × IsCompatible wheels tags position w rank
    × ((other : ℕ) (v : WheelValue) (rank2 : ℕ) → IsCompatible wheels tags other v rank2
    → other ≢ position → ComesBehind (record { rank = rank; build = w.build; place = position })
    (record { rank = rank2; build = v.build; place = other }))

-- ---- the one answer, as a function: the law `one_best_wheel`

-- the lesser of two ranks, of which either may be absent
abbrev pub least_rank : Option ℕ → Option ℕ → Option ℕ
least_rank None other = other
least_rank (Some rank) None = Some rank
least_rank (Some rank) (Some other) = if nat_lt other rank then Some other else Some rank

-- the least of a rank and those of the tags
unfoldable pub rank_from : Option ℕ → List TagValue → List TagValue → Option ℕ
rank_from rank [] tags = rank
rank_from rank (t ∷ own) tags = rank_from (least_rank rank (rank_of t tags)) own tags

-- the wheel that stands at a position, where one does and is compatible
unfoldable pub ranked : ℕ → Option WheelValue → List TagValue → Option Ranked
ranked position None tags = None
ranked position (Some w) tags =
    option_map (λ rank. record { rank = rank; build = w.build; place = position })
    (rank_from None w.tags tags)

-- whether a later wheel is better: a lesser rank, or the same rank and a greater build
abbrev pub is_better : Ranked → Ranked → Bool
is_better later first = nat_lt later.rank first.rank
    || ((later.rank == first.rank) && is_lt (builds_cmp first.build later.build))

-- the better of two, of which either may be absent
abbrev pub better : Option Ranked → Option Ranked → Option Ranked
better None later = later
better (Some first) None = Some first
better (Some first) (Some later) = if is_better later first then Some later else Some first

-- the best of one and of the wheels from a position on
unfoldable pub best_from : Option Ranked → ℕ → List (Option WheelValue) → List TagValue
    → Option Ranked
best_from first position [] tags = first
best_from first position (w ∷ wheels) tags =
    best_from (better first (ranked position w tags)) (suc position) wheels tags

-- the position of the best wheel
unfoldable pub best : List (Option WheelValue) → List TagValue → Option ℕ
best wheels tags = option_map (λ r. r.place) (best_from None 0 wheels tags)
