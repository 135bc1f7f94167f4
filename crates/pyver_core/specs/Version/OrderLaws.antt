-- The order of versions is total. The laws of `Ord` cite this.
use Rattle.std.proofs.Common.{◌≡◌, ℕ, List, [], Option, Some, None, refl, sym, subst}
use Rattle.std.specs.Ordering.{nat_cmp, on, ordering_then, then_cmp}
use Rattle.std.specs.Option.{option_cmp}
use Rattle.std.specs.Cmp.{IsTotalOrder, nat_cmp_total, on_total, then_total}
use Rattle.std.specs.Cmp.Lexicographic.{lists_total, nat_list_cmp_total, options_total, slice_cmp}
use Rattle.std.specs.declared.cmp.Ordering.{Ordering}
use Rattle.std.specs.declared.cmp.Ordering.TheVariants.{Less, Equal, Greater}
use Rattle.pyver_core.specs.Version.Order.{dev_cmp, phase_number, phase_rank, release_cmp}
use Rattle.pyver_core.specs.Version.Order.{segment_cmp, version_cmp}
use Rattle.pyver_core.specs.Version.Parts.{Parts}
use Rattle.pyver_core.specs.Inner.Releases.{release_cmp_without_zeros}
use Rattle.pyver_core.specs.Version.Hashing.{without_trailing_zeros}
use Rattle.pyver_core.specs.declared.version.part.LocalPart.{LocalPart}
use Rattle.pyver_core.specs.declared.version.part.LocalPart.TheVariants.{Number, Text}

-- an order that answers as a total one does is total
total_along : {K : Type 0} (R S : K → K → Ordering) → IsTotalOrder S
    → ((x y : K) → R x y ≡ S x y) → IsTotalOrder R
total_along R S total same = subst IsTotalOrder (λ i x y. sym (same x y) i) total

pub release_total : IsTotalOrder release_cmp
release_total = total_along release_cmp (on without_trailing_zeros (slice_cmp nat_cmp))
    (on_total without_trailing_zeros nat_list_cmp_total) release_cmp_without_zeros

-- 0 for a developmental release, which stands first, and 1 for none
abbrev dev_rank : Option ℕ → ℕ
dev_rank (Some n) = 0
dev_rank None = 1

dev_cmp-ranks : (a b : Option ℕ)
    → dev_cmp a b ≡ then_cmp (on dev_rank nat_cmp) (option_cmp nat_cmp) a b
dev_cmp-ranks (Some m) (Some n) = refl
dev_cmp-ranks a (Some n) = refl
dev_cmp-ranks a b = refl

pub dev_total : IsTotalOrder dev_cmp
dev_total = total_along dev_cmp (then_cmp (on dev_rank nat_cmp) (option_cmp nat_cmp))
    (then_total (on_total dev_rank nat_cmp_total) (options_total nat_cmp_total)) dev_cmp-ranks

-- a segment's rank in the order: 0 and its text, or 1 and its number
abbrev segment_ranks : LocalPart → ℕ × ℕ × List ℕ
segment_ranks (Text text) = (0, 0, text)
segment_ranks (Number n) = (1, n, [])

abbrev segment_rank_cmp : LocalPart → LocalPart → Ordering
segment_rank_cmp = then_cmp (on (λ (s : LocalPart). (segment_ranks s).0) nat_cmp)
    (then_cmp (on (λ (s : LocalPart). (segment_ranks s).1) nat_cmp)
    (on (λ (s : LocalPart). (segment_ranks s).2) (slice_cmp nat_cmp)))

pub then-Equal : (r : Ordering) → ordering_then r Equal ≡ r
then-Equal Less = refl
then-Equal r = refl

segment_cmp-ranks : (a b : LocalPart) → segment_cmp a b ≡ segment_rank_cmp a b
segment_cmp-ranks (Number m) (Number n) = sym (then-Equal (nat_cmp m n))
segment_cmp-ranks a (Number n) = refl
segment_cmp-ranks a b = refl

pub segment_total : IsTotalOrder segment_cmp
segment_total = total_along segment_cmp segment_rank_cmp
    (then_total (on_total (λ (s : LocalPart). (segment_ranks s).0) nat_cmp_total)
    (then_total (on_total (λ (s : LocalPart). (segment_ranks s).1) nat_cmp_total)
    (on_total (λ (s : LocalPart). (segment_ranks s).2) nat_list_cmp_total)))
    segment_cmp-ranks

-- the comparisons in turn, the phase by its rank and its number; behind them all are equal
pub version_total : IsTotalOrder version_cmp
unfolding version_cmp
version_total = then_total (on_total (λ (v : Parts). v.epoch) nat_cmp_total)
    (then_total (on_total (λ (v : Parts). v.release) release_total)
    (then_total (on_total (λ (v : Parts). phase_rank v.pre v.post v.dev) nat_cmp_total)
    (then_total (on_total (λ (v : Parts). phase_number v.pre) nat_cmp_total)
    (then_total (on_total (λ (v : Parts). v.post) (options_total nat_cmp_total))
    (then_total (on_total (λ (v : Parts). v.dev) dev_total)
    (then_total (on_total (λ (v : Parts). v.local) (lists_total segment_total))
    (on_total (λ (v : Parts). 0) nat_cmp_total)))))))
