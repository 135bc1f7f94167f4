-- The rank of a version: one number of 64 bits, by which versions order that have one. Most have:
-- those without an epoch and a local part, of at most four numbers below 4096, with at most one
-- suffix, and that with a number below 8192.
use Rattle.std.specs.Prelude.{ℕ, ◌+◌, ◌*◌, ◌==◌, ◌&&◌, not, Bool, if◌then◌else◌, List, length}
use Rattle.std.specs.Prelude.{Option, Some, None, nat_lt}
use Rattle.std.specs.List.{fold, list_all}
use Rattle.pyver_core.specs.Version.Order.{letter_rank, with_zeros}
use Rattle.pyver_core.specs.Version.Parts.{Parts}
use Rattle.pyver_core.specs.declared.version.part.PreKind.{PreKind}

-- the release as four numbers, zeros at its end where it has less
abbrev pub four_numbers : List ℕ → List ℕ
four_numbers release = with_zeros 4 release

-- whether these are four numbers below 4096
abbrev pub are_digits : List ℕ → Bool
are_digits numbers = (length numbers == 4) && list_all (λ n. nat_lt n 4096) numbers

-- the number of which they are the digits in base 4096
abbrev pub in_base_4096 : List ℕ → ℕ
in_base_4096 numbers = fold (λ front n. front * 4096 + n) 0 numbers

-- what stands behind the release: its kind, lowest first, and its number; the kind 0 for two
-- suffixes
abbrev pub suffix_of : Option (PreKind × ℕ) → Option ℕ → Option ℕ → ℕ × ℕ
suffix_of None None (Some dev) = (1, dev)
suffix_of (Some pre) None None = (letter_rank pre.0 + 1, pre.1)
suffix_of None None None = (5, 0)
suffix_of None (Some post) None = (6, post)
suffix_of (Some pre) None (Some dev) = (0, 0)
suffix_of (Some pre) (Some post) dev = (0, 0)
suffix_of None (Some post) (Some dev) = (0, 0)

-- whether a kind is one, with a number below 8192
abbrev pub is_one_suffix : ℕ × ℕ → Bool
is_one_suffix suffix = not (suffix.0 == 0) && nat_lt suffix.1 8192

abbrev pub has_rank : Parts → Bool
has_rank v = (v.epoch == 0) && ((length v.local == 0)
    && (is_one_suffix (suffix_of v.pre v.post v.dev) && are_digits (four_numbers v.release)))

-- the release in four times 12 bits, the kind in 3 and the number in 13; 0 for a version that has
-- no rank, which no rank is
unfoldable pub rank_of : Parts → ℕ
rank_of v =
    let suffix = suffix_of v.pre v.post v.dev in
    if has_rank v
    then (in_base_4096 (four_numbers v.release) * 8 + suffix.0) * 8192 + suffix.1
    else 0
