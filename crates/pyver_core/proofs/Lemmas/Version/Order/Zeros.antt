-- Zeros at the end of a release make no difference to the order of versions.
use Rattle.std.proofs.Common.{◌≡◌, ℕ, List, ◌++◌, replicate, refl, sym, ap, ◌∙◌}
use Rattle.std.specs.Cmp.Lexicographic.{slice_cmp}
use Rattle.std.specs.Ordering.{nat_cmp}
use Rattle.pyver_core.specs.Version.Order.{release_cmp, version_cmp}
use Rattle.pyver_core.specs.Version.Parts.{Parts}
use Rattle.pyver_core.specs.Inner.Releases.{release_cmp_without_zeros, without_trailing_zeros-append_zeros}
use Rattle.pyver_core.specs.Version.Hashing.{without_trailing_zeros}

pub version_cmp-append_zeros : (v w : Parts) (n : ℕ) → version_cmp (record v { release = v.release ++ replicate n 0 }) w ≡ version_cmp v w
unfolding version_cmp
version_cmp-append_zeros v w n =
    let same : release_cmp (v.release ++ replicate n 0) w.release ≡ release_cmp v.release w.release =
    release_cmp_without_zeros (v.release ++ replicate n 0) w.release
    ∙ ap (λ (xs : List ℕ). slice_cmp nat_cmp xs (without_trailing_zeros w.release)) (without_trailing_zeros-append_zeros v.release n)
    ∙ sym (release_cmp_without_zeros v.release w.release) in
    rw same refl
