-- Equal versions are hashed alike.
use Rattle.std.proofs.Common.{◌≡◌, ℕ, ◌==◌, ◌++◌, Option, Some, None, true, refl, sym, ap, ◌∙◌}
use Rattle.std.proofs.Common.{if◌then◌else◌}
use Rattle.std.specs.Cmp.{Equal-is}
use Rattle.std.specs.FinMap.{IsAntisymmetric, nat_cmp-IsAntisymmetric, slice_cmp-IsAntisymmetric}
use Rattle.std.specs.Hash as fed
use Rattle.std.specs.Option.{option_cmp}
use Rattle.std.specs.Ordering.{eq_by_cmp, nat_cmp, ordering_then}
use Rattle.std.specs.declared.cmp.Ordering.{Ordering}
use Rattle.std.specs.declared.cmp.Ordering.TheVariants.{Less, Equal, Greater}
use Rattle.pyver_core.specs.Version.Hashing.{pre_input, segment_input, version_input}
use Rattle.pyver_core.specs.Version.Hashing.{without_trailing_zeros}
use Rattle.pyver_core.specs.Version.Order.{dev_cmp, phase_number, phase_rank, segment_cmp}
use Rattle.pyver_core.specs.Version.Order.{version_cmp}
use Rattle.pyver_core.specs.Version.Parts.{Parts}
use Rattle.pyver_core.specs.Inner.Releases.{release_cmp_without_zeros}
use Rattle.pyver_core.specs.declared.version.part.LocalPart.TheVariants.{Number, Text}
use Rattle.pyver_core.specs.declared.version.part.PreKind.{PreKind}
use Rattle.pyver_core.specs.declared.version.part.PreKind.TheVariants.{A, B, Rc}

-- what a tie of two comparisons in turn says of each
then_first : (r s : Ordering) → ordering_then r s ≡ Equal → r ≡ Equal
then_first Equal s e = refl
then_first r s e = cc e

then_second : (r s : Ordering) → ordering_then r s ≡ Equal → s ≡ Equal
then_second Equal s e = e
then_second r s e = cc e

option_cmp-tie : IsAntisymmetric (option_cmp nat_cmp)
option_cmp-tie None None e = refl
option_cmp-tie (Some m) (Some n) e = ap Some (nat_cmp-IsAntisymmetric m n e)
option_cmp-tie a b e = cc e

dev_cmp-tie : IsAntisymmetric dev_cmp
dev_cmp-tie None None e = refl
dev_cmp-tie (Some m) (Some n) e = ap Some (nat_cmp-IsAntisymmetric m n e)
dev_cmp-tie a b e = cc e

segment_cmp-tie : IsAntisymmetric segment_cmp
segment_cmp-tie (Number m) (Number n) e = ap Number (nat_cmp-IsAntisymmetric m n e)
segment_cmp-tie (Text a) (Text b) e =
    ap Text (slice_cmp-IsAntisymmetric nat_cmp-IsAntisymmetric a b e)
segment_cmp-tie a b e = cc e

-- the pre-release that has this rank among the phases and this number
abbrev pre_of : ℕ → ℕ → Option (PreKind × ℕ)
pre_of rank n =
    if rank == 1 then Some (A, n)
    else if rank == 2 then Some (B, n)
    else if rank == 3 then Some (Rc, n)
    else None

phase_read_back : (p : Option (PreKind × ℕ)) (post dev : Option ℕ)
    → pre_of (phase_rank p post dev) (phase_number p) ≡ p
phase_read_back None None (Some d) = refl
phase_read_back (Some (A, n)) post dev = refl
phase_read_back p post dev = refl

-- equal versions have the same parts, but for zeros at the end of the release
pub record IsSameButZeros (v w : Parts) : Type 0 where
  pub epoch : v.epoch ≡ w.epoch
  pub release : without_trailing_zeros v.release ≡ without_trailing_zeros w.release
  pub pre : v.pre ≡ w.pre
  pub post : v.post ≡ w.post
  pub dev : v.dev ≡ w.dev
  pub local : v.local ≡ w.local

pub version_cmp-Equal : (v w : Parts) → version_cmp v w ≡ Equal → IsSameButZeros v w
unfolding version_cmp
version_cmp-Equal v w e =
    let e1 = then_second _ _ e in
    let e2 = then_second _ _ e1 in
    let e3 = then_second _ _ e2 in
    let e4 = then_second _ _ e3 in
    let e5 = then_second _ _ e4 in
    let e6 = then_second _ _ e5 in
    let post : v.post ≡ w.post = option_cmp-tie _ _ (then_first _ _ e4) in
    let dev : v.dev ≡ w.dev = dev_cmp-tie _ _ (then_first _ _ e5) in
    let number : phase_number v.pre ≡ phase_number w.pre =
    nat_cmp-IsAntisymmetric _ _ (then_first _ _ e3) in
    let rank : phase_rank v.pre v.post v.dev ≡ phase_rank w.pre w.post w.dev =
    nat_cmp-IsAntisymmetric _ _ (then_first _ _ e2) in
    let released = sym (release_cmp_without_zeros v.release w.release) ∙ then_first _ _ e1 in
    record {
      epoch = nat_cmp-IsAntisymmetric _ _ (then_first _ _ e);
      release = slice_cmp-IsAntisymmetric nat_cmp-IsAntisymmetric _ _ released;
      pre = sym (phase_read_back v.pre v.post v.dev) ∙ (λ i. pre_of (rank i) (number i))
          ∙ phase_read_back w.pre w.post w.dev;
      post = post;
      dev = dev;
      local = slice_cmp-IsAntisymmetric segment_cmp-tie _ _ (then_first _ _ e6);
    }

-- the law of `Hash`
pub alike : (v w : Parts) → eq_by_cmp version_cmp v w ≡ true → version_input v ≡ version_input w
unfolding version_input
alike v w e =
    let s = version_cmp-Equal v w ((Equal-is (version_cmp v w)).0 e) in
    λ i. fed.u128 (s.epoch i) ++ (fed.slice fed.u128 (s.release i)
    ++ (fed.option pre_input (s.pre i) ++ (fed.option fed.u128 (s.post i)
    ++ (fed.option fed.u128 (s.dev i) ++ fed.slice segment_input (s.local i)))))
