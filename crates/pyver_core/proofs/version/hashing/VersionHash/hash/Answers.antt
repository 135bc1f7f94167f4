use Rattle.std.proofs.Common.{◌≡◌, ◌++◌, ap, ◌∙◌}
use Rattle.std.specs.Hash as fed
use Rattle.std.specs.List.{fold}
use Rattle.pyver_core.specs.Version.Hashing.{pre_input, segment_input, version_input}
use Rattle.pyver_core.specs.Version.Hashing.{without_trailing_zeros}
use Rattle.pyver_core.proofs.Lemmas.Version.Hashing.Inputs.{hash_input-pre, hash_input-segment}
use Rattle.pyver_core.proofs.version.hashing.VersionHash.hash.Goals as goal

-- the parts, one after the other
pub returns : goal.returns
unfolding version_input
returns g c =
    let write = g.H.Hasher.write in
    let v = c.args.self.now in
    let epoch : c.hash.new.state ≡ fold write c.args.state.now (fed.u128 v.epoch) =
    c.hash.ensures ∙ ap (λ n. fold write c.args.state.now (fed.u128 n)) c.epoch.ensures in
    let release : c.hash-2.new.state ≡ fold write c.hash.new.state (fed.slice fed.u128 (without_trailing_zeros v.release)) =
    c.hash-2.ensures ∙ ap (λ ns. fold write c.hash.new.state (fed.slice fed.u128 ns))
    (c.without_trailing_zeros.ensures ∙ ap without_trailing_zeros c.release.ensures.value) in
    let pre : c.hash-3.new.state ≡ fold write c.hash-2.new.state (fed.option pre_input v.pre) =
    c.hash-3.ensures ∙ (λ i. fold write c.hash-2.new.state (fed.option (λ p. hash_input-pre p i) (c.pre.ensures i))) in
    let post : c.hash-4.new.state ≡ fold write c.hash-3.new.state (fed.option fed.u128 v.post) =
    c.hash-4.ensures ∙ ap (λ n. fold write c.hash-3.new.state (fed.option fed.u128 n)) c.post.ensures in
    let dev : c.hash-5.new.state ≡ fold write c.hash-4.new.state (fed.option fed.u128 v.dev) =
    c.hash-5.ensures ∙ ap (λ n. fold write c.hash-4.new.state (fed.option fed.u128 n)) c.dev.ensures in
    let segments : c.hash-6.new.state ≡ fold write c.hash-5.new.state (fed.slice segment_input v.local) =
    c.hash-6.ensures ∙ (λ i. fold write c.hash-5.new.state (fed.slice (λ s. hash_input-segment s i) (c.local.ensures i))) in
    let last = c.hash-6.new.state in
    let from_dev = fed.option fed.u128 v.dev ++ fed.slice segment_input v.local in
    let from_post = fed.option fed.u128 v.post ++ from_dev in
    let from_pre = fed.option pre_input v.pre ++ from_post in
    let from_release = fed.slice fed.u128 (without_trailing_zeros v.release) ++ from_pre in
    fed.fed_then write c.args.state.now c.hash.new.state last (fed.u128 v.epoch) from_release epoch
    (fed.fed_then write c.hash.new.state c.hash-2.new.state last (fed.slice fed.u128 (without_trailing_zeros v.release)) from_pre release
    (fed.fed_then write c.hash-2.new.state c.hash-3.new.state last (fed.option pre_input v.pre) from_post pre
    (fed.fed_then write c.hash-3.new.state c.hash-4.new.state last (fed.option fed.u128 v.post) from_dev post
    (fed.fed_then write c.hash-4.new.state c.hash-5.new.state last (fed.option fed.u128 v.dev) (fed.slice segment_input v.local) dev segments))))
