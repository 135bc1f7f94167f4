use Rattle.std.proofs.Common.{◌≡◌, ◌<◌, ◌≤◌, ◌++◌, ◌∙◌, ◌+◌, arith}
use Rattle.std.proofs.lemmas.Result.{IfOk-weaker}
use Rattle.std.specs.List.{flat_map}
use Rattle.pywheel_core.specs.Target.Platforms.{down, glibc_names, manylinux_platforms}
use Rattle.pywheel_core.specs.Target.Value.{glibc_floor}
use Rattle.pywheel_core.proofs.TargetLemmas.{flat_end, flat_step, linux_last}
use Rattle.pywheel_core.proofs.target.words.Words.with_manylinux.Goals as goal

pub loop-glibc-preserved : goal.loop-glibc-preserved
loop-glibc-preserved c =
    let low : glibc_floor c.args.arch < c.loop-glibc.glibc = omega (arith, c.glibc_floor-glibc-start.ensures, c.loop-glibc-test.true) in
    flat_step (glibc_names c.args.arch) (glibc_floor c.args.arch) c.loop-glibc.glibc c.loop-glibc.words c.in_ok-words.words low c.in_ok-words.ensures ∙ c.loop-glibc.invariant

pub returns : goal.returns
unfolding manylinux_platforms
returns c =
    let low : c.loop-glibc.glibc ≤ glibc_floor c.args.arch = omega (arith, c.glibc_floor-glibc-start.ensures, c.loop-glibc-test.false) in
    let names = flat_map (glibc_names c.args.arch) (down (glibc_floor c.args.arch) (c.args.minor + 1)) in
    let now = flat_end (glibc_names c.args.arch) (glibc_floor c.args.arch) c.loop-glibc.glibc c.loop-glibc.words (c.args.self ++ names) low c.loop-glibc.invariant in
    IfOk-weaker c.with.result _ _ (λ words e. e ∙ linux_last c.args.arch c.name.result.now c.args.self c.loop-glibc.words names c.name.ensures now) c.with.ensures
