use Rattle.std.proofs.Common.{◌≡◌, ◌<◌, ◌≤◌, ◌++◌, ◌∙◌, ◌+◌, arith, map}
use Rattle.std.proofs.lemmas.Result.{IfOk-weaker}
use Rattle.pywheel_core.specs.Target.Platforms.{down, musl_name, musllinux_platforms}
use Rattle.pywheel_core.proofs.TargetLemmas.{map_end, map_step, linux_last}
use Rattle.pywheel_core.proofs.target.words.Words.with_musllinux.Goals as goal

pub loop-musl-preserved : goal.loop-musl-preserved
loop-musl-preserved c =
    map_step (musl_name c.args.arch) 0 c.loop-musl.musl c.loop-musl.words c.in_ok-words.words (omega arith) c.in_ok-words.ensures ∙ c.loop-musl.invariant

pub returns : goal.returns
unfolding musllinux_platforms
returns c =
    let names = map (musl_name c.args.arch) (down 0 (c.args.minor + 1)) in
    let now = map_end (musl_name c.args.arch) 0 c.loop-musl.musl c.loop-musl.words (c.args.self ++ names) (omega arith) c.loop-musl.invariant in
    IfOk-weaker c.with.result _ _ (λ words e. e ∙ linux_last c.args.arch c.name.result.now c.args.self c.loop-musl.words names c.name.ensures now) c.with.ensures
