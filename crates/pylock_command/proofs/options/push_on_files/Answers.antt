use Rattle.std.proofs.Common.{◌<◌, length, rules, refl}
use Rattle.clap.specs.Words.{found_of, rows_of}
use Rattle.pylock_command.proofs.PlanOptionLemmas.{all-merged, source-merged, wheel-merged}
use Rattle.pylock_command.proofs.options.push_on_files.Goals as goal

pub loop-wheel-preserved-then-is_first : goal.loop-wheel-preserved-then-is_first
loop-wheel-preserved-then-is_first c =
    let within : c.loop-wheel.wheel < length c.texts-wheels.result.now = search rules in
    wheel-merged c.texts-wheels.result.now c.texts-sources.result.now c.loop-wheel.wheel c.loop-wheel.source _ _ c.loop-wheel.list.items c.push.new.self.items _
    c.loop-wheel.invariant c.in_ok-push.ensures.items within refl

pub loop-wheel-preserved : goal.loop-wheel-preserved
loop-wheel-preserved c =
    let within : c.loop-wheel.source < length c.texts-sources.result.now = search rules in
    source-merged c.texts-wheels.result.now c.texts-sources.result.now c.loop-wheel.wheel c.loop-wheel.source _ _ c.loop-wheel.list.items c.push-else-is_first.new.self.items _
    c.loop-wheel.invariant c.in_ok-push-2.ensures.items within refl

pub returns : goal.returns
returns c =
    all-merged c.texts-wheels.result.now c.texts-sources.result.now c.loop-wheel.wheel c.loop-wheel.source _ c.loop-wheel.list.items (rows_of (found_of c.args.found.now)) c.loop-wheel.invariant
    c.if-wheel-wheels.false c.if-source-sources.false c.texts-wheels.ensures c.texts-sources.ensures
