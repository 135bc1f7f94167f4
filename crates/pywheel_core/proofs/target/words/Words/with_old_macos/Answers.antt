use Rattle.std.proofs.Common.{◌≡◌, ◌++◌, ◌∙◌, arith}
use Rattle.std.specs.List.{flat_map}
use Rattle.pywheel_core.specs.Target.Platforms.{down, mac_names}
use Rattle.pywheel_core.proofs.TargetLemmas.{flat_end, flat_step}
use Rattle.pywheel_core.proofs.target.words.Words.with_old_macos.Goals as goal

pub loop-minor-preserved : goal.loop-minor-preserved
loop-minor-preserved c =
    flat_step (mac_names c.args.arch 10) 4 c.loop-minor.minor c.loop-minor.words c.in_ok-words.words (omega arith) c.in_ok-words.ensures ∙ c.loop-minor.invariant

pub returns : goal.returns
returns c = flat_end (mac_names c.args.arch 10) 4 c.loop-minor.minor c.loop-minor.words (c.args.self ++ flat_map (mac_names c.args.arch 10) (down 4 c.args.end)) (omega arith) c.loop-minor.invariant
