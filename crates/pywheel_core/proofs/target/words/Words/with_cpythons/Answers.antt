use Rattle.std.proofs.Common.{◌≡◌, ◌++◌, ◌∷◌, [], ◌∙◌, ◌-◌, ap, arith, codes, map}
use Rattle.pywheel_core.specs.Target.Platforms.{down}
use Rattle.pywheel_core.specs.Target.Tags.{cpython_name}
use Rattle.pywheel_core.proofs.TargetLemmas.{map_end, map_step}
use Rattle.pywheel_core.proofs.target.words.Words.with_cpythons.Goals as goal

pub loop-older-preserved : goal.loop-older-preserved
loop-older-preserved c =
    let next = c.in_ok-words.ensures ∙ ap (λ n. c.loop-older.words ++ (codes "cp3" ++ n) ∷ []) c.format.ensures.text in
    map_step cpython_name 2 c.loop-older.older c.loop-older.words c.in_ok-words.words (omega arith) next ∙ c.loop-older.invariant

pub returns : goal.returns
returns c = map_end cpython_name 2 c.loop-older.older c.loop-older.words (c.args.self ++ map cpython_name (down 2 c.args.minor)) (omega arith) c.loop-older.invariant
