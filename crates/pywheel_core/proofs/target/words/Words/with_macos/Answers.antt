use Rattle.std.proofs.Common.{◌≡◌, ◌++◌, ◌∙◌, ◌+◌, ap, arith, nat_lt, true, false}
use Rattle.std.proofs.lemmas.Bool.Decides.{nat_tests}
use Rattle.std.proofs.lemmas.List.{append_assoc}
use Rattle.std.proofs.lemmas.Result.{IfOk-weaker}
use Rattle.std.specs.List.{flat_map}
use Rattle.pywheel_core.specs.Target.Platforms.{down, mac_names, mac_platforms, old_mac_platforms}
use Rattle.pywheel_core.proofs.TargetLemmas.{flat_end, flat_step}
use Rattle.pywheel_core.proofs.target.words.Words.with_macos.Goals as goal

pub loop-version-preserved : goal.loop-version-preserved
loop-version-preserved c =
    flat_step (λ version. mac_names c.args.arch version 0) 11 c.loop-version.version c.loop-version.words c.in_ok-words.words (omega arith) c.in_ok-words.ensures ∙ c.loop-version.invariant

pub returns : goal.returns
unfolding mac_platforms
returns c =
    let names = flat_map (λ version. mac_names c.args.arch version 0) (down 11 (c.args.major + 1)) in
    let test : nat_lt c.args.major 11 ≡ false = grind (arith, nat_tests) in
    let now = flat_end (λ version. mac_names c.args.arch version 0) 11 c.loop-version.version c.loop-version.words (c.args.self ++ names) (omega arith) c.loop-version.invariant in
    rw test (IfOk-weaker c.with_old_macos-2.result _ _ (λ words e. e ∙ ap (λ t. t ++ old_mac_platforms c.args.arch 17) now ∙ append_assoc c.args.self names (old_mac_platforms c.args.arch 17)) c.with_old_macos-2.ensures)
