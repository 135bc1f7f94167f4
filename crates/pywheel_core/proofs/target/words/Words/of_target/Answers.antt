use Rattle.std.proofs.Common.{◌≡◌, ◌++◌, ◌∷◌, [], ◌∙◌, ap, sym, true}
use Rattle.std.proofs.lemmas.List.{append_assoc}
use Rattle.std.proofs.lemmas.Result.{IfOk-weaker}
use Rattle.pywheel_core.specs.Inner.TargetWords.{abi_words, python_words, target_words}
use Rattle.pywheel_core.specs.Target.Platforms.{platforms_of}
use Rattle.pywheel_core.specs.Target.Tags.{any_platform, older_cpythons}
use Rattle.pywheel_core.specs.Target.Value.{is_platform}
use Rattle.pywheel_core.proofs.TargetLemmas.{five_joined, platform_there}
use Rattle.pywheel_core.proofs.target.words.Words.of_target.Goals as goal

pub with_platforms-requires : goal.with_platforms-requires
with_platforms-requires c = ap is_platform c.platform.ensures.platform ∙ platform_there c.args.target.now c.platform.ensures.known

pub returns : goal.returns
unfolding target_words
returns c = IfOk-weaker c.with_platforms.result _ _ (λ words e.
    five_joined _ _ _ _ _ c.none.result c.in_ok-with_abis.field-0 c.in_ok-with.field-0 c.in_ok-with_cpythons.field-0 c.in_ok-with_pythons.field-0 words
    c.none.ensures c.in_ok-with_abis.ensures c.in_ok-with.ensures c.in_ok-with_cpythons.ensures c.in_ok-with_pythons.ensures e
    ∙ (λ i. abi_words (c.python-python.ensures.python i) ++ (any_platform ∷ [] ++ (older_cpythons (c.python-python.ensures.python i).minor
    ++ (python_words (c.python-python.ensures.python i).minor ++ platforms_of (c.platform.ensures.platform i)))))) c.with_platforms.ensures
