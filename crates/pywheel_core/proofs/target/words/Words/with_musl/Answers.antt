use Rattle.std.proofs.Common.{◌≡◌, ◌++◌, ◌∷◌, [], ◌∙◌, codes}
use Rattle.std.proofs.lemmas.Result.{IfOk-weaker}
use Rattle.pywheel_core.proofs.target.words.Words.with_musl.Goals as goal

pub returns : goal.returns
returns c = IfOk-weaker c.with.result _ _ (λ words e. e ∙ (λ i. c.args.self ++ (codes "musllinux_1_" ++ (c.format.ensures.text i ++ (codes "_" ++ c.name.ensures i))) ∷ [])) c.with.ensures
