use Rattle.std.proofs.Common.{rules, tests, ◌∙◌, sym}
use Rattle.std.proofs.lemmas.Iterator.{YieldsList-from_slice}
use Rattle.std.proofs.lemmas.Iterator.Search.{all_from_yields_List}
use Rattle.std.proofs.lemmas.List.Folds.{list_all-map}
use Rattle.pylock_installed.specs.Steps.{is_keep, lent_step}
use Rattle.pylock_installed.proofs.step.is_done.Goals as goal

pub returns : goal.returns
returns c =
    all_from_yields_List (λ step. is_keep (lent_step step)) _ _ c.all.result c.all.ensures.ran (YieldsList-from_slice c.args.steps.now cc) (λ x b q k. search (rules, tests))
    ∙ sym (list_all-map is_keep lent_step c.args.steps.now)
