use Rattle.pywheel_core.proofs.TargetLemmas.{older_none, older_some}
use Rattle.std.proofs.lemmas.Result.{IfOk-weaker}
use Rattle.pywheel_core.proofs.target.words.Words.with_glibc.Goals as goal

pub returns-in-Some : goal.returns-in-Some
returns-in-Some c = IfOk-weaker c.with-in-Some.result _ _ (λ next. older_some c.args.arch c.args.minor c.format-number.result.now c.name.result.now c.name-in-Some.result.now
    c.in-Some.older.now c.args.self c.in_ok-words.words next c.format-number.ensures.text c.name.ensures c.name-in-Some.ensures c.in-Some.ensures c.in_ok-words.ensures) c.with-in-Some.ensures

pub returns-in-None : goal.returns-in-None
returns-in-None c = older_none c.args.arch c.args.minor c.format-number.result.now c.name.result.now c.args.self c.in_ok-words.words
    c.format-number.ensures.text c.name.ensures c.in-None.ensures c.in_ok-words.ensures
