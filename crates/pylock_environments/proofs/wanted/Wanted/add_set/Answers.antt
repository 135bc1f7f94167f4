use Rattle.std.proofs.Common.{◌∙◌, ap, sym, true}
use Rattle.std.specs.Option.{option_copied}
use Rattle.std.proofs.lemmas.List.Elements.{All-same}
use Rattle.pylock_core.specs.Session.Steps.{python_check}
use Rattle.pymark_algebra.specs.Questions.{PythonSays}
use Rattle.pylock_environments.proofs.AskingLemmas.{on_ok}
use Rattle.pylock_environments.proofs.WantedLemmas.{each_admits}
use Rattle.pylock_environments.proofs.wanted.Wanted.add_set.Goals as goal

pub returns-in-Some : goal.returns-in-Some
returns-in-Some c =
    on_ok c.add_specifiers.result
    (λ follows e wanted check. follows e wanted
    (All-same (λ s. PythonSays e s true) c.items.result.now c.in-Some.set.now c.items.ensures
    (each_admits c.in-Some.set.now e (ap (λ set. python_check (option_copied set) e) (sym c.in-Some.is) ∙ check))))
    c.add_specifiers.ensures
