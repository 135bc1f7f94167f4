use Rattle.std.proofs.Common.{List}
use Rattle.std.proofs.lemmas.List.Elements.{All-push, All-same}
use Rattle.pymark_core.specs.Environment.{EnvironmentValue}
use Rattle.pymark_algebra.specs.Questions.{PythonSays}
use Rattle.pymark_algebra.specs.declared.answer.PythonCondition.{PythonCondition}
use Rattle.pylock_environments.proofs.wanted.Wanted.add_specifier.Goals as goal

abbrev Says : EnvironmentValue → PythonCondition → Type 0
Says e python = PythonSays e python.specifier.now python.wanted

pub returns : goal.returns
returns c = λ e wanted says.
    let old : List PythonCondition = c.args.self.now.pythons.items in (
      All-same (Says e) c.push.new.self.items _ c.in_ok-push.ensures.items
          (All-push (Says e) old (record { specifier = c.args.specifier; wanted = c.args.wanted }) wanted.0 says),
      wanted.1,
    )
