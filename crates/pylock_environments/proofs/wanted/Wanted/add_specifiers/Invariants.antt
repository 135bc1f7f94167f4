use Rattle.std.proofs.Common.{true}
use Rattle.std.specs.List.{All}
use Rattle.pymark_core.specs.Environment.{EnvironmentValue}
use Rattle.pymark_algebra.specs.Questions.{PythonSays}
use Rattle.pylock_environments.specs.Inner.{AreWanted}
use Rattle.pylock_environments.proofs.wanted.Wanted.add_specifiers.Given as goal

abbrev pub invariant-loop-specifier : goal.invariant-loop-specifier
invariant-loop-specifier l =
    (environment : EnvironmentValue) → AreWanted environment l.initial.self
    → All (λ specifier. PythonSays environment specifier true) l.specifiers → AreWanted environment l.self
