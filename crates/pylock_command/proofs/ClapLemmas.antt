-- What clap's matches tell of the program's words.
use Rattle.std.proofs.Common.{◌≡◌, ◌≢◌, List, [], None, Some, refl, true, inl, inr, subst, sym, ap, ◌∙◌}
use Rattle.std.specs.Option.{IsSomeAnd}
use Rattle.std.proofs.lemmas.Bool.{and_parts}
use Rattle.clap.proofs.OnLiterals.{clap_on_literals}
use Rattle.clap.specs.Words.{App, HasKind, HasMatchesOf, IsAmong, Kinds, Text, built, fault_of, is_simple, is_simple_and_free, kind_of, subcommand_of, subcommand_rows_of}
use Rattle.clap.specs.Faults.{is_free_app}
use Rattle.clap.specs.declared.error.kind.ErrorKind.TheVariants.{OutOfMemory}
use Rattle.clap.specs.declared.error.Error.{Error}
use Rattle.clap.specs.declared.parser.matches.ArgMatches.{ArgMatches}
use Rattle.pylock_command.specs.CommandLine.{IsEnough, IsRefusal, IsTask, Keeps, misuse_of, pylock_app}
use Rattle.pylock_command.specs.declared.command_line.CommandError.{CommandError}
use Rattle.pylock_command.specs.declared.command_line.CommandError.TheVariants.{Refused, Memory}
use Rattle.pylock_command.specs.Misuse.{kind_of_misuse}
use Rattle.pylock_command.specs.declared.misuse.Misuse.{Misuse}
use Rattle.pylock_command.specs.declared.misuse.Misuse.TheVariants.{BadTime, EditsAndFile}
use Rattle.pylock_command.specs.declared.misuse.Misuse.TheVariants.{EnvAndMatrix}
use Rattle.pylock_command.specs.declared.misuse.Misuse.TheVariants.{FormatOfRows, HalfTarget}
use Rattle.pylock_command.specs.declared.misuse.Misuse.TheVariants.{Missing, NoAuditFormat}
use Rattle.pylock_command.specs.declared.misuse.Misuse.TheVariants.{NoFileFormat}
use Rattle.pylock_command.specs.declared.misuse.Misuse.TheVariants.{NoMachine, NoPlanFormat}
use Rattle.pylock_command.specs.declared.misuse.Misuse.TheVariants.{NoPlans, NoTime, StrayTime}
use Rattle.pylock_command.specs.declared.misuse.Misuse.TheVariants.{TwoForms, TwoInputs}
use Rattle.pylock_command.specs.declared.misuse.Misuse.TheVariants.{NoBase, NoUrls, TwoMachines}
use Rattle.pylock_command.specs.declared.task.Task.{Task}

pub pylock_app-is_simple_and_free : is_simple_and_free pylock_app ≡ true
unfolding clap_on_literals pylock_app
pylock_app-is_simple_and_free = refl

-- no misuse tells that memory ran out
memory-told : (misuse : Misuse) → kind_of_misuse misuse ≢ OutOfMemory
memory-told Missing is = absurd cc
memory-told NoMachine is = absurd cc
memory-told TwoMachines is = absurd cc
memory-told HalfTarget is = absurd cc
memory-told EnvAndMatrix is = absurd cc
memory-told NoPlans is = absurd cc
memory-told TwoForms is = absurd cc
memory-told NoPlanFormat is = absurd cc
memory-told NoFileFormat is = absurd cc
memory-told NoAuditFormat is = absurd cc
memory-told FormatOfRows is = absurd cc
memory-told NoTime is = absurd cc
memory-told StrayTime is = absurd cc
memory-told BadTime is = absurd cc
memory-told NoUrls is = absurd cc
memory-told NoBase is = absurd cc
memory-told EditsAndFile is = absurd cc
memory-told TwoInputs is = absurd cc

-- what a parse by a command that is enough for the words says of them
module _ (words : List Text) (app : App) (enough : IsEnough words app) where
  -- the subcommand that the matches tell is that of the words
  told_of-words : (m : ArgMatches) → HasMatchesOf app words m → subcommand_rows_of m ≡ subcommand_of pylock_app words
  told_of-words m has =
      (has (and_parts (is_simple app) (is_free_app (built app)) enough.tells).0).1 ∙ enough.same_subcommand

  pub IsTask-told : (m : ArgMatches) (task : Task) → HasMatchesOf app words m → IsTask (subcommand_rows_of m) task → IsTask (subcommand_of pylock_app words) task
  IsTask-told m task has told = subst (λ found. IsTask found task) (told_of-words m has) told

  pub misuse_of-taken : (m : ArgMatches) → HasMatchesOf app words m → misuse_of (subcommand_rows_of m) ≡ None → misuse_of (subcommand_of pylock_app words) ≡ None
  misuse_of-taken m has none = ap misuse_of (sym (told_of-words m has)) ∙ none

  pub fault_of-taken : (is_simple_and_free app ≡ true → fault_of app words ≡ []) → fault_of pylock_app words ≡ []
  fault_of-taken taken = sym enough.same_faults ∙ taken enough.tells

  pub IsRefusal-told : (m : ArgMatches) (error : Error) (misuse : Misuse) → HasMatchesOf app words m → (is_simple_and_free app ≡ true → fault_of app words ≡ [])
      → misuse_of (subcommand_rows_of m) ≡ Some misuse → kind_of error ≡ kind_of_misuse misuse → IsRefusal words (Refused error)
  IsRefusal-told m error misuse has taken told kind =
      let is : misuse_of (subcommand_of pylock_app words) ≡ Some misuse = ap misuse_of (sym (told_of-words m has)) ∙ told in
      ((λ memory. memory-told misuse (sym kind ∙ memory)), inr (fault_of-taken taken, subst (λ o. IsSomeAnd o (λ misuse. kind_of error ≡ kind_of_misuse misuse)) (sym is) kind))

  pub IsRefusal-kept : (error : Error) (refusal : CommandError) → Keeps error refusal → (is_simple_and_free app ≡ true → HasKind (fault_of app words) error)
      → IsRefusal words refusal
  IsRefusal-kept error Memory kept kinds = tt
  IsRefusal-kept error (Refused refused) kept kinds =
      let P : Kinds → Type 0 = λ kinds. HasKind kinds error in
      let kind : HasKind (fault_of pylock_app words) error = subst P enough.same_faults (kinds enough.tells) in
      let among : IsAmong (kind_of error) (fault_of pylock_app words) = elim kind [ inl memory ↦ absurd (kept.1 memory) | inr kinds ↦ kinds ] in
      rw kept.0 (kept.1, inl among)
