use Rattle.std.proofs.Common.{◌≡◌, ◌==◌, ◌∙◌, None, Some, ap, codes, length, not, refl, rules, false, true, subst}
use Rattle.clap.specs.Words.{found_of, rows_of}
use Rattle.pylock_command.specs.Asked.{installation_misuse}
use Rattle.pylock_command.specs.PlanOptions.{has_plan_options}
use Rattle.pylock_command.specs.Machine.{IsPlace, names_none}
use Rattle.pylock_command.specs.declared.misuse.Misuse.TheVariants.{NoPlans}
use Rattle.pylock_command.proofs.PlanOptionLemmas.{has_plan_options-told}
use Rattle.pylock_command.proofs.asked.installation_of.Goals as goal

pub returns-then-not-is_empty-clause-refused : goal.returns-then-not-is_empty-clause-refused
returns-then-not-is_empty-clause-refused c =
    let rows = rows_of (found_of c.args.found.now) in
    let none : names_none (codes "in") rows ≡ true = subst (IsPlace (codes "in") rows) c.in-None.is c.in_ok-place.ensures.place in
    let is : c.is_empty.result ≡ (length c.in_ok-options.options.items == 0) = search rules in
    let some : c.is_empty.result ≡ false = search rules in
    let told : has_plan_options rows ≡ true = has_plan_options-told _ c.in_ok-options.options.items _ c.in_ok-options.ensures is ∙ ap not some in
    let refused : installation_misuse rows ≡ Some NoPlans = rw none (rw told refl) in
    refused

pub returns-clause-installation : goal.returns-clause-installation
returns-clause-installation c =
    let rows = rows_of (found_of c.args.found.now) in
    let is : c.is_empty.result ≡ (length c.in_ok-options.options.items == 0) = search rules in (
      subst (IsPlace (codes "in") rows) c.in-None.is c.in_ok-place.ensures.place,
      has_plan_options-told _ c.in_ok-options.options.items _ c.in_ok-options.ensures is ∙ ap not c.if-not-is_empty.false,
    )

pub returns-clause-refused : goal.returns-clause-refused
returns-clause-refused c =
    let rows = rows_of (found_of c.args.found.now) in
    let none : names_none (codes "in") rows ≡ true = subst (IsPlace (codes "in") rows) c.in-None.is c.in_ok-place.ensures.place in
    let is : c.is_empty.result ≡ (length c.in_ok-options.options.items == 0) = search rules in
    let told : has_plan_options rows ≡ false = has_plan_options-told _ c.in_ok-options.options.items _ c.in_ok-options.ensures is ∙ ap not c.if-not-is_empty.false in
    let taken : installation_misuse rows ≡ None = rw none (rw told refl) in
    taken
