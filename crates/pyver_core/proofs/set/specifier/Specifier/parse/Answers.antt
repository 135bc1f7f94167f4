use Rattle.pyver_core.specs.Parsed.{parsed_specifier}
use Rattle.pyver_core.specs.Set.Grammar.{IsSpecifier, specifier_numbers}
use Rattle.pyver_core.specs.Set.Reading.{specifier_of}
use Rattle.pyver_core.specs.declared.set.error.SpecifierError.TheVariants.{Syntax, NumberTooLarge, Memory}
use Rattle.pyver_core.proofs.Lemmas.Parsed.Outcomes.{answers}
use Rattle.pyver_core.proofs.Lemmas.Set.Reading.Complete.{specifier_complete}
use Rattle.pyver_core.proofs.Lemmas.Set.Reading.Sound.{specifier_sound}
use Rattle.pyver_core.proofs.set.specifier.Specifier.parse.Goals as goal

pub returns : goal.returns
unfolding parsed_specifier
returns c =
    let text = c.args.text.now in
    let x = answers (IsSpecifier text) specifier_numbers Memory Syntax NumberTooLarge (specifier_of text) c.specifier_from_text.result (λ e. cc e) (λ e. cc e) (λ e. cc e)
    (specifier_sound text) (specifier_complete text) c.specifier_from_text.ensures in
    record { ok = x.ok; fits = x.fits; syntax = x.syntax; large = x.large; exact = c.specifier_from_text.ensures }
