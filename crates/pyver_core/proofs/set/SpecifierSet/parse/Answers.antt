use Rattle.pyver_core.specs.Parsed.{parsed_set}
use Rattle.pyver_core.specs.Set.Grammar.{SetText, set_numbers}
use Rattle.pyver_core.specs.Set.Reading.{set_of}
use Rattle.pyver_core.specs.declared.set.error.SpecifierError.TheVariants.{Syntax, NumberTooLarge, Memory}
use Rattle.pyver_core.proofs.Lemmas.Parsed.Outcomes.{answers}
use Rattle.pyver_core.proofs.Lemmas.Set.Reading.Complete.{set_complete}
use Rattle.pyver_core.proofs.Lemmas.Set.Reading.Sound.{set_sound}
use Rattle.pyver_core.proofs.set.SpecifierSet.parse.Goals as goal

pub returns : goal.returns
unfolding parsed_set
returns c =
    let text = c.args.text.now in
    let x = answers (SetText text) set_numbers Memory Syntax NumberTooLarge (set_of text) c.set_from_text.result (λ e. cc e) (λ e. cc e) (λ e. cc e)
    (set_sound text) (set_complete text) c.set_from_text.ensures in
    record { ok = x.ok; fits = x.fits; syntax = x.syntax; large = x.large; exact = c.set_from_text.ensures }
