use Rattle.pyver_core.specs.Parsed.{parsed_version}
use Rattle.pyver_core.specs.Version.Grammar.{Spells, numbers}
use Rattle.pyver_core.specs.Version.Reading.{version_of}
use Rattle.pyver_core.specs.declared.version.error.VersionError.TheVariants.{Syntax, NumberTooLarge, Memory}
use Rattle.pyver_core.proofs.Lemmas.Parsed.Outcomes.{answers}
use Rattle.pyver_core.proofs.Lemmas.Version.Reading.Complete.Whole.{version_complete}
use Rattle.pyver_core.proofs.Lemmas.Version.Reading.Sound.Parts.{version_sound}
use Rattle.pyver_core.proofs.version.Version.parse.Goals as goal

pub returns : goal.returns
unfolding parsed_version
returns c =
    let text = c.args.text.now in
    let exact = c.version_from_text.ensures in
    let x = answers (Spells text) numbers Memory Syntax NumberTooLarge (version_of text) c.version_from_text.result (λ e. cc e) (λ e. cc e) (λ e. cc e)
    (version_sound text) (version_complete text) exact in
    record { ok = x.ok; fits = x.fits; syntax = x.syntax; large = x.large; exact = exact }
