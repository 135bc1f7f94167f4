use Rattle.std.proofs.Common.{◌≡◌, ◌∙◌, ℕ, List, Some, Result, Ok, Err, ap, refl, sym}
use Rattle.pytext.specs.Agreement.{Gives}
use Rattle.pyver_core.specs.Inner.Limit.{Makes}
use Rattle.pyver_core.specs.Parsed.{parsed_version}
use Rattle.pyver_core.specs.Version.Grammar.{numbers}
use Rattle.pyver_core.specs.Version.Parts.{Parts}
use Rattle.pyver_core.specs.Version.Reading.{version_of}
use Rattle.pyver_core.specs.declared.version.error.VersionError.{VersionError}
use Rattle.pyver_core.specs.declared.version.error.VersionError.TheVariants.{Syntax, NumberTooLarge, Memory}
use Rattle.pyver_core.proofs.Lemmas.Parsed.Outcomes.{within-false, within-true}
use Rattle.pyver_core.proofs.version.parse.version_from_bytes.Goals as goal

-- what is made of the parts that a text spells
made : (text : List ℕ) (p : Parts) (r : Result Parts VersionError) → version_of text ≡ Some p
    → Makes (λ v. v) r p (numbers p) → Gives Memory (λ v. v) r (parsed_version text)
unfolding parsed_version
made text p (Ok v) some is = rw some (within-false NumberTooLarge (numbers p) p is.1 ∙ ap Ok (sym is.0))
made text p (Err Syntax) some is = absurd is
made text p (Err NumberTooLarge) some is = λ _. rw some (within-true NumberTooLarge (numbers p) p is)
made text p (Err Memory) some is = λ other. absurd (other refl)

pub returns-in-Some : goal.returns-in-Some
returns-in-Some c = made c.args.bytes.now _ c.to_version.result (sym c.in-Some.ensures) c.to_version.ensures
