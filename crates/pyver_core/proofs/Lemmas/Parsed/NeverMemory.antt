-- No definition gives out of memory.
use Rattle.std.proofs.Common.{◌≡◌, ◌==◌, ℕ, List, length, Option, Ok, Err, if◌then◌else◌}
use Rattle.std.specs.List.{list_all}
use Rattle.pyver_core.specs.Version.FromParts.{is_segment, version_from_parts}
use Rattle.pyver_core.specs.Version.Grammar.{has_large, numbers}
use Rattle.pyver_core.specs.Version.Parts.{Parts}
use Rattle.pyver_core.specs.Version.Reading.{version_of}
use Rattle.pyver_core.specs.Parsed.{parsed_operand, parsed_set, parsed_specifier, parsed_version, within_limit}
use Rattle.pyver_core.specs.Set.Grammar.{set_numbers, specifier_numbers}
use Rattle.pyver_core.specs.Set.Reading.{operand_of, set_of, specifier_of}
use Rattle.pyver_core.specs.declared.set.error.SpecifierError.TheVariants as specifier
use Rattle.pyver_core.specs.declared.set.specifier.Operator.{Operator}
use Rattle.pyver_core.specs.declared.version.error.VersionError.TheVariants as version
use Rattle.pyver_core.specs.declared.version.from_parts.PartsError.TheVariants as made
use Rattle.pytext.proofs.NeverLemmas.{Never, never_cond, never_err, never_ok, never_or, never_then}
use Rattle.pyver_core.proofs.Lemmas.Parsed.Outcomes.{outcome}

never_outcome : {V E : Type 0} (refusal syntax large : E) (ns : V → List ℕ) (read : Option V) → (syntax ≡ refusal → ⊥) → (large ≡ refusal → ⊥)
    → Never refusal (outcome syntax large ns read)
never_outcome refusal syntax large ns read first second =
    never_then refusal _ (λ v. within_limit large (ns v) v) (never_or refusal syntax read first)
    (λ v. never_cond refusal (has_large (ns v)) (Err large) (Ok v) (never_err refusal large second) (never_ok refusal v))

pub version_never_memory : (text : List ℕ) → Never version.Memory (parsed_version text)
unfolding parsed_version
version_never_memory text = never_outcome version.Memory version.Syntax version.NumberTooLarge numbers (version_of text) (λ e. cc e) (λ e. cc e)

pub set_never_memory : (text : List ℕ) → Never specifier.Memory (parsed_set text)
unfolding parsed_set
set_never_memory text = never_outcome specifier.Memory specifier.Syntax specifier.NumberTooLarge set_numbers (set_of text) (λ e. cc e) (λ e. cc e)

pub operand_never_memory : (operator : Operator) (text : List ℕ) → Never specifier.Memory (parsed_operand operator text)
unfolding parsed_operand
operand_never_memory operator text =
    never_outcome specifier.Memory specifier.Syntax specifier.NumberTooLarge specifier_numbers (operand_of operator text) (λ e. cc e) (λ e. cc e)

pub specifier_never_memory : (text : List ℕ) → Never specifier.Memory (parsed_specifier text)
unfolding parsed_specifier
specifier_never_memory text =
    never_outcome specifier.Memory specifier.Syntax specifier.NumberTooLarge specifier_numbers (specifier_of text) (λ e. cc e) (λ e. cc e)

pub parts_never_memory : (parts : Parts) → Never made.Memory (version_from_parts parts)
parts_never_memory parts =
    never_cond made.Memory (length parts.release == 0) (Err made.EmptyRelease)
    (if list_all is_segment parts.local then Ok parts else Err made.LocalSegment)
    (never_err made.Memory made.EmptyRelease (λ e. cc e))
    (never_cond made.Memory (list_all is_segment parts.local) (Ok parts) (Err made.LocalSegment)
    (never_ok made.Memory parts) (never_err made.Memory made.LocalSegment (λ e. cc e)))
