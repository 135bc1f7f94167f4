-- No form is ever out of memory.
use Rattle.std.proofs.Common.{◌≡◌, ℕ, List, [], ◌∷◌, ◌++◌, Option, Some, None, Ok, Err, flat_map, map}
use Rattle.std.specs.Str.{bytes_eq}
use Rattle.pytext.specs.Results.{◌>>=◌}
use Rattle.pytext.proofs.NeverLemmas.{Never, never_cond, never_err, never_ok, never_then}
use Rattle.pylock_exports.specs.Listed.{ListedValue}
use Rattle.pylock_exports.specs.Lists.{beside, is_left, key_of, list_check, source_lines, value_named, value_of, with_source, with_sources}
use Rattle.pylock_exports.specs.Parts.{Check, at_number, require}
use Rattle.pylock_exports.specs.Requirements.{header, part_of, parts_check, requirement_check, requirement_line, requirements_check, requirements_lines}
use Rattle.pylock_exports.specs.Texts.{format_lines, format_text, lines_text}
use Rattle.pylock_command.specs.declared.form.PlanFormat.{PlanFormat}
use Rattle.pylock_command.specs.declared.form.PlanFormat.TheVariants as format
use Rattle.pylock_command.specs.declared.form.FileFormat.{FileFormat}
use Rattle.pylock_exports.specs.declared.requirements.PlanPart.{PlanPart}
use Rattle.pylock_exports.specs.declared.requirements.PlanPart.TheVariants.{Hashed, Local}
use Rattle.pylock_exports.specs.declared.refusal.ExportError.TheVariants.{Memory, Refused}
use Rattle.pylock_exports.specs.declared.refusal.Field.TheVariants as field
use Rattle.pylock_exports.specs.declared.refusal.FormatRefusal.{FormatRefusal}
use Rattle.pylock_exports.specs.declared.refusal.Reason.TheVariants as reason

other : (refusal : FormatRefusal) → Refused refusal ≡ Memory → ⊥
other refusal e = cc e

never_numbered : (n : ℕ) (check : Check) → Never Memory (at_number n check)
never_numbered n (Ok u) = never_ok Memory u
never_numbered n (Err fault) = never_err Memory (Refused (record { number = n; fault = fault })) (other (record { number = n; fault = fault }))

never_beside : (form : FileFormat) (kept : List ListedValue) (s : ListedValue) (value : Option (List ℕ)) → Never Memory (beside form kept s value)
never_beside form kept s None = never_ok Memory (kept ++ s ∷ [])
never_beside form kept s (Some value) =
    let check = require field.Hash reason.OtherValue (bytes_eq value (value_of form s.source)) in
    never_then Memory (at_number s.number check) (λ _. Ok kept) (never_numbered s.number check) (λ _. never_ok Memory kept)

never_source : (form : FileFormat) (kept : List ListedValue) (s : ListedValue) → Never Memory (with_source form kept s)
never_source form kept s =
    let value = value_named form (key_of form s.source) kept in
    never_cond Memory (is_left form s.source) (Ok kept) (at_number s.number (list_check form s.source) >>= (λ _. beside form kept s value)) (never_ok Memory kept)
    (never_then Memory (at_number s.number (list_check form s.source)) (λ _. beside form kept s value) (never_numbered s.number (list_check form s.source))
    (λ _. never_beside form kept s value))

never_sources : (form : FileFormat) (kept sources : List ListedValue) → Never Memory (with_sources form kept sources)
never_sources form kept [] = never_ok Memory kept
never_sources form kept (s ∷ rest) =
    never_then Memory (with_source form kept s) (λ more. with_sources form more rest) (never_source form kept s) (λ more. never_sources form more rest)

never_requirement : (s : ListedValue) → Never Memory (requirement_check s)
never_requirement s = never_numbered s.number (parts_check s)

never_requirements : (sources : List ListedValue) → Never Memory (requirements_check sources)
never_requirements [] = never_ok Memory tt
never_requirements (s ∷ rest) = never_then Memory (requirement_check s) (λ _. requirements_check rest) (never_requirement s) (λ _. never_requirements rest)

never_part : (part : PlanPart) (sources : List ListedValue) → Never Memory (requirements_lines part sources)
never_part part sources =
    let lines = header ∷ map requirement_line (part_of part sources) in
    never_then Memory (requirements_check (part_of part sources)) (λ _. Ok lines) (never_requirements (part_of part sources)) (λ _. never_ok Memory lines)

never_lines : (form : PlanFormat) (sources : List ListedValue) → Never Memory (format_lines form sources)
never_lines format.Requirements sources = never_part Hashed sources
never_lines format.RequirementsLocal sources = never_part Local sources
never_lines (format.Files form) sources =
    never_then Memory (with_sources form [] sources) (λ kept. Ok (flat_map (λ s. source_lines form s.source) kept)) (never_sources form [] sources)
    (λ kept. never_ok Memory (flat_map (λ s. source_lines form s.source) kept))

pub never_memory : (form : PlanFormat) (sources : List ListedValue) → Never Memory (format_text form sources)
never_memory form sources =
    never_then Memory (format_lines form sources) (λ lines. Ok (lines_text lines)) (never_lines form sources) (λ lines. never_ok Memory (lines_text lines))
