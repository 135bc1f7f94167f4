-- The text of each form: its lines, each with its end, or the first refusal in their order.
use Rattle.std.specs.Prelude.{ℕ, Bool, not, codes, ◌++◌, List, Result, Ok, filter, length, map}
use Rattle.std.specs.Prelude.{string_bytes, take}
use Rattle.std.specs.List.{flat_map}
use Rattle.pytext.specs.Results.{◌>>=◌}
use Rattle.pylock_core.specs.Session.Picks.{SourceValue}
use Rattle.pylock_exports.specs.Listed.{ListedValue}
use Rattle.pylock_exports.specs.Lists.{is_left, list_lines}
use Rattle.pylock_exports.specs.Requirements.{is_in, requirements_lines}
use Rattle.pylock_command.specs.declared.form.PlanFormat.{PlanFormat}
use Rattle.pylock_command.specs.declared.form.PlanFormat.TheVariants as format
use Rattle.pylock_exports.specs.declared.requirements.PlanPart.{PlanPart}
use Rattle.pylock_exports.specs.declared.requirements.PlanPart.TheVariants.{Hashed, Local}
use Rattle.pylock_exports.specs.declared.left.LeftSource.{LeftSource}
use Rattle.pylock_exports.specs.declared.refusal.ExportError.{ExportError}

abbrev pub lines_text : List (List ℕ) → List ℕ
lines_text lines = flat_map (λ line. line ++ codes "\n") lines

-- the text of a requirements file
abbrev pub part_text : PlanPart → List ListedValue → Result (List ℕ) ExportError
part_text part sources = requirements_lines part sources >>= (λ lines. Ok (lines_text lines))

abbrev pub format_lines : PlanFormat → List ListedValue → Result (List (List ℕ)) ExportError
format_lines format.Requirements sources = requirements_lines Hashed sources
format_lines format.RequirementsLocal sources = requirements_lines Local sources
format_lines (format.Files form) sources = list_lines form sources

abbrev pub format_text : PlanFormat → List ListedValue → Result (List ℕ) ExportError
format_text form sources = format_lines form sources >>= (λ lines. Ok (lines_text lines))

-- ---- what is told beside the text

-- the form has no line of the source
abbrev pub is_left_out : PlanFormat → SourceValue → Bool
is_left_out format.Requirements source = not (is_in Hashed source)
is_left_out format.RequirementsLocal source = not (is_in Local source)
is_left_out (format.Files form) source = is_left form source

-- the sources without a line, in order
abbrev pub left_sources : PlanFormat → List ListedValue → List ListedValue
left_sources form sources = filter (λ s. is_left_out form s.source) sources

-- how many they are
abbrev pub left_out : PlanFormat → List ListedValue → ℕ
left_out form sources = length (left_sources form sources)

-- the number and the name of a source's entry
abbrev pub entry_of : ListedValue → ℕ × List ℕ
entry_of s = (s.number, s.entry.name)

-- those of the first of them, five at most
abbrev pub first_left : PlanFormat → List ListedValue → List (ℕ × List ℕ)
first_left form sources = take 5 (map entry_of (left_sources form sources))

-- the same, as the code hands them out
abbrev pub shown_left : LeftSource → ℕ × List ℕ
shown_left left = (left.number, string_bytes left.name)
