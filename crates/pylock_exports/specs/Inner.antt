-- What serves the contracts of private functions alone.
use Rattle.std.specs.Prelude.{List, map, ◌≡◌, ℕ, Option, option_map, codes, ◌++◌, Result, Ok}
use Rattle.std.specs.Prelude.{string_bytes}
use Rattle.std.specs.Option.{option_copied}
use denote.Ref.{Bor}
use Rattle.pytext.specs.Results.{◌>>=◌}
use Rattle.pylock_core.specs.Session.Picks.{SourceValue, lent_source}
use Rattle.pylock_exports.specs.Base.{under}
use Rattle.pylock_exports.specs.Listed.{ListedValue, listed}
use Rattle.pylock_exports.specs.Lists.{value_named}
use Rattle.pylock_exports.specs.Requirements.{part_of, requirement_check, requirement_line}
use Rattle.pylock_exports.specs.Requirements.{requirements_check}
use Rattle.pylock_exports.specs.Texts.{lines_text}
use Rattle.pylock_exports.specs.declared.base.Moved.{Moved}
use Rattle.pylock_exports.specs.declared.listed.Listed.{Listed}
use Rattle.pylock_exports.specs.declared.requirements.PlanPart.{PlanPart}
use Rattle.pylock_exports.specs.declared.refusal.ExportError.{ExportError}
use Rattle.pylock_exports.specs.declared.source.Source.{Source}
use Rattle.pylock_command.specs.declared.form.FileFormat.{FileFormat}

-- a source as the code lends it, under the URL that it may be given
abbrev pub written : Source → SourceValue
written source = under (option_copied source.moved) (lent_source source.picked)

abbrev pub lent : Listed → ListedValue
lent s = listed s.number s.entry.now (written s.source)

abbrev pub all_lent : List Listed → List ListedValue
all_lent list = map lent list

-- a source with the URL that it has on a base, where it begins so
abbrev pub lent_moved : Moved → ListedValue
lent_moved m =
    listed m.listed.number m.listed.entry.now
    (under (option_map string_bytes m.url) (written m.listed.source))

-- what is found in the table is the value of each that is kept, and of no other
abbrev pub Holds : FileFormat → (List ℕ → Option (Bor (List ℕ))) → List ListedValue → Type 0
Holds format found kept =
    (key : List ℕ) → option_map (λ value. value.now) (found key) ≡ value_named format key kept

-- a text, and behind it the line of a source
abbrev pub requirement_behind : List ℕ → ListedValue → Result (List ℕ) ExportError
requirement_behind text s =
    requirement_check s >>= (λ _. Ok (text ++ (requirement_line s ++ codes "\n")))

-- a text, and behind it the lines of those sources that the file has
abbrev pub parts_behind : PlanPart → List ℕ → List ListedValue → Result (List ℕ) ExportError
parts_behind part text sources =
    requirements_check (part_of part sources)
    >>= (λ _. Ok (text ++ lines_text (map requirement_line (part_of part sources))))
