-- What stands behind the name of a requirement, lent from its text, as the definition has it.
use Rattle.std.specs.Prelude.{option_map}
use Rattle.pymark_core.specs.Requirement.Reading.{SourceParts}
use Rattle.pymark_core.specs.declared.requirement.parts.SourceParts.{SourceParts as Lent}

abbrev pub source_parts : Lent → SourceParts
source_parts s = record {
  set = s.set;
  url = option_map (λ text. text.now) s.url;
  marker = option_map (λ text. text.now) s.marker;
}
