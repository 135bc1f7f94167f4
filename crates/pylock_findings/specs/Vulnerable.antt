-- The advisories that affect the entries of a lock (the OSV schema).
use Rattle.std.specs.Prelude.{ℕ, ◌++◌, codes, List, [], ◌∷◌, map, Option, Some, None}
use Rattle.std.specs.Prelude.{if◌then◌else◌, is_ok, option_and_then}
use Rattle.std.specs.List.{join_by}
use Rattle.std.specs.Option.{option_map_or}
use Rattle.pyver_core.specs.Name.{normal_name}
use Rattle.pyver_core.specs.Parsed.{parsed_version}
use Rattle.pyver_core.specs.Version.Normal.{normal_text}
use Rattle.pyver_core.specs.Version.Parts.{Parts}
use Rattle.pylock_advisories.specs.Advisory.{AdvisoryValue}
use Rattle.pylock_advisories.specs.Evaluation.{affecting}
use Rattle.pylock_readers.specs.Entry.{EntryValue}
use Rattle.pylock_shown.specs.Hidden.{hidden}
use Rattle.pylock_audit.specs.Finding.{LockFindingValue}
use Rattle.pylock_audit.specs.declared.finding.FindingKind.TheVariants as kind
use Rattle.pylock_findings.specs.Lines.{lines_from}

-- ---- what is told of an advisory

-- the ids of the same in other databases, joined by `,` behind a space
abbrev pub aliases_text : List (List ℕ) → List ℕ
aliases_text [] = []
aliases_text (alias ∷ aliases) = codes " " ++ join_by hidden (codes ",") (alias ∷ aliases)

-- the version to go to, in normal form
abbrev pub fix_text : Option Parts → List ℕ
fix_text None = codes " no fix"
fix_text (Some version) = codes " fixed " ++ normal_text version

abbrev pub advisory_text : AdvisoryValue × Option Parts → List ℕ
advisory_text told = hidden told.0.id ++ aliases_text told.0.aliases ++ fix_text told.1

-- ---- of which entries it is told

-- the version of an entry, where it is there and is one (PEP 440)
abbrev pub readable_version : EntryValue → Option (List ℕ)
readable_version entry =
    option_and_then
    (λ version. if is_ok (parsed_version version) then Some version else None) entry.version

-- the advisories that affect the entry at its version
abbrev pub advisory_texts : List AdvisoryValue → EntryValue → List (List ℕ)
advisory_texts advisories entry =
    option_map_or
    (λ version. map advisory_text (affecting (normal_name entry.name) version advisories))
    (readable_version entry) []

-- a line for each of them
abbrev pub vulnerable_lines : List AdvisoryValue → List EntryValue → List LockFindingValue
vulnerable_lines advisories entries =
    lines_from kind.Vulnerable (advisory_texts advisories) 1 entries
