-- The bill of materials as CycloneDX 1.6 has it ("JSON Reference", `bom`).
use Rattle.std.specs.Prelude.{ℕ, ◌++◌, codes, decimal, is_some, List, [], ◌∷◌, Option, Some, None}
use Rattle.std.specs.Prelude.{if◌then◌else◌, map, option_map}
use Rattle.std.specs.Char.{to_ascii_lowercase}
use Rattle.std.specs.List.{flat_map}
use Rattle.std.specs.Option.{option_map_or}
use Rattle.serde_json.specs.Data.{Data}
use Rattle.pylock_json.specs.Json.{Row, list_of, maybe, numbered, object_of, texts_of, there}
use Rattle.pylock_readers.specs.Entry.{EntryValue}
use Rattle.pylock_core.specs.Session.Picks.{SourceValue, source_hashes, source_vcs}
use Rattle.pylock_core.specs.Session.State.{State}
use Rattle.pylock_core.specs.declared.answer.Pick.{Pick}
use Rattle.pylock_metadata.specs.Named.{DependentValue}
use Rattle.pylock_bill.specs.declared.hash.Algorithm.{Algorithm}
use Rattle.pylock_bill.specs.Hash.{cyclonedx_word, hash_algorithm}
use Rattle.pylock_bill.specs.Purl.{normal_version, purl}
use Rattle.pylock_bill.specs.Source.{of_pick, source_url}

-- ---- components[].hashes

-- the value in lower case
abbrev pub hash_rows : List ℕ → Algorithm → List Row
hash_rows value algorithm =
    (codes "alg", there (cyclonedx_word algorithm))
    ∷ (codes "content", there (map to_ascii_lowercase value))
    ∷ []

-- a hash, where both standards have its algorithm and the value is one of it
abbrev pub hash_data : List ℕ × List ℕ → List Data
hash_data hash =
    option_map_or (λ algorithm. object_of (hash_rows hash.1 algorithm) ∷ [])
    (hash_algorithm hash) []

-- ---- components[].externalReferences

-- a checkout is of a version control system, a file is distributed
abbrev pub reference_word : SourceValue → List ℕ
reference_word source = if is_some (source_vcs source) then codes "vcs" else codes "distribution"

abbrev pub reference_rows : SourceValue → List ℕ → List Row
reference_rows source url =
    (codes "type", there (reference_word source)) ∷ (codes "url", there url) ∷ []

abbrev pub references : SourceValue → List Data
references source =
    option_map_or (λ url. object_of (reference_rows source url) ∷ []) (source_url source) []

-- ---- components

-- the name of the component of this number within the document
abbrev pub component_reference : ℕ → List ℕ
component_reference number = codes "pylock-" ++ decimal number

-- the component of an entry, which has this number, and of the source that is picked of it
unfoldable pub component_rows : ℕ → EntryValue → SourceValue → List Row
component_rows number entry source =
    (codes "type", there (codes "library"))
    ∷ (codes "bom-ref", there (component_reference number))
    ∷ (codes "name", there entry.name)
    ∷ (codes "version", maybe (option_map normal_version entry.version))
    ∷ (codes "purl", there (purl entry.name entry.version))
    ∷ (codes "hashes", Some (list_of (flat_map hash_data (source_hashes source))))
    ∷ (codes "externalReferences", Some (list_of (references source)))
    ∷ []

abbrev pub component_data : ℕ → EntryValue → SourceValue → Data
component_data number entry source = object_of (component_rows number entry source)

-- ---- dependencies

-- a component, and those that it depends on
abbrev pub dependency_rows : DependentValue → List Row
dependency_rows dependent =
    (codes "ref", there (component_reference dependent.number))
    ∷ (codes "dependsOn", Some (texts_of (map component_reference dependent.depends_on)))
    ∷ []

abbrev pub dependency_data : DependentValue → Data
dependency_data dependent = object_of (dependency_rows dependent)

-- the list, which is absent where it would be empty
abbrev pub dependencies_data : List DependentValue → Option Data
dependencies_data [] = None
dependencies_data (dependent ∷ more) =
    Some (list_of (map dependency_data (dependent ∷ more)))

-- ---- metadata

-- what made the document
abbrev pub tool_rows : List Row
tool_rows =
    (codes "type", there (codes "application")) ∷ (codes "name", there (codes "pylock")) ∷ []

abbrev pub tools_rows : List Row
tools_rows = (codes "components", Some (list_of (object_of tool_rows ∷ []))) ∷ []

abbrev pub metadata_rows : List Row
metadata_rows = (codes "tools", Some (object_of tools_rows)) ∷ []

-- ---- the document

-- the components in the order of the plan, and what they depend on
abbrev pub cyclonedx_rows : State → List Pick → List DependentValue → List Row
cyclonedx_rows state picks dependents =
    (codes "bomFormat", there (codes "CycloneDX"))
    ∷ (codes "specVersion", there (codes "1.6"))
    ∷ (codes "version", numbered 1)
    ∷ (codes "metadata", Some (object_of metadata_rows))
    ∷ (codes "components", Some (list_of (flat_map (of_pick component_data state) picks)))
    ∷ (codes "dependencies", dependencies_data dependents)
    ∷ []
