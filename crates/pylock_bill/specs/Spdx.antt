-- The bill of materials as SPDX 2.3 has it, in JSON.
use Rattle.std.specs.Prelude.{ℕ, ◌++◌, codes, decimal, false, List, [], ◌∷◌, Some, map}
use Rattle.std.specs.Prelude.{if◌then◌else◌, option_map}
use Rattle.std.specs.Char.{to_ascii_lowercase}
use Rattle.std.specs.List.{flat_map, list_all}
use Rattle.std.specs.Option.{option_map_or}
use Rattle.serde_json.specs.Data.{Data}
use Rattle.pylock_json.specs.Json.{Row, list_of, maybe, object_of, texts_of, there, truth}
use Rattle.pylock_readers.specs.Entry.{EntryValue}
use Rattle.pylock_core.specs.Session.Picks.{SourceValue, source_hashes, source_vcs}
use Rattle.pylock_core.specs.Session.State.{State}
use Rattle.pylock_core.specs.declared.answer.Pick.{Pick}
use Rattle.pylock_metadata.specs.Named.{DependentValue}
use Rattle.pylock_bill.specs.declared.hash.Algorithm.{Algorithm}
use Rattle.pylock_bill.specs.Hash.{hash_algorithm, spdx_word}
use Rattle.pylock_bill.specs.Purl.{normal_version, purl}
use Rattle.pylock_bill.specs.Source.{is_uri_character, of_pick, source_url}

-- ---- the checksums of a package (section 7.10)

-- the value in lower case
abbrev pub checksum_rows : List ℕ → Algorithm → List Row
checksum_rows value algorithm =
    (codes "algorithm", there (spdx_word algorithm))
    ∷ (codes "checksumValue", there (map to_ascii_lowercase value))
    ∷ []

-- a hash, where both standards have its algorithm and the value is one of it
abbrev pub checksum_data : List ℕ × List ℕ → List Data
checksum_data hash =
    option_map_or (λ algorithm. object_of (checksum_rows hash.1 algorithm) ∷ [])
    (hash_algorithm hash) []

-- ---- where a package lies (section 7.7)

-- a URL, and of a checkout the system and the commit with it
abbrev pub url_location : SourceValue → List ℕ → List ℕ
url_location source url =
    option_map_or (λ vcs. vcs.kind ++ codes "+" ++ url ++ codes "@" ++ vcs.commit_id)
    (source_vcs source) url

-- a location, if each of its characters is one that a URI may have
abbrev pub asserted : List ℕ → List ℕ
asserted location =
    if list_all is_uri_character location then location else codes "NOASSERTION"

abbrev pub location_text : SourceValue → List ℕ
location_text source =
    option_map_or (λ url. asserted (url_location source url)) (source_url source)
    (codes "NOASSERTION")

-- ---- the external reference of a package (section 7.21)

abbrev pub purl_rows : List ℕ → List Row
purl_rows text =
    (codes "referenceCategory", there (codes "PACKAGE-MANAGER"))
    ∷ (codes "referenceType", there (codes "purl"))
    ∷ (codes "referenceLocator", there text)
    ∷ []

-- ---- packages (section 7)

-- the name of the package of this number within the document (section 7.2)
abbrev pub package_id : ℕ → List ℕ
package_id number = codes "SPDXRef-" ++ decimal number

-- the package of an entry, which has this number, and of the source that is picked of it
unfoldable pub package_rows : ℕ → EntryValue → SourceValue → List Row
package_rows number entry source =
    (codes "SPDXID", there (package_id number))
    ∷ (codes "name", there entry.name)
    ∷ (codes "versionInfo", maybe (option_map normal_version entry.version))
    ∷ (codes "downloadLocation", there (location_text source))
    ∷ (codes "filesAnalyzed", truth false)
    ∷ (codes "checksums", Some (list_of (flat_map checksum_data (source_hashes source))))
    ∷ (
      codes "externalRefs",
      Some (list_of (object_of (purl_rows (purl entry.name entry.version)) ∷ [])),
    )
    ∷ []

abbrev pub package_data : ℕ → EntryValue → SourceValue → Data
package_data number entry source = object_of (package_rows number entry source)

-- ---- relationships (section 11)

-- the document describes the package of this number
abbrev pub relationship_rows : ℕ → List Row
relationship_rows number =
    (codes "spdxElementId", there (codes "SPDXRef-DOCUMENT"))
    ∷ (codes "relationshipType", there (codes "DESCRIBES"))
    ∷ (codes "relatedSpdxElement", there (package_id number))
    ∷ []

abbrev pub relationship_data : ℕ → EntryValue → SourceValue → Data
relationship_data number entry source = object_of (relationship_rows number)

-- the package of one number depends on that of the other
abbrev pub depends_rows : ℕ → ℕ → List Row
depends_rows number other =
    (codes "spdxElementId", there (package_id number))
    ∷ (codes "relationshipType", there (codes "DEPENDS_ON"))
    ∷ (codes "relatedSpdxElement", there (package_id other))
    ∷ []

-- a package depends on each of these
abbrev pub depends_data : DependentValue → List Data
depends_data dependent =
    map (λ other. object_of (depends_rows dependent.number other)) dependent.depends_on

-- the document describes each package, and then what they depend on
abbrev pub relationships_data : State → List Pick → List DependentValue → List Data
relationships_data state picks dependents =
    flat_map (of_pick relationship_data state) picks ++ flat_map depends_data dependents

-- ---- the document (section 6)

-- when it was made, and by what (sections 6.8 and 6.9)
abbrev pub creation_rows : List ℕ → List Row
creation_rows created =
    (codes "created", there created)
    ∷ (codes "creators", Some (texts_of (codes "Tool: pylock" ∷ [])))
    ∷ []

-- the packages in the order of the plan, of this time and under this namespace
abbrev pub spdx_rows : State → List Pick → List DependentValue → List ℕ → List ℕ → List Row
spdx_rows state picks dependents created namespace =
    (codes "spdxVersion", there (codes "SPDX-2.3"))
    ∷ (codes "dataLicense", there (codes "CC0-1.0"))
    ∷ (codes "SPDXID", there (codes "SPDXRef-DOCUMENT"))
    ∷ (codes "name", there (codes "pylock"))
    ∷ (codes "documentNamespace", there namespace)
    ∷ (codes "creationInfo", Some (object_of (creation_rows created)))
    ∷ (codes "packages", Some (list_of (flat_map (of_pick package_data state) picks)))
    ∷ (codes "relationships", Some (list_of (relationships_data state picks dependents)))
    ∷ []
