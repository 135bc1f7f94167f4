-- The sources of a name that one lock alone has (PEP 751, `packages`).
use Rattle.std.specs.Prelude.{ℕ, Bool, false, true, not, ◌&&◌, ◌++◌, List, [], ◌∷◌, map, filter}
use Rattle.std.specs.Prelude.{Some, None, unwrap_or, if◌then◌else◌}
use Rattle.std.specs.List.{flat_map, list_any}
use Rattle.pylock_readers.specs.Entry.{place_of}
use Rattle.pylock_core.specs.Session.Picks.{SourceValue, source_commit_id, source_file_name}
use Rattle.pylock_core.specs.Session.Picks.{source_location, source_subdirectory, source_vcs_kind}
use Rattle.pylock_core.specs.Session.Picks.{source_word}
use Rattle.pylock_places.specs.Shown.{source_text}
use Rattle.pylock_diff.specs.Change.{ChangeValue, change_of}
use Rattle.pylock_diff.specs.Item.{ItemValue}
use Rattle.pylock_compare.specs.Texts.{Texts, are_alike}
use Rattle.pylock_diff.specs.Versions.{version_key}
use Rattle.pylock_diff.specs.declared.change.ChangeKind.TheVariants.{File}

-- its file name, or the place of what has none
abbrev pub called : SourceValue → List ℕ
called source = unwrap_or (source_file_name source) (place_of (source_location source))

-- kind, file name or place, the type and the commit of a revision, subdirectory
unfoldable pub identity : SourceValue → Texts
identity source =
    Some (source_word source) ∷ Some (called source) ∷ source_vcs_kind source
    ∷ source_commit_id source ∷ source_subdirectory source ∷ []

-- by what an entry's sources are compared besides themselves
abbrev pub condition_key : ItemValue → Texts
condition_key item = version_key item ∷ item.marker ∷ item.pythons ∷ []

-- the version of an entry, and what its sources are
abbrev pub whole_key : ItemValue → Texts
whole_key item = version_key item ∷ flat_map identity item.sources

-- an entry of the other lock has the version
abbrev pub has_version : List ItemValue → ItemValue → Bool
has_version others item =
    list_any (λ other. are_alike (version_key item ∷ []) (version_key other ∷ [])) others

-- an entry of the other lock has the version, the marker and the set of Pythons
abbrev pub has_condition : List ItemValue → ItemValue → Bool
has_condition others item =
    list_any (λ other. are_alike (condition_key item) (condition_key other)) others

-- an entry of the other lock has the version and the same sources
abbrev pub has_counterpart : List ItemValue → ItemValue → Bool
has_counterpart others item =
    list_any (λ other. are_alike (whole_key item) (whole_key other)) others

-- the other lock has what the entry has, for other machines alone: its marker tells that
abbrev pub is_moved : List ItemValue → ItemValue → Bool
is_moved others item = not (has_condition others item) && has_counterpart others item

-- the other lock has the source, in an entry of that version, marker and set of Pythons
abbrev pub has_source : List ItemValue → ItemValue → SourceValue → Bool
has_source others item source =
    list_any
    (λ other. are_alike (condition_key item) (condition_key other)
    && list_any (λ s. are_alike (identity source) (identity s)) other.sources) others

-- the sources of an entry that the other lock hasn't; a version that it hasn't is told as such
abbrev pub lone_in : List ItemValue → ItemValue → List SourceValue
lone_in others item =
    if has_version others item && not (is_moved others item)
    then filter (λ source. not (has_source others item source)) item.sources
    else []

abbrev pub lone_sources : (items others : List ItemValue) → List SourceValue
lone_sources items others = flat_map (lone_in others) items

-- that a source is gone, or has come
abbrev pub file_change : List ℕ → (gone : Bool) → SourceValue → ChangeValue
file_change name gone source =
    if gone then change_of File name (Some (source_text source)) None
    else change_of File name None (Some (source_text source))

-- those of OLD, and then those of NEW
abbrev pub file_changes : List ℕ → (olds news : List ItemValue) → List ChangeValue
file_changes name olds news =
    map (file_change name true) (lone_sources olds news)
    ++ map (file_change name false) (lone_sources news olds)
