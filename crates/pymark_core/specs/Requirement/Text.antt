-- What is printed of a requirement (PEP 508, "Grammar"): its name, its extras in brackets, its URL
-- or its specifier set, and its marker.
use Rattle.std.specs.Prelude.{ℕ, List, [], ◌∷◌, ◌++◌, codes, Option, Some, None}
use Rattle.std.specs.List.{flat_map}
use Rattle.pyver_core.specs.Set.Normal.{set_text}
use Rattle.pyver_core.specs.declared.set.specifier.Specifier.{Specifier}
use Rattle.pymark_core.specs.Marker.Reading.{MarkerValue}
use Rattle.pymark_core.specs.Requirement.Value.{RequirementValue}

-- a comma and an extra
abbrev pub comma_extra : List ℕ → List ℕ
comma_extra extra = codes "," ++ extra

-- the extras in brackets, where there are any
abbrev pub extras_text : List (List ℕ) → List ℕ
extras_text [] = []
extras_text (first ∷ rest) = codes "[" ++ (first ++ (flat_map comma_extra rest ++ codes "]"))

-- the URL, or the normal form of the specifiers
abbrev pub source_text : Option (List ℕ) → List Specifier → List ℕ
source_text None set = set_text set
source_text (Some url) set = codes " @ " ++ url

-- what stands before a marker: white space ends a URL
abbrev pub marker_sign : Option (List ℕ) → List ℕ
marker_sign None = codes "; "
marker_sign (Some url) = codes " ; "

-- the marker as it is written, where there is one
abbrev pub marker_text : Option (List ℕ) → Option MarkerValue → List ℕ
marker_text url None = []
marker_text url (Some marker) = marker_sign url ++ marker.text

abbrev pub requirement_text : RequirementValue → List ℕ
requirement_text r =
    r.name ++ (extras_text r.extras ++ (source_text r.url r.set ++ marker_text r.url r.marker))
