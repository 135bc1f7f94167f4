-- Which texts are which requirements (PEP 508, "Grammar"): a relation over the ways to cut the
-- whole text.
use Rattle.std.specs.Prelude.{◌≡◌, ◌⊎◌, ℕ, true, false, not, ◌==◌, List, [], ◌++◌, codes, map}
use Rattle.std.specs.Prelude.{Option, Some, None, Ok}
use Rattle.std.specs.List.{list_all, list_any, slice_split}
use Rattle.pytext.specs.Bytes.{is_name_byte, is_white, starts}
use Rattle.pyver_core.specs.Name.{is_name}
use Rattle.pyver_core.specs.Parsed.{parsed_set}
use Rattle.pyver_core.specs.declared.set.specifier.Specifier.{Specifier}
use Rattle.pymark_core.specs.Marker.Reading.{MarkerValue, marker_of}
use Rattle.pymark_core.specs.Requirement.Value.{RequirementValue}
use Rattle.pytext.specs.White.{trim_white}

-- white space between two parts: all that stands there
pub record IsGap (white next : List ℕ) : Type 0 where
  pub all : list_all is_white white ≡ true
  pub ends : starts is_white next ≡ false

-- no byte of the text is this one
abbrev pub Lacks : ℕ → List ℕ → Type 0
Lacks byte text = list_any (λ b. b == byte) text ≡ false

-- ---- extras

-- names with commas between them and white space round each, or white space alone
abbrev pub IsExtras : List ℕ → List (List ℕ) → Type 0
IsExtras inner extras =
    ((list_all is_white inner ≡ true) × (extras ≡ []))
    ⊎ ((list_all is_white inner ≡ false)
    × (extras ≡ map trim_white (slice_split (λ b. b == 44) inner))
    × (list_all is_name extras ≡ true))

-- `[`, extras and `]`; or nothing, where no `[` follows
abbrev pub ExtrasText : List ℕ → List (List ℕ) → List ℕ → Type 0
ExtrasText text extras next =
    ((text ≡ []) × (extras ≡ []) × (starts (λ b. b == 91) next ≡ false))
    ⊎ ((inner : List ℕ) × (text ≡ codes "[" ++ (inner ++ codes "]"))
    × Lacks 93 inner × IsExtras inner extras)

-- ---- the rest

-- `;` and a marker, or nothing
abbrev pub MarkerPart : List ℕ → Option MarkerValue → Type 0
MarkerPart text None = text ≡ []
MarkerPart text (Some marker) =
    (inner : List ℕ) × (text ≡ codes ";" ++ inner) × (marker_of inner ≡ Ok marker)

-- `@`, a URL up to the next white space or the end, and a marker
pub record UrlText (text url : List ℕ) (marker : Option MarkerValue) : Type 0 where
  pub gap : List ℕ
  pub second_gap : List ℕ
  pub last : List ℕ
  pub whole : text ≡ codes "@" ++ (gap ++ (url ++ (second_gap ++ last)))
  pub is_gap : IsGap gap (url ++ (second_gap ++ last))
  pub is_url : list_all (λ b. not (is_white b)) url ≡ true
  pub longest : starts (λ b. not (is_white b)) (second_gap ++ last) ≡ false
  pub is_second_gap : IsGap second_gap last
  pub is_last : MarkerPart last marker

-- what counts of the specifiers' text: between parentheses, where it begins with `(`
abbrev pub IsWithin : List ℕ → List ℕ → Type 0
IsWithin text inner =
    ((text ≡ inner) × (starts (λ b. b == 40) text ≡ false))
    ⊎ (text ≡ codes "(" ++ (inner ++ codes ")"))

-- specifiers, and a marker
pub record SetPart (text : List ℕ) (set : List Specifier) (marker : Option MarkerValue)
    : Type 0 where
  pub declared : List ℕ
  pub inner : List ℕ
  pub last : List ℕ
  pub whole : text ≡ declared ++ last
  pub no_url : starts (λ b. b == 64) text ≡ false
  pub is_declared : Lacks 59 declared
  pub is_inner : IsWithin (trim_white declared) inner
  pub is_set : parsed_set inner ≡ Ok set
  pub is_last : MarkerPart last marker

abbrev pub SourceText : List ℕ → List Specifier → Option (List ℕ) → Option MarkerValue → Type 0
SourceText text set None marker = SetPart text set marker
SourceText text set (Some url) marker = (set ≡ []) × (url ≡ [] → ⊥) × UrlText text url marker

-- ---- the whole

-- The text is the requirement: a name, which is the longest that stands there, extras, and a URL or
-- specifiers, with white space before, between and after them.
pub record RequirementText (text : List ℕ) (parts : RequirementValue) : Type 0 where
  pub before : List ℕ
  pub gap : List ℕ
  pub extras : List ℕ
  pub second_gap : List ℕ
  pub source : List ℕ
  pub whole : text ≡ before ++ (parts.name ++ (gap ++ (extras ++ (second_gap ++ source))))
  pub is_before : IsGap before (parts.name ++ (gap ++ (extras ++ (second_gap ++ source))))
  pub is_name : is_name parts.name ≡ true
  pub longest : starts is_name_byte (gap ++ (extras ++ (second_gap ++ source))) ≡ false
  pub is_gap : IsGap gap (extras ++ (second_gap ++ source))
  pub is_extras : ExtrasText extras parts.extras (second_gap ++ source)
  pub is_second_gap : IsGap second_gap source
  pub is_source : SourceText source parts.set parts.url parts.marker
