-- Reading a requirement from the left: its parts, or the first refusal (PEP 508, "Grammar"). White
-- space may stand between the parts.
use Rattle.std.specs.Prelude.{ℕ, false, not, ◌==◌, nat_lt, ◌-◌, if◌then◌else◌, List, [], ◌∷◌}
use Rattle.std.specs.Prelude.{length, take, drop, slice_get, Option, Some, None, is_some, ok_or}
use Rattle.std.specs.Prelude.{option_map, unwrap_or, Result, Ok, Err}
use Rattle.std.specs.List.{after_first, before_first, list_all, position_or_len, prefix_len}
use Rattle.std.specs.List.{slice_split}
use Rattle.pytext.specs.Bytes.{is_name_byte, is_white, starts}
use Rattle.pyver_core.specs.Name.{is_name}
use Rattle.pyver_core.specs.Parsed.{parsed_set}
use Rattle.pytext.specs.Results.{◌>>=◌}
use Rattle.pytext.specs.White.{after_white, trim_white}
use Rattle.pyver_core.specs.declared.set.specifier.Specifier.{Specifier}
use Rattle.pymark_core.specs.Marker.Reading.{MarkerValue, marker_of}
use Rattle.pymark_core.specs.Requirement.Value.{RequirementValue}
use Rattle.pymark_core.specs.declared.requirement.error.RequirementError.{RequirementError}
use Rattle.pymark_core.specs.declared.requirement.error.RequirementError.TheVariants as refusal

-- ---- cuts

-- the text after this byte, where it stands at the beginning
abbrev pub after_byte : ℕ → List ℕ → Option (List ℕ)
after_byte byte text = if starts (λ b. b == byte) text then Some (drop 1 text) else None

-- what stands before and behind the first of these bytes, where there is one
abbrev pub cut_around : ℕ → List ℕ → Option (List ℕ × List ℕ)
cut_around byte text =
    if nat_lt (position_or_len (λ b. b == byte) text) (length text)
    then Some (before_first (λ b. b == byte) text, after_first (λ b. b == byte) text)
    else None

-- the value, or this refusal instead of any other
abbrev pub refused_as : {X E : Type 0} → RequirementError → Result X E → Result X RequirementError
refused_as refusal (Ok x) = Ok x
refused_as refusal (Err e) = Err refusal

-- ---- the name

-- the longest run of letters, digits, `.`, `_` and `-`, which is a name, and the text after it
unfoldable pub name_at : List ℕ → Result (List ℕ × List ℕ) RequirementError
name_at text =
    let run = prefix_len is_name_byte text in
    if is_name (take run text) then Ok (take run text, drop run text) else Err refusal.Name

-- ---- extras

-- a name with white space round it
abbrev pub extra_in : List ℕ → Result (List ℕ) RequirementError
extra_in piece = if is_name (trim_white piece) then Ok (trim_white piece) else Err refusal.Extras

unfoldable pub names_in : List (List ℕ) → Result (List (List ℕ)) RequirementError
names_in [] = Ok []
names_in (piece ∷ rest) = do
  name ← extra_in piece
  others ← names_in rest
  Ok (name ∷ others)

-- names with commas between them, or white space
abbrev pub extras_in : List ℕ → Result (List (List ℕ)) RequirementError
extras_in inner =
    if list_all is_white inner then Ok [] else names_in (slice_split (λ b. b == 44) inner)

-- the extras behind `[`, and the text after `]`
unfoldable pub extras_after_bracket : List ℕ → Result (List (List ℕ) × List ℕ) RequirementError
extras_after_bracket text = do
  cut ← ok_or (cut_around 93 text) refusal.Extras
  extras ← extras_in cut.0
  Ok (extras, cut.1)

-- the extras at the beginning, if there are any, and the text after them
abbrev pub extras_from : List ℕ → Option (List ℕ) → Result (List (List ℕ) × List ℕ) RequirementError
extras_from text None = Ok ([], text)
extras_from text (Some rest) = extras_after_bracket rest

unfoldable pub extras_at : List ℕ → Result (List (List ℕ) × List ℕ) RequirementError
extras_at text = extras_from text (after_byte 91 text)

-- ---- the URL or the specifiers

-- the parts of what stands behind the name and the extras
pub record SourceParts : Type 0 where
  pub set : List Specifier
  pub url : Option (List ℕ)
  pub marker : Option (List ℕ)

-- the text after `;`, or the end
abbrev pub marker_text_at : List ℕ → Result (Option (List ℕ)) RequirementError
marker_text_at [] = Ok None
marker_text_at (b ∷ rest) = if b == 59 then Ok (Some rest) else Err refusal.Trailing

-- a URL is all up to the next white space
abbrev pub url_len : List ℕ → ℕ
url_len text = prefix_len (λ b. not (is_white b)) text

-- the URL behind `@`
unfoldable pub url_source : List ℕ → Result SourceParts RequirementError
url_source text =
    if url_len text == 0 then Err refusal.Url
    else (marker_text_at (after_white (drop (url_len text) text)) >>= λ marker.
    Ok (record { set = []; url = Some (take (url_len text) text); marker = marker }))

-- what stands before this byte, where it is the last
abbrev pub before_last : ℕ → List ℕ → Option (List ℕ)
before_last byte text =
    if unwrap_or (option_map (λ b. b == byte) (slice_get text (length text - 1))) false
    then Some (take (length text - 1) text)
    else None

-- what counts of the text: where it begins with `(`, it ends with `)`, and what is between counts
abbrev pub within_from : List ℕ → Option (List ℕ) → Option (List ℕ)
within_from text None = Some text
within_from text (Some rest) = before_last 41 rest

abbrev pub within_parentheses : List ℕ → Option (List ℕ)
within_parentheses text = within_from text (after_byte 40 text)

-- the text up to `;` or the end, and the text after `;`
abbrev pub cut_or_whole : List ℕ → Option (List ℕ × List ℕ) → List ℕ × Option (List ℕ)
cut_or_whole text None = (text, None)
cut_or_whole text (Some cut) = (cut.0, Some cut.1)

-- the specifiers in such a cut
abbrev pub cut_source : List ℕ × Option (List ℕ) → Result SourceParts RequirementError
cut_source cut = do
  inner ← ok_or (within_parentheses (trim_white cut.0)) refusal.Specifier
  set ← refused_as refusal.Specifier (parsed_set inner)
  Ok (record { set = set; url = None; marker = cut.1 })

-- the specifiers up to `;` or the end
unfoldable pub set_source : List ℕ → Result SourceParts RequirementError
set_source text = cut_source (cut_or_whole text (cut_around 59 text))

abbrev pub source_from : List ℕ → Option (List ℕ) → Result SourceParts RequirementError
source_from text None = set_source text
source_from text (Some rest) = url_source (after_white rest)

unfoldable pub source_at : List ℕ → Result SourceParts RequirementError
source_at text = source_from text (after_byte 64 text)

-- the specifiers as they are written, without the parentheses round them; none where a URL stands
unfoldable pub written_set_at : List ℕ → Result (Option (List ℕ)) RequirementError
written_set_at text =
    if is_some (after_byte 64 text) then Ok None
    else (ok_or (within_parentheses (trim_white (cut_or_whole text (cut_around 59 text)).0))
    refusal.Specifier >>= λ inner. Ok (Some inner))

-- ---- the marker

abbrev pub marker_in : Option (List ℕ) → Result (Option MarkerValue) RequirementError
marker_in None = Ok None
marker_in (Some text) = refused_as refusal.Marker (marker_of text) >>= λ marker. Ok (Some marker)

-- ---- the whole

-- the parts that a text has, or the first refusal from the left
unfoldable pub requirement_of : List ℕ → Result RequirementValue RequirementError
requirement_of text = do
  name ← name_at (after_white text)
  extras ← extras_at (after_white name.1)
  source ← source_at (after_white extras.1)
  marker ← marker_in source.marker
  Ok (record {
    name = name.0;
    extras = extras.0;
    set = source.set;
    url = source.url;
    marker = marker;
  })

-- the specifiers of a requirement, as they are written: of a text that is none it may be the same
-- refusal, or a text that is no set (the law `written_sets_are_read`)
unfoldable pub written_set_of : List ℕ → Result (Option (List ℕ)) RequirementError
written_set_of text = do
  name ← name_at (after_white text)
  extras ← extras_at (after_white name.1)
  written_set_at (after_white extras.1)
