-- Where a refused requirement is wrong (PEP 508, "Grammar"), told by the text behind the place.
use Rattle.std.specs.Prelude.{◌≡◌, ℕ, ◌+◌, ◌-◌, ◌==◌, if◌then◌else◌, true, List, length, take, drop}
use Rattle.std.specs.Prelude.{Option, Some, None, unwrap_or}
use Rattle.std.specs.Char.{is_ascii_alphanumeric}
use Rattle.std.specs.List.{after_first, prefix_len, suffix_len}
use Rattle.pytext.specs.Bytes.{is_name_byte, is_separator, starts}
use Rattle.pytext.specs.White.{after_white}
use Rattle.pymark_core.specs.Requirement.Reading.{after_byte, url_len}
use Rattle.pymark_core.specs.declared.requirement.error.RequirementError.{RequirementError}
use Rattle.pymark_core.specs.declared.requirement.error.RequirementError.TheVariants as refusal
use Rattle.pymark_expected.specs.Kinds.{is_of_grammar}
use Rattle.pymark_expected.specs.Marker.Place.{IsStop}
use Rattle.pymark_expected.specs.declared.expected.Expected.{Expected}
use Rattle.pymark_expected.specs.declared.expected.Expected.TheVariants.{MarkerEnd, RequirementEnd}
use Rattle.pymark_expected.specs.declared.fault.Fault.{Fault}

-- ---- what stands behind a part of the text, with white space passed over

-- how long the run of letters, digits, `.`, `_` and `-` is, without those of the latter at its end
abbrev pub name_len : List ℕ → ℕ
name_len text =
    prefix_len is_name_byte text
    - suffix_len is_separator (take (prefix_len is_name_byte text) text)

-- behind the longest name at the beginning, where a name begins there
abbrev pub after_name : List ℕ → List ℕ
after_name text = if starts is_ascii_alphanumeric text then drop (name_len text) text else text

-- behind the name
abbrev pub behind_name : List ℕ → List ℕ
behind_name text = after_white (after_name (after_white text))

-- behind the extras, where a `[` stands
abbrev pub behind_extras : List ℕ → Option (List ℕ) → List ℕ
behind_extras rest None = rest
behind_extras rest (Some extras) = after_white (after_first (λ b. b == 93) extras)

-- the URL with its `@`, or the specifiers
abbrev pub source : List ℕ → List ℕ
source text = behind_extras (behind_name text) (after_byte 91 (behind_name text))

-- behind `@`
abbrev pub url : List ℕ → List ℕ
url source = after_white (unwrap_or (after_byte 64 source) source)

abbrev pub behind_url : List ℕ → List ℕ
behind_url url = after_white (drop (url_len url) url)

-- behind the first `;`, and behind the first one after a URL where one stands
abbrev pub marker_in : List ℕ → Option (List ℕ) → List ℕ
marker_in source None = after_first (λ b. b == 59) source
marker_in source (Some rest) = after_first (λ b. b == 59) (behind_url (after_white rest))

abbrev pub marker : List ℕ → List ℕ
marker source = marker_in source (after_byte 64 source)

-- ---- the place

-- the stretch ends where the text has this behind it
abbrev pub EndsAt : List ℕ → List ℕ → Fault → Type 0
EndsAt text rest fault = fault.end ≡ length text - length rest

abbrev pub of_requirement : Expected → Expected
of_requirement MarkerEnd = RequirementEnd
of_requirement expected = expected

-- the fault of the text is that of the marker which it ends with
pub record IsStopWithin (text marker : List ℕ) (fault : Fault) : Type 0 where
  pub stop : Fault
  pub is_stop : IsStop marker stop
  pub end : fault.end ≡ length text - length marker + stop.end
  pub expected : fault.expected ≡ of_requirement stop.expected

-- where a text that is refused like this is wrong; it is left open of extras, of specifiers and of
-- the rules of markers besides the grammar
abbrev pub IsPlaceOf : RequirementError → List ℕ → Fault → Type 0
IsPlaceOf refusal.Name text fault = EndsAt text (behind_name text) fault
IsPlaceOf refusal.Extras text fault = Unit {0}
IsPlaceOf refusal.Specifier text fault = Unit {0}
IsPlaceOf refusal.Url text fault = EndsAt text (url (source text)) fault
IsPlaceOf refusal.Trailing text fault = EndsAt text (behind_url (url (source text))) fault
IsPlaceOf refusal.Marker text fault =
    is_of_grammar fault.expected ≡ true → IsStopWithin text (marker (source text)) fault
IsPlaceOf refusal.Memory text fault = Unit {0}
