-- The order of versions (PEP 440, "Summary of permitted suffixes and relative ordering").
use Rattle.std.specs.Prelude.{◌≡◌, ℕ, ◌-◌, List, [], ◌∷◌, ◌++◌, length, replicate, Option, Some}
use Rattle.std.specs.Prelude.{None, Bool}
use Rattle.std.specs.Ordering.{is_eq, is_lt, nat_cmp, ordering_then}
use Rattle.std.specs.Option.{option_cmp}
use Rattle.std.specs.Cmp.Lexicographic.{slice_cmp}
use Rattle.std.specs.declared.cmp.Ordering.{Ordering}
use Rattle.std.specs.declared.cmp.Ordering.TheVariants.{Less, Equal, Greater}
use Rattle.pyver_core.specs.Version.Parts.{Parts}
use Rattle.pyver_core.specs.declared.version.part.PreKind.{PreKind}
use Rattle.pyver_core.specs.declared.version.part.PreKind.TheVariants.{A, B, Rc}
use Rattle.pyver_core.specs.declared.version.part.LocalPart.{LocalPart}
use Rattle.pyver_core.specs.declared.version.part.LocalPart.TheVariants.{Number, Text}

-- the numbers of a release with zeros after them, up to `count` numbers
abbrev pub with_zeros : ℕ → List ℕ → List ℕ
with_zeros count release = release ++ replicate (count - length release) 0

-- releases: number by number, the shorter one padded with zeros to the length of the longer
unfoldable pub release_cmp : List ℕ → List ℕ → Ordering
release_cmp a b = slice_cmp nat_cmp (with_zeros (length b) a) (with_zeros (length a) b)

-- the letters of pre-releases, lowest first
abbrev pub letter_rank : PreKind → ℕ
letter_rank A = 1
letter_rank B = 2
letter_rank Rc = 3

-- the phase, lowest first: a developmental release that is neither a pre- nor a post-release; the
-- pre-releases by their letter; every other version
abbrev pub phase_rank : Option (PreKind × ℕ) → Option ℕ → Option ℕ → ℕ
phase_rank None None (Some dev) = 0
phase_rank (Some pre) post dev = letter_rank pre.0
phase_rank None post dev = 4

-- two pre-releases of one letter go by their number
abbrev pub phase_number : Option (PreKind × ℕ) → ℕ
phase_number None = 0
phase_number (Some pre) = pre.1

-- developmental releases: by number, and then what is none
abbrev pub dev_cmp : Option ℕ → Option ℕ → Ordering
dev_cmp (Some m) (Some n) = nat_cmp m n
dev_cmp (Some m) None = Less
dev_cmp None (Some n) = Greater
dev_cmp None None = Equal

-- segments of a local part: a number is greater than a text, numbers by value, texts by code point
abbrev pub segment_cmp : LocalPart → LocalPart → Ordering
segment_cmp (Number m) (Number n) = nat_cmp m n
segment_cmp (Number m) (Text b) = Greater
segment_cmp (Text a) (Number n) = Less
segment_cmp (Text a) (Text b) = slice_cmp nat_cmp a b

-- comparisons in turn: the first that tells two things apart decides
abbrev pub cmp_in_turn : List Ordering → Ordering
cmp_in_turn [] = Equal
cmp_in_turn (first ∷ rest) = ordering_then first (cmp_in_turn rest)

-- the epoch, the release, the phase, the post-release (none is least), the developmental release,
-- and the local part segment by segment, a proper prefix being less and no local part the least
unfoldable pub version_cmp : Parts → Parts → Ordering
version_cmp v w = cmp_in_turn (
    nat_cmp v.epoch w.epoch
    ∷ release_cmp v.release w.release
    ∷ nat_cmp (phase_rank v.pre v.post v.dev) (phase_rank w.pre w.post w.dev)
    ∷ nat_cmp (phase_number v.pre) (phase_number w.pre)
    ∷ option_cmp nat_cmp v.post w.post
    ∷ dev_cmp v.dev w.dev
    ∷ slice_cmp segment_cmp v.local w.local
    ∷ [])

-- v stands before w
abbrev pub IsBefore : Parts → Parts → Type 0
IsBefore v w = version_cmp v w ≡ Less

-- v and w are equal as versions: no comparison tells them apart
abbrev pub IsSame : Parts → Parts → Type 0
IsSame v w = version_cmp v w ≡ Equal

-- the tests of the two
abbrev pub is_before : Parts → Parts → Bool
is_before v w = is_lt (version_cmp v w)

abbrev pub is_same : Parts → Parts → Bool
is_same v w = is_eq (version_cmp v w)
