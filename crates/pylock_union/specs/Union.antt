-- The files of several locks, each once.
use Rattle.std.specs.Prelude.{ℕ, Bool, ◌&&◌, not, ◌++◌, List, [], ◌∷◌, if◌then◌else◌, map}
use Rattle.std.specs.Prelude.{Option, None, Some, Result, Ok, Err}
use Rattle.std.specs.List.{find, flat_map, list_any}
use Rattle.std.specs.Option.{option_map_or}
use Rattle.std.specs.Str.{bytes_eq}
use Rattle.pylock_compare.specs.Texts.{Texts, are_alike}
use Rattle.pylock_readers.specs.Entry.{place_of}
use Rattle.pylock_core.specs.Session.Picks.{SourceValue, source_commit_id, source_file_name}
use Rattle.pylock_core.specs.Session.Picks.{source_hashes, source_location, source_subdirectory}
use Rattle.pylock_core.specs.Session.Picks.{source_vcs_kind, source_word}
use Rattle.pylock_union.specs.Listed.{LockSourceValue}

-- what makes two sources one file: of a wheel or an sdist its file name; of another source its
-- kind, its place, the type and the commit of its revision, and its subdirectory
unfoldable pub file_key : SourceValue → Texts
file_key source =
    option_map_or (λ name. Some name ∷ []) (source_file_name source)
    (Some (source_word source) ∷ Some (place_of (source_location source))
    ∷ source_vcs_kind source ∷ source_commit_id source ∷ source_subdirectory source ∷ [])

abbrev pub is_same_file : LockSourceValue → LockSourceValue → Bool
is_same_file one other = are_alike (file_key one.source) (file_key other.source)

-- ---- each file once

-- those of a list that are not the same file as an earlier one; `before` stand before the list
abbrev pub firsts_after : (before list : List LockSourceValue) → List LockSourceValue
firsts_after before [] = []
firsts_after before (one ∷ list) =
    if list_any (is_same_file one) before then firsts_after (before ++ one ∷ []) list
    else one ∷ firsts_after (before ++ one ∷ []) list

-- ---- what differs

-- what a source says of its file: that its hash of this algorithm is this value
pub record ClaimValue : Type 0 where
  pub source : LockSourceValue
  pub algorithm : List ℕ
  pub value : List ℕ

abbrev pub claim_of : LockSourceValue → List ℕ × List ℕ → ClaimValue
claim_of one hash = record { source = one; algorithm = hash.0; value = hash.1 }

abbrev pub claims_of : LockSourceValue → List ClaimValue
claims_of one = map (claim_of one) (source_hashes one.source)

-- what a claim is of: a file and an algorithm
abbrev pub claim_key : ClaimValue → Texts
claim_key claim = file_key claim.source.source ++ Some claim.algorithm ∷ []

-- two claims of one file and one algorithm have different values
abbrev pub contradicts : ClaimValue → ClaimValue → Bool
contradicts one other =
    are_alike (claim_key one) (claim_key other) && not (bytes_eq one.value other.value)

-- the first claim of a list that contradicts an earlier one, behind the first that it contradicts;
-- `before` stand before the list
abbrev pub first_clash : (before claims : List ClaimValue) → Option (ClaimValue × ClaimValue)
first_clash before [] = None
first_clash before (claim ∷ claims) =
    option_map_or (λ earlier. Some (earlier, claim)) (find (contradicts claim) before)
    (first_clash (before ++ claim ∷ []) claims)

-- ---- the union

-- each file once, for the first source that is it; refused with the sources of the first two claims
-- that contradict each other
abbrev pub united : List LockSourceValue → Result (List LockSourceValue)
    (LockSourceValue × LockSourceValue)
united list =
    option_map_or (λ clash. Err (clash.0.source, clash.1.source))
    (first_clash [] (flat_map claims_of list)) (Ok (firsts_after [] list))
