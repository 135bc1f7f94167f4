-- When two plans pick the same: their picks, numbers apart, are the same multiset with all fields.
-- The order of picks doesn't count.
use Rattle.std.specs.Prelude.{ℕ, List, [], ◌∷◌, map, Option, IsPermutation}
use Rattle.std.specs.Cmp.Lexicographic.{slice_cmp}
use Rattle.std.specs.FinMap as map_of
use Rattle.std.specs.Ordering.{nat_cmp}
use Rattle.pylock_readers.specs.Entry.{EntryValue, FileValue, file_name}
use Rattle.pylock_core.specs.Session.Picks.{SourceValue, OfVcs, OfDirectory, OfArchive, OfWheel}
use Rattle.pylock_core.specs.Session.Picks.{OfSdist}
use Rattle.pylock_core.specs.Session.State.{State}
use Rattle.pylock_core.specs.declared.answer.Answer.{Answer}
use Rattle.pylock_core.specs.declared.answer.Answer.TheVariants.{Plan, Fault}
use Rattle.pylock_core.specs.declared.answer.Pick.{Pick}
use Rattle.pylock_diff.specs.Item.{picked_entries}

-- hashes by algorithm: of each the value that comes last
abbrev pub HashMap : Type 0
HashMap = map_of.FinMap (slice_cmp nat_cmp) (List ℕ)

abbrev pub with_hashes : List (List ℕ × List ℕ) → HashMap → HashMap
with_hashes [] table = table
with_hashes (hash ∷ hashes) table =
    with_hashes hashes (map_of.insert table hash.0 hash.1)

-- the same as a list, in order of algorithm, each once
abbrev pub by_algorithm : List (List ℕ × List ℕ) → List (List ℕ × List ℕ)
by_algorithm hashes = map_of.entries (with_hashes hashes map_of.empty)

-- a file with the file name that a plan shows, be it by its key or by its place
abbrev pub file_fields : FileValue → FileValue
file_fields file = record {
  name = file_name file;
  location = file.location;
  hashes = by_algorithm file.hashes;
}

-- a source with all its fields
abbrev pub source_fields : SourceValue → SourceValue
source_fields (OfVcs vcs) = OfVcs vcs
source_fields (OfDirectory directory) = OfDirectory directory
source_fields (OfArchive archive) =
    OfArchive (record archive { hashes = by_algorithm archive.hashes })
source_fields (OfWheel file) = OfWheel (file_fields file)
source_fields (OfSdist file) = OfSdist (file_fields file)

-- a pick without its number: the version as it is written, and its source with all fields
pub record PickValue : Type 0 where
  pub name : List ℕ
  pub version : Option (List ℕ)
  pub source : SourceValue

abbrev pub pick_value : EntryValue × SourceValue → PickValue
pick_value pick = record {
  name = pick.0.name;
  version = pick.0.version;
  source = source_fields pick.1;
}

abbrev pub numberless : State → List Pick → List PickValue
numberless state picks = map pick_value (picked_entries state picks)

-- both are plans, and pick the same
abbrev pub PickTheSame : (old new : State) → Answer → Answer → Type 0
PickTheSame old new (Plan olds) (Plan news) =
    IsPermutation (numberless old olds) (numberless new news)
PickTheSame old new (Plan olds) (Fault number code) = ⊥
PickTheSame old new (Fault number code) answer = ⊥
