-- The best ranks of tag sets in a list of tags, and the best wheels by them.
use Rattle.std.specs.Prelude.{◌≡◌, ℕ, List, Option, Some, None, Result, Ok, Err, slice_index_or}
use Rattle.pywheel_core.specs.Choice.{Ranked, best, rank_from}
use Rattle.pywheel_core.specs.Tag.{TagValue}
use Rattle.pywheel_core.specs.Wheel.Reading.{set_tags_in}
use Rattle.pywheel_core.specs.Wheel.Value.{WheelValue}
use Rattle.pywheel_core.specs.declared.error.WheelError.{WheelError}
use Rattle.pylock_readers.specs.Entry.{EntryValue}
use Rattle.pylock_core.specs.declared.edit.Policy.{Policy}
use Rattle.pylock_core.specs.declared.edit.Policy.TheVariants as policy
use Rattle.pylock_core.specs.declared.session.judging.ranks.BestWheel.{BestWheel}
use Rattle.pylock_core.specs.declared.session.judging.ranks.Ranks.{Ranks}
use Rattle.pylock_core.specs.declared.session.tables.tag_sets.TagSets.{TagSets}
use Rattle.pylock_core.specs.Inner.Tables.TagSets.{set_text, set_number, names_in}

-- ---- ranks

-- the least rank of these tags, where they were read
abbrev pub least_of : Result (List TagValue) WheelError → List TagValue → Option ℕ
least_of (Ok own) tags = rank_from None own tags
least_of (Err error) tags = None

-- the best rank among the tags that a compressed tag set stands for
abbrev pub set_rank : List ℕ → List TagValue → Option ℕ
set_rank set tags = least_of (set_tags_in set) tags

-- the best rank of the wheel at a place
abbrev pub rank_at : Option EntryValue → ℕ → List TagValue → Option ℕ
rank_at entry place tags = set_rank (set_text (slice_index_or (names_in entry) place None)) tags

-- the rank of the set of this number, if it was found
abbrev pub rank_found : Ranks → ℕ → Option (Option ℕ)
rank_found ranks n = slice_index_or ranks.found.items n None

-- what was found are the ranks of the sets
abbrev pub AreRanks : TagSets → List TagValue → Ranks → Type 0
AreRanks sets tags ranks =
    (set : List ℕ) (n : ℕ) (rank : Option ℕ) → set_number sets set ≡ Some n
    → rank_found ranks n ≡ Some rank → rank ≡ set_rank set tags

-- ---- the best wheel

-- the build tag that a file name says
abbrev pub build_of : Option WheelValue → Option (List ℕ)
build_of None = None
build_of (Some wheel) = wheel.build

-- a wheel among these, with its build tag
abbrev pub with_build : List (Option WheelValue) → BestWheel → Ranked
with_build wheels b = record {
  rank = b.rank;
  build = build_of (slice_index_or wheels b.place None);
  place = b.place;
}

-- the best wheel, unless the policy is to install from source
abbrev pub best_under : Policy → List (Option WheelValue) → List TagValue → Option ℕ
best_under policy.Any wheels tags = best wheels tags
best_under policy.Wheel wheels tags = best wheels tags
best_under policy.Source wheels tags = None
