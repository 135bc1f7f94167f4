-- When two documents hold the same lock: the same head, but for who made it, and the same entries,
-- each with all its keys, known and unknown, as values of TOML. The order of entries doesn't count,
-- nor that of keys, which stand in order in a table, nor how TOML writes them; lists count in
-- order.
use Rattle.std.specs.Prelude.{◌≡◌, ℕ, true, List, [], ◌∷◌, codes, Ok}
use Rattle.std.specs.List.Sorted.{IsPermutation}
use Rattle.toml.specs.Data.{Data, Items, Members, get_member, item, no_items}
use Rattle.pylock_readers.specs.Lock.Reading.{lock_in}
use Rattle.pytoml_code.specs.Proper.{HasProper}
use Rattle.pylock_diff.specs.Compared.{ComparedValue, compared, is_head_key, items_at}

abbrev pub values_of : Items → List Data
values_of no_items = []
values_of (item d ds) = d ∷ values_of ds

-- the entries of a document
abbrev pub entries_of : Members → List Data
entries_of document = values_of (items_at (get_member (codes "packages") document))

pub record HoldSameLock (old new : Members) : Type 0 where
  pub head : (key : List ℕ) → is_head_key key ≡ true → get_member key old ≡ get_member key new
  pub entries : IsPermutation (entries_of old) (entries_of new)

-- a lock as it was read from a document, whose values stand in memory
pub record IsRead (lock : ComparedValue) (document : Members) : Type 0 where
  pub proper : HasProper document
  pub reads : lock_in document ≡ Ok lock.lock
  pub all : lock ≡ compared document lock.lock
