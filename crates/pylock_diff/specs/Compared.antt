-- A lock with the codes of all its keys, known and unknown: what is compared of a document.
use Rattle.std.specs.Prelude.{ℕ, Bool, not, ◌||◌, codes, List, [], ◌∷◌, Option, Some}
use Rattle.std.specs.Prelude.{Result, Ok, if◌then◌else◌}
use Rattle.std.specs.Str.{bytes_eq}
use Rattle.toml.specs.Data.{Data, Items, Members, array, get_member, item, member, no_items}
use Rattle.toml.specs.Data.{no_members, table}
use Rattle.pytext.specs.Results.{◌>>=◌}
use Rattle.pylock_readers.specs.Lock.{LockValue}
use Rattle.pylock_readers.specs.Lock.Reading.{document_in, lock_in}
use Rattle.pylock_readers.specs.declared.error.LockError.{LockError}
use Rattle.pylock_diff.specs.Codes.{member_rows}
use Rattle.pylock_diff.specs.Head.{HeadKey, head_key}
use Rattle.pylock_diff.specs.SourceKeys.{source_rows}
use Rattle.pylock_diff.specs.declared.compared.EntryCodes.{EntryCodes}

pub record ComparedValue : Type 0 where
  pub lock : LockValue
  pub head : List HeadKey
  pub entries : List EntryCodes

-- ---- of a document

abbrev pub members_in : Data → Members
members_in (table members) = members
members_in d = no_members

abbrev pub items_at : Option Data → Items
items_at (Some (array items)) = items
items_at field = no_items

-- the head has every key but the entries, and who made the lock
abbrev pub is_head_key : List ℕ → Bool
is_head_key key = not (bytes_eq key (codes "packages") || bytes_eq key (codes "created-by"))

abbrev pub head_of : Members → List HeadKey
head_of no_members = []
head_of (member key d ds) =
    if is_head_key key then head_key key d ∷ head_of ds else head_of ds

abbrev pub entry_codes : Data → EntryCodes
entry_codes d = record { keys = member_rows (members_in d); inner = source_rows (members_in d) }

abbrev pub item_codes : Items → List EntryCodes
item_codes no_items = []
item_codes (item d ds) = entry_codes d ∷ item_codes ds

abbrev pub compared : Members → LockValue → ComparedValue
compared document lock = record {
  lock = lock;
  head = head_of document;
  entries = item_codes (items_at (get_member (codes "packages") document));
}

abbrev pub compared_in : Members → Result ComparedValue LockError
compared_in document = lock_in document >>= (λ lock. Ok (compared document lock))

-- that of the bytes
abbrev pub compared_of : List ℕ → Result ComparedValue LockError
compared_of bytes = document_in bytes >>= compared_in
