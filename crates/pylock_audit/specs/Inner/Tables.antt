-- What the tables of a document's entries tell, and the findings of the lock from that.
use Rattle.std.specs.Prelude.{◌≡◌, ◌≤◌, codes, nat_lt, Bool, false, is_none}
use Rattle.std.specs.Prelude.{List, [], ◌∷◌, Result, Ok, if◌then◌else◌}
use Rattle.toml.specs.Data.{Items, Members, get_member, no_items}
use Rattle.pytext.specs.Results.{◌>>=◌}
use Rattle.pylock_readers.specs.Lock.{LockValue}
use Rattle.pylock_readers.specs.Lock.Reading.{item_count, lock_in, most_entries}
use Rattle.pylock_readers.specs.declared.error.LockError.{LockError}
use Rattle.pylock_audit.specs.Audit.{head_findings, lock_findings, of_tables}
use Rattle.pylock_audit.specs.Entry.{TableValue}
use Rattle.pylock_audit.specs.Finding.{FindingValue, LockFindingValue}
use Rattle.pylock_audit.specs.Keys.{items_at}
use Rattle.pylock_audit.specs.declared.scope.Scope.{Scope}

-- the items, where a lock may have so many entries: a document that has more is refused, so none of
-- them is looked at
abbrev pub looked_at : Items → Items
looked_at items = if nat_lt most_entries (item_count items) then no_items else items

-- what the tables of a document's entries give
abbrev pub tables_in : Members → List TableValue
tables_in document = of_tables (looked_at (items_at (codes "packages") document))

-- a lock with its findings, where it isn't refused
abbrev pub with_findings : Scope → List FindingValue → List TableValue
    → Result LockValue LockError → Result (LockValue × List LockFindingValue) LockError
with_findings asked head tables lock =
    lock >>= (λ lock. Ok (lock, lock_findings asked head tables lock))

-- the lock that a document is, with its findings, or its refusal
abbrev pub document_audited : Scope → Members
    → Result (LockValue × List LockFindingValue) LockError
document_audited asked document =
    with_findings asked (head_findings document) (tables_in document) (lock_in document)

abbrev pub audited_from : Scope → Result Members LockError
    → Result (LockValue × List LockFindingValue) LockError
audited_from asked document = document >>= document_audited asked

-- ---- where the tables of the entries were taken from the document as they came

-- what was looked at of the tables: what each gives, where a lock may have so many
abbrev pub HasLooked : List TableValue → Items → Type 0
HasLooked tables taken = item_count taken ≤ most_entries → tables ≡ of_tables taken

-- the document names no packages, and none was taken from it
abbrev pub has_no_packages : List TableValue → Members → Bool
has_no_packages [] document = is_none (get_member (codes "packages") document)
has_no_packages (table ∷ tables) document = false

-- what the tables gave; where none was taken, they may stand in the document
abbrev pub tables_after : List TableValue → Members → List TableValue
tables_after [] document = tables_in document
tables_after (table ∷ tables) document = table ∷ tables
