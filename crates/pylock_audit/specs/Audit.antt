-- What a careful reader of a lock would want to be told, though the lock is valid: the findings of
-- its head and of its entries, in order.
use Rattle.std.specs.Prelude.{ℕ, Bool, ◌++◌, not, codes, suc, List, [], ◌∷◌, Some, None}
use Rattle.std.specs.Prelude.{is_none, Result, Ok}
use Rattle.std.specs.Str.{bytes_eq}
use Rattle.toml.specs.Data.{Data, Items, Members, as_str, get_member, item, no_items}
use Rattle.toml.specs.Data.{no_members, table}
use Rattle.pytext.specs.Results.{◌>>=◌}
use Rattle.pylock_readers.specs.Entry.{EntryValue}
use Rattle.pylock_readers.specs.Lock.{HeadValue, LockValue}
use Rattle.pylock_readers.specs.Lock.Reading.{document_in, lock_of}
use Rattle.pylock_readers.specs.declared.error.LockError.{LockError}
use Rattle.pylock_shown.specs.Hidden.{hidden}
use Rattle.pylock_audit.specs.Entry.{TableValue, entry_findings, is_other_form, of_table}
use Rattle.pylock_audit.specs.Finding.{FindingValue, LockFindingValue, finding_where}
use Rattle.pylock_audit.specs.Finding.{findings_at, findings_each}
use Rattle.pylock_audit.specs.Keys.{items_at, text_at, unknown_keys}
use Rattle.pylock_audit.specs.Source.{text_where}
use Rattle.pylock_audit.specs.Types.{wrong_types}
use Rattle.pylock_audit.specs.declared.finding.FindingKind.TheVariants as kind
use Rattle.pylock_audit.specs.declared.keys.LockTable.TheVariants as tables
use Rattle.pylock_audit.specs.declared.scope.Scope.{Scope}
use Rattle.pylock_audit.specs.declared.scope.Scope.TheVariants.{All}

-- ---- the head

abbrev pub other_lock_version : Members → List (List ℕ)
other_lock_version document =
    text_where (λ version. not (bytes_eq version (codes "1.0"))) hidden
    (text_at (codes "lock-version") document)

-- a text of a list that isn't in normal form, and all of them
abbrev pub other_form_of : Data → List (List ℕ)
other_form_of d = text_where is_other_form hidden (as_str d)

abbrev pub other_forms : Items → List (List ℕ)
other_forms no_items = []
other_forms (item d ds) = other_form_of d ++ other_forms ds

-- those of a head whose document names packages or doesn't
abbrev pub head_findings_where : Bool → Members → List FindingValue
head_findings_where has_no_packages document =
    findings_each kind.LockVersion (other_lock_version document)
    ++ findings_each kind.UnknownKey (unknown_keys tables.Head document)
    ++ findings_each kind.WrongType (wrong_types tables.Head document)
    ++ finding_where has_no_packages kind.NoPackages None
    ++ findings_each kind.NameForm (other_forms (items_at (codes "extras") document))

abbrev pub head_findings : Members → List FindingValue
head_findings document =
    head_findings_where (is_none (get_member (codes "packages") document)) document

-- ---- the entries

-- the table that an entry is; each is one in a lock
abbrev pub members_in : Data → Members
members_in (table members) = members
members_in d = no_members

-- what the tables tell
abbrev pub of_tables : Items → List TableValue
of_tables no_items = []
of_tables (item d ds) = of_table (members_in d) ∷ of_tables ds

-- the findings of entries that are asked for, the first of which has this number, with what their
-- tables tell
abbrev pub of_entries : Scope → HeadValue → ℕ → List EntryValue → List TableValue
    → List LockFindingValue
of_entries asked head number entries [] = []
of_entries asked head number [] (tells ∷ others) = []
of_entries asked head number (entry ∷ entries) (tells ∷ others) =
    findings_at number (Some entry.name) (entry_findings asked head tells entry)
    ++ of_entries asked head (suc number) entries others

-- ---- the lock

-- those of a lock, with these of its head and what the tables of its entries tell
abbrev pub lock_findings : Scope → List FindingValue → List TableValue → LockValue
    → List LockFindingValue
lock_findings asked head tables lock =
    findings_at 0 None head ++ of_entries asked lock.head 1 lock.entries tables

-- all of a document and of the lock that it is
abbrev pub document_findings : Members → LockValue → List LockFindingValue
document_findings document lock =
    lock_findings All (head_findings document) (of_tables (items_at (codes "packages") document))
    lock

-- the lock that the bytes are, with its findings, or its refusal
unfoldable pub audited_of : List ℕ → Result (LockValue × List LockFindingValue) LockError
audited_of bytes = do
  lock ← lock_of bytes
  document ← document_in bytes
  Ok (lock, document_findings document lock)

-- the findings alone
unfoldable pub findings_of : List ℕ → Result (List LockFindingValue) LockError
findings_of bytes = audited_of bytes >>= (λ audited. Ok audited.1)
