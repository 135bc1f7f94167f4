-- The findings that a strict reading refuses are the same, whether all were asked for or these alone.
use Rattle.std.proofs.Common.{◌≡◌, ◌∙◌, ◌++◌, ℕ, List, [], ◌∷◌, Option, None, Some, Bool, true, false, suc, refl, ap, sym, filter}
use Rattle.std.proofs.lemmas.List.Elements.{filter-append}
use Rattle.pylock_readers.specs.Entry.{EntryValue}
use Rattle.pylock_readers.specs.Lock.{HeadValue, LockValue}
use Rattle.pylock_core.specs.Session.Picks.{SourceValue, sources}
use Rattle.pylock_core.specs.declared.answer.PickSource.{PickSource}
use Rattle.pylock_audit.specs.Audit.{lock_findings, of_entries}
use Rattle.pylock_audit.specs.Entry.{TableValue, controlled_version, entry_findings, of_controls, of_file_names, of_hashes, of_kinds, of_marker, of_sources, over, refused_version}
use Rattle.pylock_audit.specs.Finding.{FindingValue, LockFindingValue, findings_at, findings_each}
use Rattle.pylock_audit.specs.Source.{over_sources}
use Rattle.pylock_audit.specs.Strict.{strict_findings}
use Rattle.pylock_audit.specs.Words.{is_refused}
use Rattle.pylock_audit.specs.declared.finding.FindingKind.{FindingKind}
use Rattle.pylock_audit.specs.declared.finding.FindingKind.TheVariants as kind
use Rattle.pylock_audit.specs.declared.scope.Scope.{Scope}
use Rattle.pylock_audit.specs.declared.scope.Scope.TheVariants.{All, Refused}

abbrev Sources : Type 0
Sources = List (PickSource × SourceValue)

-- ---- of an entry

abbrev refused_among : List FindingValue → List FindingValue
refused_among findings = filter (λ one. is_refused one.kind) findings

-- the same of these are refused in both scopes
abbrev Same : (Scope → List FindingValue) → Type 0
Same findings = refused_among (findings Refused) ≡ refused_among (findings All)

none_of : (kind : FindingKind) (details : List (List ℕ)) → is_refused kind ≡ false → refused_among (findings_each kind details) ≡ []
none_of kind [] other = refl
none_of kind (detail ∷ details) other = rw other (none_of kind details other)

of_kind : (kind : FindingKind) (list : Sources) → Same (λ asked. over asked kind list)
of_kind kind list = by (is_refused kind) refl
  where
    by : (refused : Bool) → is_refused kind ≡ refused → Same (λ asked. over asked kind list)
    by true is = rw is refl
    by false is = rw is (sym (none_of kind (over_sources kind list) is))

behind : (front rest : Scope → List FindingValue) → Same front → Same rest → Same (λ asked. front asked ++ rest asked)
behind front rest fronts rests =
    filter-append (λ one. is_refused one.kind) (front Refused) (rest Refused)
    ∙ ap (λ xs. xs ++ refused_among (rest Refused)) fronts
    ∙ ap (λ xs. refused_among (front All) ++ xs) rests
    ∙ sym (filter-append (λ one. is_refused one.kind) (front All) (rest All))

and_kind : (front : Scope → List FindingValue) (kind : FindingKind) (list : Sources) → Same front → Same (λ asked. front asked ++ over asked kind list)
and_kind front kind list fronts = behind front (λ asked. over asked kind list) fronts (of_kind kind list)

and_these : (front : Scope → List FindingValue) (these : List FindingValue) → Same front → Same (λ asked. front asked ++ these)
and_these front these fronts = behind front (λ asked. these) fronts refl

of_hashes_same : (list : Sources) → Same (λ asked. of_hashes asked list)
of_hashes_same list =
    let one : Scope → List FindingValue = λ asked. over asked kind.NoHash list in
    let two : Scope → List FindingValue = λ asked. one asked ++ over asked kind.WeakHash list in
    let three : Scope → List FindingValue = λ asked. two asked ++ over asked kind.OddHash list in
    and_kind three kind.BadHash list (and_kind two kind.OddHash list (and_kind one kind.WeakHash list (of_kind kind.NoHash list)))

of_sources_same : (not_https credentials : List (List ℕ)) (list : Sources) → Same (λ asked. of_sources asked not_https credentials list)
of_sources_same not_https credentials list =
    let one : Scope → List FindingValue = λ asked. over asked kind.UnsafeFileName list in
    let two : Scope → List FindingValue = λ asked. one asked ++ over asked kind.OutsidePath list in
    let three : Scope → List FindingValue = λ asked. two asked ++ over asked kind.UnsafeSubdirectory list in
    let four : Scope → List FindingValue = λ asked. three asked ++ findings_each kind.NotHttps not_https in
    let five : Scope → List FindingValue = λ asked. four asked ++ over asked kind.NotHttps list in
    let six : Scope → List FindingValue = λ asked. five asked ++ findings_each kind.Credentials credentials in
    let seven : Scope → List FindingValue = λ asked. six asked ++ over asked kind.Credentials list in
    let eight : Scope → List FindingValue = λ asked. seven asked ++ over asked kind.SecretInUrl list in
    let paths = and_kind two kind.UnsafeSubdirectory list (and_kind one kind.OutsidePath list (of_kind kind.UnsafeFileName list)) in
    let urls = and_kind four kind.NotHttps list (and_these three (findings_each kind.NotHttps not_https) paths) in
    let users = and_kind six kind.Credentials list (and_these five (findings_each kind.Credentials credentials) urls) in
    and_kind eight kind.MovingCommit list (and_kind seven kind.SecretInUrl list users)

of_controls_same : (entry : EntryValue) (list : Sources) → Same (λ asked. of_controls asked entry list)
of_controls_same entry list =
    let version = findings_each kind.ControlCharacter (controlled_version entry) in
    and_kind (λ asked. version) kind.ControlCharacter list refl

of_entry_same : (head : HeadValue) (table : TableValue) (entry : EntryValue) → Same (λ asked. entry_findings asked head table entry)
of_entry_same head table entry =
    let list = sources entry in
    let before = table.told ++ findings_each kind.Version (refused_version entry) ++ of_marker head entry ++ of_kinds entry in
    let hashes : Scope → List FindingValue = λ asked. before ++ of_hashes asked list in
    let names : Scope → List FindingValue = λ asked. hashes asked ++ of_file_names entry in
    let places : Scope → List FindingValue = λ asked. names asked ++ of_sources asked table.not_https table.credentials list in
    let by_hashes = behind (λ asked. before) (λ asked. of_hashes asked list) refl (of_hashes_same list) in
    let by_places = behind names (λ asked. of_sources asked table.not_https table.credentials list) (and_these hashes (of_file_names entry) by_hashes) (of_sources_same table.not_https table.credentials list) in
    behind places (λ asked. of_controls asked entry list) by_places (of_controls_same entry list)

-- ---- of a lock

refused_at : (number : ℕ) (name : Option (List ℕ)) (findings : List FindingValue)
    → strict_findings (findings_at number name findings) ≡ findings_at number name (refused_among findings)
refused_at number name [] = refl
refused_at number name (one ∷ others) = by (refused_at number name others) (is_refused one.kind) refl
  where
    by : strict_findings (findings_at number name others) ≡ findings_at number name (refused_among others)
        → (refused : Bool) → is_refused one.kind ≡ refused
        → strict_findings (findings_at number name (one ∷ others)) ≡ findings_at number name (refused_among (one ∷ others))
    by more true is = rw is (ap (λ found. record { number = number; name = name; finding = one } ∷ found) more)
    by more false is = rw is more

same_entry : (head : HeadValue) (number : ℕ) (table : TableValue) (entry : EntryValue)
    → strict_findings (findings_at number (Some entry.name) (entry_findings Refused head table entry))
    ≡ strict_findings (findings_at number (Some entry.name) (entry_findings All head table entry))
same_entry head number table entry =
    refused_at number (Some entry.name) (entry_findings Refused head table entry)
    ∙ ap (findings_at number (Some entry.name)) (of_entry_same head table entry)
    ∙ sym (refused_at number (Some entry.name) (entry_findings All head table entry))

same_entries : (head : HeadValue) (number : ℕ) (entries : List EntryValue) (tables : List TableValue)
    → strict_findings (of_entries Refused head number entries tables) ≡ strict_findings (of_entries All head number entries tables)
same_entries head number [] [] = refl
same_entries head number (entry ∷ entries) [] = refl
same_entries head number [] (table ∷ tables) = refl
same_entries head number (entry ∷ entries) (table ∷ tables) =
    let here : Scope → List LockFindingValue = λ asked. findings_at number (Some entry.name) (entry_findings asked head table entry) in
    let later : Scope → List LockFindingValue = λ asked. of_entries asked head (suc number) entries tables in
    filter-append (λ one. is_refused one.finding.kind) (here Refused) (later Refused)
    ∙ ap (λ xs. xs ++ strict_findings (later Refused)) (same_entry head number table entry)
    ∙ ap (λ xs. strict_findings (here All) ++ xs) (same_entries head (suc number) entries tables)
    ∙ sym (filter-append (λ one. is_refused one.finding.kind) (here All) (later All))

pub same_refused : (head : List FindingValue) (tables : List TableValue) (lock : LockValue)
    → strict_findings (lock_findings Refused head tables lock) ≡ strict_findings (lock_findings All head tables lock)
same_refused head tables lock =
    let front = findings_at 0 None head in
    filter-append (λ one. is_refused one.finding.kind) front (of_entries Refused lock.head 1 lock.entries tables)
    ∙ ap (λ xs. strict_findings front ++ xs) (same_entries lock.head 1 lock.entries tables)
    ∙ sym (filter-append (λ one. is_refused one.finding.kind) front (of_entries All lock.head 1 lock.entries tables))
