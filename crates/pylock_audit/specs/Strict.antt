-- What a strict reading of a lock refuses: findings by which one installer may differ from another.
use Rattle.std.specs.Prelude.{ℕ, List, [], ◌∷◌, filter, Result, Err}
use Rattle.std.specs.Result.{result_map_both, result_unwrap_or}
use Rattle.pylock_readers.specs.Lock.{LockValue}
use Rattle.pylock_readers.specs.Lock.Reading.{lock_of}
use Rattle.pylock_audit.specs.Audit.{findings_of}
use Rattle.pylock_audit.specs.Finding.{LockFindingValue}
use Rattle.pylock_audit.specs.Words.{is_refused}
use Rattle.pylock_audit.specs.declared.strict.StrictError.{StrictError}
use Rattle.pylock_audit.specs.declared.strict.StrictError.TheVariants as refusal

-- the findings among these that it refuses, in their order
abbrev pub strict_findings : List LockFindingValue → List LockFindingValue
strict_findings found = filter (λ one. is_refused one.finding.kind) found

-- those of the lock that the bytes are; what is no lock has none
abbrev pub strict_findings_of : List ℕ → List LockFindingValue
strict_findings_of bytes = strict_findings (result_unwrap_or (findings_of bytes) [])

-- what was read, unless there are findings
abbrev pub unless_found : {V : Type 0} → List LockFindingValue → Result V StrictError
    → Result V StrictError
unless_found [] read = read
unless_found (one ∷ others) read = Err (refusal.Findings (one ∷ others))

-- the lock that the bytes are, unless it has findings that are refused; or its refusal
abbrev pub strict_lock_of : List ℕ → Result LockValue StrictError
strict_lock_of bytes =
    unless_found (strict_findings_of bytes)
    (result_map_both (λ lock. lock) refusal.Lock (lock_of bytes))
