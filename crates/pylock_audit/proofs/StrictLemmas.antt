-- What a strict reading gives where the lock and its findings were read at once.
use Rattle.std.proofs.Common.{◌≡◌, ◌∙◌, ℕ, List, [], Result, Ok, Err, ap, refl, sym}
use Rattle.std.specs.Result.{result_map_both, result_unwrap_or}
use Rattle.toml.specs.Data.{Members}
use Rattle.pytext.specs.Results.{◌>>=◌}
use Rattle.pylock_readers.specs.Lock.{LockValue}
use Rattle.pylock_readers.specs.Lock.Reading.{document_in, lock_in, lock_of}
use Rattle.pylock_readers.specs.declared.error.LockError.{LockError}
use Rattle.pylock_audit.specs.Audit.{audited_of, findings_of, head_findings}
use Rattle.pylock_audit.specs.Finding.{LockFindingValue}
use Rattle.pylock_audit.specs.Inner.Tables.{audited_from, tables_in, with_findings}
use Rattle.pylock_audit.specs.Strict.{strict_findings, strict_lock_of, unless_found}
use Rattle.pylock_audit.specs.declared.scope.Scope.TheVariants.{All, Refused}
use Rattle.pylock_audit.specs.declared.strict.StrictError.{StrictError}
use Rattle.pylock_audit.specs.declared.strict.StrictError.TheVariants as refusal
use Rattle.pylock_audit.proofs.ScopeLemmas.{same_refused}
use Rattle.pylock_audit.proofs.TableLemmas.{alone, audited_in, read_once}

-- the lock, unless these findings are refused
abbrev pub taken : LockValue × List LockFindingValue → Result LockValue StrictError
taken audited = unless_found (strict_findings audited.1) (Ok audited.0)

abbrev pub taken_of : Result (LockValue × List LockFindingValue) LockError → Result LockValue StrictError
taken_of audited = result_map_both (λ a. a) refusal.Lock audited >>= taken

strict_once : (bytes : List ℕ) → strict_lock_of bytes ≡ taken_of (audited_of bytes)
unfolding audited_of findings_of lock_of
strict_once bytes = by (document_in bytes)
  where
    by_lock : (document : Members) (lock : Result LockValue LockError)
        → unless_found (strict_findings (result_unwrap_or (audited_in lock (Ok document) >>= alone) [])) (result_map_both (λ l. l) refusal.Lock lock)
        ≡ taken_of (audited_in lock (Ok document))
    by_lock document (Err e) = refl
    by_lock document (Ok l) = refl

    by : (document : Result Members LockError)
        → unless_found (strict_findings (result_unwrap_or (audited_in (document >>= lock_in) document >>= alone) [])) (result_map_both (λ l. l) refusal.Lock (document >>= lock_in))
        ≡ taken_of (audited_in (document >>= lock_in) document)
    by (Err e) = refl
    by (Ok d) = by_lock d (lock_in d)

-- the lock and what is refused of it, where these findings alone were asked for
refused_alone : (document : Result Members LockError) → taken_of (audited_from All document) ≡ taken_of (audited_from Refused document)
refused_alone (Err e) = refl
refused_alone (Ok d) = by (lock_in d)
  where
    by : (lock : Result LockValue LockError)
        → taken_of (with_findings All (head_findings d) (tables_in d) lock) ≡ taken_of (with_findings Refused (head_findings d) (tables_in d) lock)
    by (Err e) = refl
    by (Ok l) = ap (λ found. unless_found found (Ok l)) (sym (same_refused (head_findings d) (tables_in d) l))

pub strict_alone : (bytes : List ℕ) → strict_lock_of bytes ≡ taken_of (audited_from Refused (document_in bytes))
strict_alone bytes = strict_once bytes ∙ ap taken_of (read_once bytes) ∙ refused_alone (document_in bytes)
