use Rattle.std.proofs.Common.{◌≡◌, ◌∙◌, ◌∷◌, ◌+◌, [], Err, ap, drop, rules, sym}
use Rattle.std.proofs.lemmas.List.{map-append}
use Rattle.pylock_program.proofs.FilesLemmas.{lock_refused, no_lock_left, one_lock}
use Rattle.pylock_program.specs.Files.{lock_in, locks_from}
use Rattle.pylock_program.specs.Inner.Audit.{file_bytes}
use Rattle.pylock_program.specs.Inner.Files.{read_view, reads_view}
use Rattle.pylock_program.proofs.files.read_locks.Goals as goal

pub returns-in_err-lock : goal.returns-in_err-lock
returns-in_err-lock c =
    let same : c.from_residual-in_err-lock.result ≡ Err c.in_err-lock.field-0.0 = search rules in
    rw same (λ other. sym c.loop-file.invariant
    ∙ lock_refused c.args.described c.args.files.now c.loop-file.file-index _ (reads_view c.loop-file.locks.items) c.loop-file-test.true
    c.in_err-lock.field-0.0.cause (ap (λ f. lock_in c.args.described f.bytes.items) (sym c.file-item.is) ∙ c.in_err-lock.ensures other))

pub loop-file-preserved : goal.loop-file-preserved
loop-file-preserved c =
    ap (λ locks. locks_from (reads_view locks) c.args.described (file_bytes (drop (c.loop-file.file-index + 1) c.args.files.now))) c.in-Ok.ensures.items
    ∙ ap (λ before. locks_from before c.args.described (file_bytes (drop (c.loop-file.file-index + 1) c.args.files.now)))
    (map-append read_view c.loop-file.locks.items (c.in_ok-lock.lock ∷ []))
    ∙ sym (one_lock c.args.described c.args.files.now c.loop-file.file-index _ (reads_view c.loop-file.locks.items) c.loop-file-test.true
    (read_view c.in_ok-lock.lock) (ap (λ f. lock_in c.args.described f.bytes.items) (sym c.file-item.is) ∙ c.in_ok-lock.ensures))
    ∙ c.loop-file.invariant

pub returns : goal.returns
returns c = sym c.loop-file.invariant
    ∙ no_lock_left c.args.described c.args.files.now c.loop-file.file-index (reads_view c.loop-file.locks.items) c.loop-file-test.false
