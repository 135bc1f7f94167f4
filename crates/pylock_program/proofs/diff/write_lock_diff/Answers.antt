-- What is printed of a refused lock is the report on both.
use Rattle.std.proofs.Common.{refl, Some}
use Rattle.pylock_diff.specs.Changes.{lock_changes}
use Rattle.pylock_diff.specs.Compared.{compared_of}
use Rattle.pylock_program.specs.Diff.{both_of, changes_report}
use Rattle.pylock_program.proofs.OpeningLemmas.{refused}
use Rattle.pylock_program.proofs.diff.write_lock_diff.Goals as goal

pub returns-in-Err : goal.returns-in-Err
returns-in-Err g c = refused (Some c.args.form) (Some c.args.form) (λ both. changes_report c.args.form (lock_changes both.0 both.1))
    (both_of (compared_of c.args.sides.old.now.bytes.items) (compared_of c.args.sides.new.now.bytes.items)) c.in-Err.refusal.cause _ _ _
    refl c.write_refusal.ensures.printed c.write_refusal.ensures.memory c.in-Err.ensures
