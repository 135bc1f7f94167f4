-- The text of a version is kept with its number, and a refusal leaves both places.
use Rattle.std.proofs.Common.{◌≡◌, ap, pos, rules, sym}
use Rattle.std.specs.Prelude.{Ok, Some}
use Rattle.pyver_algebra.specs.declared.sets.Answer.TheVariants as of_set
use Rattle.pyver_core.specs.Version.Normal.{normal_text}
use Rattle.pylock_c.specs.Algebra.{told_of, version_told}
use Rattle.pylock_c.proofs.AlgebraLemmas.{told_err}
use Rattle.pylock_slots.proofs.AnswerLemmas.{told_as}
use Rattle.pylock_slots.specs.Slot.{object}
use Rattle.pylock_slots.specs.declared.object.Object.TheVariants as kind
use Rattle.pylock_c.proofs.algebra.leave_version.Goals as goal

pub returns-in-Ok-No : goal.returns-in-Ok-No
returns-in-Ok-No c =
    let is : c.args.outcome ≡ Ok (of_set.No c.in-Ok-No.version) = cc in
    told_as (ap (told_of (version_told (object c.args.slot.now, c.args.answer.now))) (sym is)) (Prim.search rules)
    (c.keep_with.ensures (Ok (Some (kind.Text (normal_text c.in-Ok-No.version)), pos 0)) c.no_by.ensures)

pub returns-in-Err : goal.returns-in-Err
returns-in-Err c =
    told_err (ap (told_of (version_told (object c.args.slot.now, c.args.answer.now))) c.in-Err.is) (Prim.search rules)
