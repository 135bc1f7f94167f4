-- An environment is kept with its number, and a refusal leaves both places.
use Rattle.std.proofs.Common.{◌≡◌, ap, pos, rules, sym}
use Rattle.std.specs.Prelude.{Ok, Some}
use Rattle.pymark_algebra.specs.declared.answer.Answer.TheVariants as of_marker
use Rattle.pylock_c.specs.Algebra.{environment_told, told_of}
use Rattle.pylock_c.proofs.AlgebraLemmas.{told_err}
use Rattle.pylock_slots.proofs.AnswerLemmas.{told_as}
use Rattle.pylock_slots.specs.Slot.{object}
use Rattle.pylock_slots.specs.declared.object.Object.TheVariants as kind
use Rattle.pylock_c.proofs.algebra.leave_environment.Goals as goal

pub returns-in-Ok-No : goal.returns-in-Ok-No
returns-in-Ok-No c =
    let is : c.args.outcome ≡ Ok (of_marker.No c.in-Ok-No.environment) = cc in
    told_as (ap (told_of (environment_told (object c.args.slot.now, c.args.answer.now))) (sym is)) (Prim.search rules)
    (c.keep_with.ensures (Ok (Some (kind.Environment c.in-Ok-No.environment), pos 0)) (Prim.search rules))

pub returns-in-Err : goal.returns-in-Err
returns-in-Err c =
    told_err (ap (told_of (environment_told (object c.args.slot.now, c.args.answer.now))) c.in-Err.is) (Prim.search rules)
