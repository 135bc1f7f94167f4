-- The code of an object that is refused.
use Rattle.std.proofs.Common.{rules, refl}
use Rattle.std.specs.Prelude.{Err}
use Rattle.pylock_slots.proofs.answer.keep_object.Goals as goal

pub returns-in-Err : goal.returns-in-Err
returns-in-Err c = λ definition gives. (Err c.in-Err.refusal, c.in-Err.ensures definition gives, Prim.search rules, refl)
