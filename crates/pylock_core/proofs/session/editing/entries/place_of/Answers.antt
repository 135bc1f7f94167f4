use Rattle.std.proofs.Common.{◌<◌, ◌-◌, None, is_some, IsSome, get_or, ap, sym, arith}
use Rattle.pylock_core.proofs.Lemmas.Editing.Entries.{place_there}
use Rattle.pylock_core.proofs.session.editing.entries.place_of.Goals as goal
use Rattle.pylock_core.proofs.session.editing.entries.place_of.Goals.{In-Some}

there : (c : In-Some) → (0 < c.args.number) × IsSome (get_or c.args.parts.now.entries.items (c.args.number - 1) None)
there c = place_there c.args.number c.args.parts.now.entries.items (sym (ap is_some (rw c.as_slice.ensures.value at c.in-Some.ensures)))

pub overflow_sub-result : goal.overflow_sub-result
overflow_sub-result c = let least = (there (goal.at.overflow_sub-result c).In-Some).0 in omega (arith, least)

pub returns-in-Some-clause-place : goal.returns-in-Some-clause-place
returns-in-Some-clause-place c = let least = (there (goal.at.returns-in-Some-clause-place c).In-Some).0 in omega (arith, least)

pub returns-in-Some-clause-there : goal.returns-in-Some-clause-there
returns-in-Some-clause-there c = (there (goal.at.returns-in-Some-clause-there c).In-Some).1
