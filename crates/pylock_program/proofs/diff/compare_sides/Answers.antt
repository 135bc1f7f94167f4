use Rattle.pylock_program.proofs.diff.compare_sides.Goals as goal

pub returns-in-Some : goal.returns-in-Some
returns-in-Some g c = rw c.in-Some.is c.compare_plans.ensures
