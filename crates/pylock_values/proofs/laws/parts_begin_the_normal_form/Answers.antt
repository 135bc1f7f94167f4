use Rattle.pylock_values.proofs.PartsLemmas.{base_begins, public_begins}
use Rattle.pylock_values.proofs.laws.parts_begin_the_normal_form.Goals as goal

pub returns : goal.returns
returns c = record { base = base_begins; public = public_begins }
