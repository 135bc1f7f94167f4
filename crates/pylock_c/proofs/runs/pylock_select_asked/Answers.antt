-- Where the call isn't refused, the record was kept.
use Rattle.std.proofs.Common.{◌≡◌, rules}
use Rattle.std.specs.Prelude.{None}
use Rattle.pylock_memory.specs.Parts.{cut_by}
use Rattle.pylock_slots.specs.Asked.{AsksOfJoined}
use Rattle.pylock_slots.specs.Slot.{object}
use Rattle.pylock_c.proofs.RunLemmas.{kept_record}
use Rattle.pylock_c.proofs.runs.pylock_select_asked.Goals as goal

pub returns-clause-told : goal.returns-clause-told
returns-clause-told c = λ ok.
    kept_record c.asked_of_select.result (AsksOfJoined c.args.word_lengths.now c.args.words.now) (cut_by c.args.word_lengths.now c.args.words.now ≡ None) (object c.args.asked.now)
    c.asked_of_select.ensures.told c.asked_of_select.ensures.refused c.keep_asked.ensures.kept c.keep_asked.ensures.refused (Prim.search rules)
