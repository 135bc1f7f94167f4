-- The marks of the sources that are taken.
use Rattle.std.specs.Prelude.{Bool}
use Rattle.std.specs.BTreeSet.{contains}
use Rattle.pylock_core.specs.declared.answer.Pick.{Pick}
use Rattle.pylock_core.specs.declared.answer.PickSource.{PickSource}
use Rattle.pylock_core.specs.declared.answer.PickSource.TheVariants as source
use Rattle.pylock_matrix.specs.contracts.taken.MarkOrd.TheImpl.{cmp-value}
use Rattle.pylock_matrix.specs.declared.taken.Mark.{Mark}
use Rattle.pylock_matrix.specs.declared.taken.Slot.{Slot}
use Rattle.pylock_matrix.specs.declared.taken.Slot.TheVariants as slot
use Rattle.pylock_matrix.specs.declared.taken.Taken.{Taken}

abbrev pub slot_of : PickSource → Slot
slot_of source.Vcs = slot.Vcs
slot_of source.Directory = slot.Directory
slot_of source.Archive = slot.Archive
slot_of (source.Wheel place) = slot.Wheel place
slot_of source.Sdist = slot.Sdist

-- the mark of what a pick names
abbrev pub mark_of : Pick → Mark
mark_of pick = record { entry = pick.id; slot = slot_of pick.source }

-- whether it is there
abbrev pub is_taken : Taken → Pick → Bool
is_taken taken pick = contains cmp-value.it taken.marks (mark_of pick)
