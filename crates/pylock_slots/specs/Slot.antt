-- What a slot keeps.
use Rattle.std.specs.Global.{Box}
use Rattle.std.specs.Prelude.{Option, option_map}
use Rattle.pylock_slots.specs.declared.object.Object.{Object}
use Rattle.pylock_slots.specs.declared.slot.Slot.{Slot}

-- the object of a slot
abbrev pub object : Slot → Option Object
object slot = slot.kept.object

-- the object of a box that was taken out of a slot
abbrev pub kept_object : Option (Box Object) → Option Object
kept_object kept = option_map (λ kept. kept.value) kept
