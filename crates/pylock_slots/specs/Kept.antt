-- What a pointer owns that may have a box.
use base.Fml.{Fml, ftrue}
use denote.RawPtr.{Ptr}
use Rattle.std.specs.Prelude.{Bool, true, false, Option, None, Some}
use Rattle.std.specs.declared.alloc.Global.{Global}
use Rattle.std.specs.contracts.impls.GlobalAllocator.TheImpl.{ghosts}
use Rattle.std_alloc.specs.Box.Ownership.{box_owns}
use Rattle.pylock_slots.specs.declared.object.Object.{Object}
use Rattle.pylock_slots.specs.contracts.object.Object.{the_row}

-- the C library's heap
abbrev pub heap : Global
heap = record { memory = record { seal = tt } }

abbrev pub kept_at : Ptr → Option Object → Fml
kept_at p None = ftrue
kept_at p (Some object) = box_owns (ghosts.dealloc_token heap) the_row p object

abbrev pub is_full : Option Object → Bool
is_full None = false
is_full (Some _) = true
