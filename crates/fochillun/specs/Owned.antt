-- What the holder of an address owns.
use Rattle.std.specs.Prelude.{Option, Some, None}
use mir.Syntax.{Ty}
use base.Fml.{Fml, ftrue}
use denote.RattleType.{RattleType}
use denote.RawPtr.{Ptr}
use Rattle.std.specs.Box.Ownership.{box_owns}
use Rattle.std.specs.contracts.impls.GlobalAllocator.TheImpl.{ghosts}

-- the right to free a block of the heap; no handle of the heap is told from another
abbrev pub may_free : Ty → Ptr → Fml
may_free = ghosts.dealloc_token (record { memory = record { seal = tt } })

-- the value at the address, where there is one
abbrev pub slot_owns : (R : RattleType) → Option R.Denot → Ptr → Fml
slot_owns R (Some kept) at = box_owns may_free R at kept
slot_owns R None at = ftrue
