-- What a slot keeps, of any type.
use mir.Raw.{raw}
use base.Shift.{Keyless}
use denote.Memory.{lone}
use denote.RattleType.{RattleType}
use denote.RawPtr.{Ptr}
use denote.Param.Send.{IsSend}
use Rattle.std.proofs.Common.{◌≡◌, Option, Some, None, is_some, true, refl}
use Rattle.std.proofs.lemmas.Bool.{false≢true}
use Rattle.std.proofs.Crossing as heap
use Rattle.std_alloc.proofs.SendSync.{lies}
use Rattle.fochillun.specs.Owned.{slot_owns}

-- the value of a slot that is not empty
pub kept_of : {X : Type 0} (kept : Option X) → is_some kept ≡ true → (k : X) × (kept ≡ Some k)
kept_of (Some k) full = (k, refl)
kept_of None full = absurd (false≢true full)

-- what it owns says the same in another thread where the value may go there, and any thread may give the block back
pub kept_keyless : (T : RattleType) → IsSend T → (kept : Option T.Denot) (at : Ptr) → Keyless (slot_owns T kept at)
kept_keyless T s None at = tt
kept_keyless T s (Some kept) at = (lies T s at kept, heap.frees.frees (record { memory = record { seal = tt } }) (raw (lone T.mir)) at)
