-- A member's slot may go to another thread.
use denote.Struct.Struct.{exits_of}
use denote.Struct.Owning.{shape, fields, to}
use denote.Param.Send.{IsSend, AllSend, owning_send, struct_send, sendable}
use Rattle.std_alloc.proofs.SendSync.{quiet}
use Rattle.rbac_embedded_member.specs.contracts.kept.KeptMember as held
use Rattle.rbac_embedded_member.proofs.kept.KeptMember.TheSendSync.{the_send as held_send}
use Rattle.fochillun.proofs.Kept.{kept_keyless}
use Rattle.fochillun.specs.contracts.member.slot.MemberSlot.{the_row, the_type}

pub send : IsSend the_row
send =
    let all : AllSend (fields the_type) = (search sendable, tt) in
    owning_send the_type all (λ d. kept_keyless held.the_row held_send d.kept d.at)
    (λ k. quiet (to the_type) (exits_of k (fields the_type)) ((struct_send (shape the_type) all).leaving k))
