-- What a caller in another language is told of the command that a member waits for.
use Rattle.std.specs.Prelude.{Option, Some, None, Result, Ok, Err}
use Rattle.rbac_embedded_member.specs.declared.status.MemberStatus.{MemberStatus}
use Rattle.rbac_embedded_member.specs.declared.waiting.Waiting.{Waiting}
use Rattle.fochillun.specs.declared.member.calls.MemberWaiting.{MemberWaiting}

abbrev pub told_waiting : Waiting → MemberWaiting
told_waiting w = record { clock = w.stamp.clock; member = w.stamp.member; place = w.stamp.place; awaited = w.awaited }

-- all zeros, which is no command's stamp
abbrev pub nothing_waits : MemberWaiting
nothing_waits = record { clock = 0; member = 0; place = 0; awaited = 0 }

abbrev pub told_waits : Result (Option Waiting) MemberStatus → MemberWaiting
told_waits (Ok (Some w)) = told_waiting w
told_waits (Ok None) = nothing_waits
told_waits (Err status) = nothing_waits
