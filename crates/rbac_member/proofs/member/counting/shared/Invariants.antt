use Rattle.std.proofs.Common.{◌≡◌, ◌+◌, ◌++◌, drop}
use Rattle.rbac_words.specs.Message.{in_turn}
use Rattle.rbac_words.specs.declared.stamp.Stamp.{Stamp}
use Rattle.rbac_member.proofs.member.counting.shared.Given as goal

-- the commands so far, and those that follow them at the next place
abbrev pub invariant-loop-place : goal.invariant-loop-place
invariant-loop-place l =
    let s : Stamp = record { clock = l.stamp.clock; member = l.stamp.member; place = l.stamp.place + l.place } in
    l.held.items ++ in_turn s l.caller (l.serial + l.place) (drop l.place l.commands) ≡ in_turn l.stamp l.caller l.serial l.commands
