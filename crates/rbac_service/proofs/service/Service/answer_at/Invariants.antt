use Rattle.std.proofs.Common.{◌≡◌}
use Rattle.rbac_service.proofs.service.Service.answer_at.Given as goal

abbrev pub invariant-loop-turn : goal.invariant-loop-turn
invariant-loop-turn g l = (l.pass ≡ l.initial.pass) × (l.ticket ≡ l.initial.ticket)
