use Rattle.std.proofs.Common.{◌≡◌, drop}
use Rattle.rbac_decide.proofs.Common.{first_where, Name, is_broken, Session}
use Rattle.rbac_decide.proofs.policy.Policy.session_breaking.Given as goal

abbrev pub invariant-loop-place : goal.invariant-loop-place
invariant-loop-place l =
    first_where (λ (x : Name × Session). is_broken x.1.active (record { roles = l.roles; cardinality = l.n })) l.self.sessions
    ≡ first_where (λ (x : Name × Session). is_broken x.1.active (record { roles = l.roles; cardinality = l.n })) (drop l.place l.self.sessions)
