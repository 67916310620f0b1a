use Rattle.std.proofs.Common.{◌∙◌, List, length, refl, ap}
use Rattle.rbac_decide.proofs.Common.{Name, false≢true}
use Rattle.std.specs.Bool.{◌==◌}
use Rattle.rbac_decide.proofs.CheckLemmas.{granted_is_known}
use Rattle.rbac_decide.proofs.policy.Policy.deny_unknown.Goals as goal

pub returns-then-not-is_empty : goal.returns-then-not-is_empty
returns-then-not-is_empty g c =
    let known = granted_is_known c.args.self.now (g.O.Probe.sought c.args.operation.now, g.B.Probe.sought c.args.object.now) c.args.grants.now c.invariants.ensures c.requires (λ none. false≢true (c.if-not-is_empty.ensures ∙ ap (λ (grants : List Name). length grants == 0) none)) in
    rw known.0 (rw known.1 refl)
