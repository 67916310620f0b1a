use Rattle.std.proofs.Common.{◌≡◌, Ok, IfOk, subst, sym, ap, ◌∙◌}
use Rattle.rbac_decide.proofs.Common.{IsSound, numbers_of, state_of, HaveSameSets}
use Rattle.rbac_decide.proofs.TablesLemmas.{same_state, roles_stay_same, counts_stay_right}
use Rattle.rbac_decide.proofs.policy.Policy.copy.Goals as goal

pub invariant_of-result : goal.invariant_of-result
invariant_of-result c =
    let old = c.self.inside.tables in
    let copy = c.in_ok-tables.tables in
    let counts = c.in_ok-tables.counts in
    let v = c.self.inside.vocabulary in
    let outer = c.in_ok-tables.ensures in
    let inner = subst (λ r. IfOk r (λ both. (c.copy.result ≡ Ok both.0) × (c.copy-2.result ≡ Ok both.1))) outer.0 c.both-tables.ensures in
    let same : HaveSameSets copy old = subst (λ r. IfOk r (λ tables. HaveSameSets tables old)) inner.0 c.copy.ensures in
    let counted : counts ≡ c.self.inside.counts = subst (λ r. IfOk r (λ copied. copied ≡ c.self.inside.counts)) inner.1 c.copy-2.ensures in
    let words : c.in_ok-tables.vocabulary ≡ v = subst (λ r. IfOk r (λ copied. copied ≡ v)) outer.1 c.copy-3.ensures in
    record {
      sound = subst IsSound (sym (ap (state_of copy) words ∙ same_state copy old same v)) c.self.invariant.sound;
      same_roles = roles_stay_same copy old same c.self.invariant.same_roles;
      counted = counts_stay_right copy old same c.self.inside.counts counts (ap numbers_of counted) c.self.invariant.counted;
    }
