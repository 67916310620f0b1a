use Rattle.std.proofs.Common.{subst, sym, ap, ◌∙◌}
use Rattle.rbac_decide.proofs.Common.{IsSound, State, authorized_count, sound_founding}
use Rattle.rbac_decide.proofs.policy.Policy.found.Goals as goal

pub invariant_of-result : goal.invariant_of-result
invariant_of-result c = record {
  sound = subst IsSound (sym (c.new.ensures.state c.args.vocabulary)) (sound_founding c.args.vocabulary c.invariants.ensures);
  same_roles = c.new.ensures.same_roles;
  counted = λ set user. (λ i. c.empty.ensures i set user) ∙ sym (ap (λ (s : State). authorized_count s set user) (c.new.ensures.state c.args.vocabulary));
}

pub returns : goal.returns
returns c = c.new.ensures.state c.args.vocabulary
