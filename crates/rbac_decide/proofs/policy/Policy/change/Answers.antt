use Rattle.std.proofs.Common.{◌≡◌, ◌∙◌, subst, sym, ap}
use Rattle.rbac_decide.proofs.Common.{change, first_denial, IsSound, State, IsGround, state_of}
use Rattle.rbac_decide.proofs.ApplyLemmas.{sound_then}
use Rattle.rbac_decide.proofs.TablesLemmas.{same_state, roles_stay_same, counts_stay_right}
use Rattle.rbac_decide.proofs.policy.Policy.change.Goals as goal

-- where memory ends before anything is planned of the tables
pub invariant_of-self : goal.invariant_of-self
invariant_of-self c = record {
  sound = c.self.invariant.sound;
  same_roles = c.self.invariant.same_roles;
  counted = λ set user. (λ i. c.plan_counts.ensures.numbers i set user) ∙ c.self.invariant.counted set user;
}

-- where it ends in their plans
pub invariant_of-self-in_err-tables : goal.invariant_of-self-in_err-tables
invariant_of-self-in_err-tables c =
    let same = c.in_err-tables.ensures.unchanged in
    let tables = c.self.inside.tables in
    record {
      sound = subst IsSound (sym (same_state c.plan.new.self tables same c.self.inside.vocabulary)) c.self.invariant.sound;
      same_roles = roles_stay_same c.plan.new.self tables same c.self.invariant.same_roles;
      counted = counts_stay_right c.plan.new.self tables same c.self.inside.counts c.plan_counts.new.counts c.plan_counts.ensures.numbers c.self.invariant.counted;
    }

pub commit_counts-requires-clause-prepared : goal.commit_counts-requires-clause-prepared
commit_counts-requires-clause-prepared c =
    let v = c.self.inside.vocabulary in
    let tables = c.self.inside.tables in
    let made : state_of c.commit.new.self v ≡ change c.args.command.now (state_of tables v) =
    c.commit.ensures.state v ∙ ap (change c.args.command.now) (same_state c.plan.new.self tables c.in_ok-tables.ensures.unchanged v) in
    record {
      before = tables;
      step = record {
        vocabulary = v;
        sound = c.self.invariant.sound;
        undenied = ap (first_denial c.args.command.now) c.self.view_is ∙ c.in-Ok.ensures.denial;
        made = made;
        sound_after = sound_then c.args.command.now c.args.self.now (state_of tables v) (state_of c.commit.new.self v) c.invariants.ensures c.self.invariant.sound c.in-Ok.ensures.denial c.self.view_is made;
      };
      counted = λ set user. (λ i. c.plan_counts.ensures.numbers i set user) ∙ c.self.invariant.counted set user;
      grounded = subst (λ (seen : State). IsGround c.args.command.now seen c.in-Ok.gathered) (sym c.self.view_is) c.in-Ok.ensures.gathered;
      planned = c.in_ok-counts.ensures.planned;
    }

-- where all plans are made, and the change by them
pub invariant_of-self-2 : goal.invariant_of-self-2
invariant_of-self-2 c =
    let v = c.self.inside.vocabulary in
    let tables = c.self.inside.tables in
    let same = c.in_ok-tables.ensures.unchanged in
    let made : state_of c.commit.new.self v ≡ change c.args.command.now (state_of tables v) =
    c.commit.ensures.state v ∙ ap (change c.args.command.now) (same_state c.plan.new.self tables same v) in
    record {
      sound = sound_then c.args.command.now c.args.self.now (state_of tables v) (state_of c.commit.new.self v) c.invariants.ensures c.self.invariant.sound c.in-Ok.ensures.denial c.self.view_is made;
      same_roles = c.commit.ensures.same_roles (roles_stay_same c.plan.new.self tables same c.self.invariant.same_roles);
      counted = c.commit_counts.ensures;
    }
