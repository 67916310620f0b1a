use Rattle.std.proofs.Common.{arith, subst, sym, ◌≡◌, length}
use Rattle.rbac_words.specs.World.{World}
use Rattle.rbac_words.specs.Step.{IsStep}
use Rattle.rbac_world.specs.Inside.{IsGroupOf, shown_by}
use Rattle.rbac_world.proofs.WorldLemmas.{step_of, written}
use Rattle.rbac_world.proofs.world.World.step.Goals as goal

pub invariant_of-self : goal.invariant_of-self
invariant_of-self c =
    let n : length c.step.new.members ≡ c.self.inside.members.len = omega (arith, c.step.auto.members, c.deref_mut.ensures.len) in
    rw (written c.self.inside.members.items c.step.new.members c.self.inside.members.len n)
    (step_of c.deref_mut.result.now c.step.new.members c.args.event.now c.step.result (subst IsGroupOf (sym c.deref_mut.ensures.value) c.self.invariant) c.step.ensures).members

pub returns : goal.returns
returns c =
    let n : length c.step.new.members ≡ c.self.inside.members.len = omega (arith, c.step.auto.members, c.deref_mut.ensures.len) in
    subst (λ l. IsStep c.args.self.now c.args.event.now c.step.result (shown_by l)) (sym (written c.self.inside.members.items c.step.new.members c.self.inside.members.len n))
    (subst (λ (w : World). IsStep w c.args.event.now c.step.result (shown_by c.step.new.members)) c.self.view_is
    (subst (λ l. IsStep (shown_by l) c.args.event.now c.step.result (shown_by c.step.new.members)) c.deref_mut.ensures.value
    (step_of c.deref_mut.result.now c.step.new.members c.args.event.now c.step.result (subst IsGroupOf (sym c.deref_mut.ensures.value) c.self.invariant) c.step.ensures).step))
