use Rattle.std.proofs.Common.{◌≡◌, ◌-◌, List, set, IfOk, refl, sym, ap, subst, ◌∙◌}
use Rattle.std.proofs.lemmas.Result.{IfOk-weaker, IfErr-weaker}
use Rattle.rbac_words.specs.declared.message.Message.{Message}
use Rattle.rbac_node.specs.Node.{NodeState, Takes, TakesNext, seen_of, with_own_member}
use Rattle.rbac_node.specs.Refused.{IsRefusedOf}
use Rattle.rbac_node.proofs.MarkLemmas.{IsMarkOf, seen_by, put_back}
use Rattle.rbac_node.proofs.KeptLemmas.{Keeps, state, state_with, mark_of, kept_received}
use Rattle.rbac_node.proofs.node.Node.take.Given.{Over}
use Rattle.rbac_node.proofs.node.Node.take.Goals as goal

-- the mark of the member whose message is taken
place : (g : Over) (c : goal.After-self-1 g) → IsMarkOf c.self.inside.reads.items c.args.from c.index_mut-mark.result.now
place g c = mark_of g.G.GroupName c.self.inside c.self.invariant c.args.self.now c.args.from c.index_mut-mark.result.now c.self.view_is c.requires.from c.index_mut-mark.ensures.value

-- what it knows
known : (g : Over) (c : goal.After-self-1 g) → seen_of (state g.G.GroupName c.self.inside) c.args.from ≡ c.index_mut-mark.result.now.values
known g c = seen_by (state g.G.GroupName c.self.inside) c.self.inside.reads.items refl c.args.from c.index_mut-mark.result.now (place g c)

-- it is put back as it was
same_marks : (g : Over) (c : goal.After-self-1 g) → set c.self.inside.reads.items (c.args.from - 1) c.receive_known.new.mark ≡ c.self.inside.reads.items
same_marks g c =
    put_back (state g.G.GroupName c.self.inside) c.self.inside.reads.items refl c.args.from c.index_mut-mark.result.now (place g c) c.receive_known.new.mark c.receive_known.ensures.mark

pub invariant_of-self : goal.invariant_of-self
invariant_of-self g c =
    subst (Keeps g.G.GroupName c.self.inside c.receive_known.new.member) (sym (same_marks g c))
    (kept_received g.G.GroupName c.self.inside c.self.invariant c.receive_known.result c.args.from c.index_mut-mark.result.now.values c.receive_known.new.member (known g c) c.invariants.ensures
    c.receive_known.ensures.taken c.receive_known.ensures.unchanged)

-- only the member is another one then
same : (g : Over) (c : goal.After-self-1 g)
    → state_with g.G.GroupName c.self.inside c.receive_known.new.member (set c.self.inside.reads.items (c.args.from - 1) c.receive_known.new.mark) ≡ with_own_member (state g.G.GroupName c.self.inside) c.receive_known.new.member
same g c = ap (state_with g.G.GroupName c.self.inside c.receive_known.new.member) (same_marks g c)

pub returns-clause-taken : goal.returns-clause-taken
returns-clause-taken g c =
    let i = c.self.inside in
    let new = c.receive_known.new.member in
    let after : NodeState = state_with g.G.GroupName i new (set i.reads.items (c.args.from - 1) c.receive_known.new.mark) in
    subst (λ (n : NodeState). IfOk c.receive_known.result (λ stamp. TakesNext c.args.from n stamp after)) c.self.view_is
    (IfOk-weaker c.receive_known.result _ _
    (λ stamp taken. record { takes = subst (λ (l : List Message). Takes c.args.from l i.member stamp new) (sym (known g c)) taken; same = same g c })
    c.receive_known.ensures.taken)

pub returns-clause-first_refusal : goal.returns-clause-first_refusal
returns-clause-first_refusal g c =
    let now = c.args.self.now in
    let seen : c.index_mut-mark.result.now.values ≡ seen_of now c.args.from = sym (known g c) ∙ ap (λ (n : NodeState). seen_of n c.args.from) c.self.view_is in
    IfErr-weaker c.receive_known.result _ _
    (λ refusal is. subst (λ (l : List Message). IsRefusedOf c.args.from l now.member refusal) seen
    (subst (λ (n : NodeState). IsRefusedOf c.args.from c.index_mut-mark.result.now.values n.member refusal) c.self.view_is is))
    c.receive_known.ensures.first_refusal

pub returns-clause-unchanged : goal.returns-clause-unchanged
returns-clause-unchanged g c =
    IfErr-weaker c.receive_known.result _ _ (λ refusal unchanged. same g c ∙ ap (with_own_member (state g.G.GroupName c.self.inside)) unchanged ∙ c.self.view_is) c.receive_known.ensures.unchanged
