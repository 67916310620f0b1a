use Rattle.std.proofs.Common.{◌≡◌, ◌-◌, length, set, refl, sym, ap, subst, ◌∙◌, arith}
use Rattle.std.proofs.lemmas.Option.{slice_get_past}
use Rattle.std.proofs.lemmas.Result.{IfOk-weaker}
use Rattle.rbac_board.specs.Known.{IsOf}
use Rattle.rbac_words.specs.World.{read_of}
use Rattle.rbac_words.specs.Keeping.Member.{node_of}
use Rattle.rbac_member.specs.Calls.{taken_of}
use Rattle.rbac_node.specs.Node.{NodeState, SeesMore, seen_of}
use Rattle.rbac_node.proofs.MarkLemmas.{IsMarkOf, seen_by, put_back, seen_there, sees_more}
use Rattle.rbac_node.proofs.KeptLemmas.{state, state_with, mark_of, kept_seen, taken_is_read}
use Rattle.rbac_node.proofs.node.Node.see.Given.{Over}
use Rattle.rbac_node.proofs.node.Node.see.Goals as goal

-- the mark of the member whose row is read
place : (g : Over) (c : goal.After-self-1 g) → IsMarkOf c.self.inside.reads.items c.args.from c.index_mut.result.now
place g c = mark_of g.G.GroupName c.self.inside c.self.invariant c.args.self.now c.args.from c.index_mut.result.now c.self.view_is c.requires.from c.index_mut.ensures.value

pub invariant_of-self : goal.invariant_of-self
invariant_of-self g c =
    kept_seen g.G.GroupName c.self.inside c.self.invariant c.args.from c.index_mut.result.now c.see_next.new.mark (place g c) c.see_next.ensures.more
    (subst (λ row. IsOf row c.see_next.new.mark) c.requires.row c.see_next.ensures.of)

pub returns-clause-more : goal.returns-clause-more
returns-clause-more g c =
    let i = c.self.inside in
    let new = c.see_next.new.mark in
    subst (λ (n : NodeState). SeesMore c.args.from n (state_with g.G.GroupName i i.member (set i.reads.items (c.args.from - 1) new))) c.self.view_is
    (sees_more (state g.G.GroupName i) i.reads.items refl c.args.from c.index_mut.result.now (place g c) new c.see_next.ensures.more c.see_next.ensures.one)

-- how many messages of that member were read
count : (g : Over) (c : goal.After-self-1 g) → c.read-next.result ≡ read_of (node_of c.args.self.now.member) c.args.from
count g c =
    c.read-next.ensures ∙ ap (λ (n : NodeState). taken_of n.member c.args.from) c.self.view_is ∙ taken_is_read c.args.self.now.member c.args.from c.requires.from

pub returns-clause-shown : goal.returns-clause-shown
returns-clause-shown g c =
    let i = c.self.inside in
    let there = seen_there (state g.G.GroupName i) i.reads.items refl c.args.from c.index_mut.result.now (place g c) c.see_next.new.mark in
    IfOk-weaker c.see_next.result _ _ (λ shown below is. rw (there, ← count g c) (below is)) c.see_next.ensures.shown

pub returns-clause-not_shown : goal.returns-clause-not_shown
returns-clause-not_shown g c =
    let i = c.self.inside in
    let n = state g.G.GroupName i in
    let from = c.args.from in
    let mark = c.index_mut.result.now in
    let known : seen_of c.args.self.now from ≡ mark.values = ap (λ (n : NodeState). seen_of n from) (sym c.self.view_is) ∙ seen_by n i.reads.items refl from mark (place g c) in
    IfOk-weaker c.see_next.result _ _
    (λ shown same is. (
      ap (state_with g.G.GroupName i i.member) (put_back n i.reads.items refl from mark (place g c) c.see_next.new.mark (same is).0) ∙ c.self.view_is,
      slice_get_past (seen_of c.args.self.now from) (read_of (node_of c.args.self.now.member) from)
          (let long : length (seen_of c.args.self.now from) ≡ length mark.values = ap length known in let next : c.read-next.result ≡ length mark.values = (same is).1 in omega (arith, count g c)),
    ))
    c.see_next.ensures.not_shown
