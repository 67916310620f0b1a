use Rattle.std.proofs.Common.{refl, sym, ◌∙◌, ap, max, ◌++◌, subst}
use Rattle.rbac_words.specs.Stamp.{insert_all}
use Rattle.rbac_words.specs.Message.{submitted_at, submissions_of, commands_of}
use Rattle.rbac_words.specs.Keeping.Member.{Member, IsMember}
use Rattle.rbac_words.specs.declared.stamp.Stamp.{Stamp}
use Rattle.rbac_words.specs.Keeping.Own.{own_refusal, took_own}
use Rattle.rbac_order.proofs.OwnLemmas.{own_next_is, keeps_taken}
use Rattle.rbac_member.specs.Inside.{member_of}
use Rattle.rbac_member.specs.Serials.{AreCounted}
use Rattle.rbac_member.proofs.HoldLemmas.{counted_received}
use Rattle.rbac_member.proofs.OwnHoldLemmas.{own_fits, took_is}
use Rattle.rbac_member.proofs.member.Member.take_next.Goals as goal

pub send-requires-clause-first : goal.send-requires-clause-first
send-requires-clause-first c =
    let free = ap (λ (u : Member). own_refusal u c.args.number c.args.message) c.self.view_is ∙ c.requires.accepted in
    (own_next_is (member_of c.self.inside) c.args.number c.args.message free).first

pub send-requires-clause-batch : goal.send-requires-clause-batch
send-requires-clause-batch c =
    let free = ap (λ (u : Member). own_refusal u c.args.number c.args.message) c.self.view_is ∙ c.requires.accepted in
    (own_next_is (member_of c.self.inside) c.args.number c.args.message free).batch

pub send-requires-clause-fit : goal.send-requires-clause-fit
send-requires-clause-fit c =
    let v = member_of c.self.inside in
    let free = ap (λ (u : Member). own_refusal u c.args.number c.args.message) c.self.view_is ∙ c.requires.accepted in
    own_fits v c.args.message c.self.invariant.kept (own_next_is v c.args.number c.args.message free) c.self.inside.held c.self.invariant.members refl

pub invariant_of-self-2 : goal.invariant_of-self-2
invariant_of-self-2 c =
    let v = member_of c.self.inside in
    let m = c.args.message in
    let free = ap (λ (u : Member). own_refusal u c.args.number m) c.self.view_is ∙ c.requires.accepted in
    let next = own_next_is v c.args.number m free in
    let clock = c.max-clock.ensures ∙ ap (λ (s : Stamp). max c.self.inside.clock s.clock) c.stamp.ensures in
    let is = took_is v m c.self.invariant.kept next c.max-clock.result c.send.new.outbox.sent c.send.new.held.held clock c.in_ok-send.ensures.sent c.in_ok-send.ensures.held in
    record {
      counted = subst (λ l. AreCounted c.send.new.serials.content (commands_of v.history ++ l)) (sym c.in_ok-send.ensures.held)
          (subst (λ l. AreCounted l (commands_of v.history ++ insert_all submitted_at (submissions_of m) v.held)) (sym c.in_ok-send.ensures.counted)
          (counted_received c.self.inside.serials.content v m c.self.invariant.counted next.serial));
      limit = c.send.ensures.limit ∙ c.self.invariant.limit;
      me = c.self.invariant.me;
      members = c.send.ensures.members ∙ c.self.invariant.members;
      kept = subst IsMember (sym is) (keeps_taken v m c.self.invariant.kept next);
    }

pub returns-clause-took : goal.returns-clause-took
returns-clause-took c =
    let v = member_of c.self.inside in
    let m = c.args.message in
    let free = ap (λ (u : Member). own_refusal u c.args.number m) c.self.view_is ∙ c.requires.accepted in
    let clock = c.max-clock.ensures ∙ ap (λ (s : Stamp). max c.self.inside.clock s.clock) c.stamp.ensures in
    took_is v m c.self.invariant.kept (own_next_is v c.args.number m free) c.max-clock.result c.send.new.outbox.sent c.send.new.held.held clock c.in_ok-send.ensures.sent c.in_ok-send.ensures.held
    ∙ ap (λ (u : Member). took_own u m) c.self.view_is
