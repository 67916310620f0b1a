use Rattle.std.proofs.Common.{refl, sym, subst, ap, is_some, ◌∙◌}
use Rattle.rbac_terms.specs.Effect.{effect, reply}
use Rattle.rbac_terms.specs.declared.command.Command.{Command}
use Rattle.rbac_words.specs.Keeping.Member.{Member, IsMember, known, deliver_due, due_at, is_least_passed}
use Rattle.rbac_order.proofs.MemberLemmas.{keeps_delivered, known_delivered}
use Rattle.rbac_member.specs.Inside.{member_of}
use Rattle.rbac_member.specs.Serials.{AreCounted}
use Rattle.rbac_member.proofs.DeliveryLemmas.{same_first, delivered_is, due_first, due_is_least}
use Rattle.rbac_member.proofs.member.Member.deliver.Goals as goal

pub invariant_of-self-2 : goal.invariant_of-self-2
invariant_of-self-2 c =
    let v = member_of c.self.inside in
    let over = c.take_over.ensures.taken_over in
    let rest = c.take_over.new.held.held in
    let now = delivered_is v c.apply.new.self c.take_over.new.history.items c.reserve.new.self.items rest c.in-Some.next.now c.in_ok-answer.answer over
    c.in_ok-reserve.ensures.items (same_first v.held rest c.in-Some.next.now over.first c.in-Some.ensures.some.0 over.held_before)
    (c.in_ok-answer.ensures.effect ∙ ap (λ (x : Command). effect x v.policy) c.get.ensures) (c.in_ok-answer.ensures.reply ∙ ap (λ (x : Command). reply x v.policy) c.get.ensures) refl in
    let passed = due_is_least v ∙ sym (λ t. is_least_passed (c.self.invariant.members t) v.number (c.latest-latest.ensures t) v.held) ∙ c.in-Some.ensures.some.1 in
    let due = due_first v over.first rest over.held_before passed in
    record {
      counted = subst (λ (m : Member). AreCounted c.self.inside.serials.content (known m)) (sym now)
          (subst (AreCounted c.self.inside.serials.content) (known_delivered v over.first rest over.held_before) c.self.invariant.counted);
      limit = c.self.invariant.limit;
      me = c.self.invariant.me;
      members = c.take_over.ensures.members ∙ c.self.invariant.members;
      kept = subst IsMember (sym now) (keeps_delivered v over.first rest over.held_before due.0 c.self.invariant.kept);
    }

pub returns-clause-delivered : goal.returns-clause-delivered
returns-clause-delivered c =
    let v = member_of c.self.inside in
    let over = c.take_over.ensures.taken_over in
    let rest = c.take_over.new.held.held in
    let passed = due_is_least v ∙ sym (λ t. is_least_passed (c.self.invariant.members t) v.number (c.latest-latest.ensures t) v.held) ∙ c.in-Some.ensures.some.1 in
    let due = due_first v over.first rest over.held_before passed in
    delivered_is v c.apply.new.self c.take_over.new.history.items c.reserve.new.self.items rest c.in-Some.next.now c.in_ok-answer.answer over
    c.in_ok-reserve.ensures.items (same_first v.held rest c.in-Some.next.now over.first c.in-Some.ensures.some.0 over.held_before)
    (c.in_ok-answer.ensures.effect ∙ ap (λ (x : Command). effect x v.policy) c.get.ensures) (c.in_ok-answer.ensures.reply ∙ ap (λ (x : Command). reply x v.policy) c.get.ensures) refl
    ∙ sym (ap (deliver_due v) due.1)
    ∙ ap (λ (m : Member). deliver_due m (due_at m)) c.self.view_is
