use Rattle.std.proofs.Common.{refl, sym, ◌∙◌, ap, ◌+◌, ◌++◌, subst, length}
use Rattle.std.specs.List.{filter}
use Rattle.rbac_words.specs.Stamp.{insert_all}
use Rattle.rbac_words.specs.Front.{is_of}
use Rattle.rbac_words.specs.Message.{submitted_at, in_turn, next_serial, commands_of}
use Rattle.rbac_words.specs.World.{stamp, submit_refusal}
use Rattle.rbac_words.specs.Keeping.Member.{Member, IsMember, known, node_of, submitted}
use Rattle.rbac_words.specs.declared.stamp.Stamp.{Stamp}
use Rattle.rbac_order.proofs.MemberLemmas.{passed_submit, keeps_submit}
use Rattle.rbac_member.specs.Inside.{member_of}
use Rattle.rbac_holdback.specs.Holdback.{CanAllBeHeld}
use Rattle.rbac_member.specs.Serials.{AreCounted}
use Rattle.rbac_member.proofs.SerialLemmas.{counted-held}
use Rattle.rbac_member.proofs.HoldLemmas.{batch_fits, submitted_is}
use Rattle.rbac_member.proofs.member.Member.send_next.Goals as goal

pub send-requires-clause-first : goal.send-requires-clause-first
send-requires-clause-first c = ap (λ (s : Stamp). s.place) c.requires.next

pub send-requires-clause-batch : goal.send-requires-clause-batch
send-requires-clause-batch c = (passed_submit c.args.self.now c.args.caller c.args.serial (length c.args.commands) c.requires.accepted).batch

pub send-requires-clause-fit : goal.send-requires-clause-fit
send-requires-clause-fit c =
    let v = member_of c.self.inside in
    let next = c.requires.next ∙ ap (λ (m : Member). stamp (m.clock + 1) m.number) (sym c.self.view_is) in
    subst (λ (s : Stamp). CanAllBeHeld c.self.inside.held (in_turn s c.args.caller c.args.serial c.args.commands)) (sym next)
    (batch_fits v c.args.caller c.args.serial c.args.commands c.self.invariant.kept c.self.inside.held c.self.invariant.members refl)

pub invariant_of-self-2 : goal.invariant_of-self-2
invariant_of-self-2 c =
    let v = member_of c.self.inside in
    let next = c.requires.next ∙ ap (λ (m : Member). stamp (m.clock + 1) m.number) (sym c.self.view_is) in
    let free = ap (λ (m : Member). submit_refusal m.group (node_of m) c.args.caller c.args.serial (length c.args.commands)) c.self.view_is ∙ c.requires.accepted in
    let sent = c.in_ok-send.ensures.sent in
    let is = submitted_is v c.args.caller c.args.serial c.args.commands c.args.next c.send.new.outbox.sent c.send.new.held.held next sent c.in_ok-send.ensures.held c.self.invariant.kept in
    let turn = (passed_submit v c.args.caller c.args.serial (length c.args.commands) free).next ∙ ap (next_serial c.args.caller) (sym c.self.invariant.kept.own) ∙ ap (λ (s : Stamp). next_serial c.args.caller (filter (is_of s.member) (known v))) (sym next) in
    record {
      counted = subst (λ l. AreCounted c.send.new.serials.content (commands_of v.history ++ l)) (sym c.in_ok-send.ensures.held)
          (subst (λ l. AreCounted l (commands_of v.history ++ insert_all submitted_at (in_turn c.args.next c.args.caller c.args.serial c.args.commands) v.held)) (sym c.in_ok-send.ensures.counted) (counted-held c.self.inside.serials.content (commands_of v.history) v.held c.args.next c.args.caller c.args.serial c.args.commands c.self.invariant.counted turn));
      limit = c.send.ensures.limit ∙ c.self.invariant.limit;
      me = c.self.invariant.me;
      members = c.send.ensures.members ∙ c.self.invariant.members;
      kept = subst IsMember (sym is) (keeps_submit v c.args.caller c.args.serial c.args.commands free c.self.invariant.kept);
    }

pub returns-clause-submitted : goal.returns-clause-submitted
returns-clause-submitted c =
    let v = member_of c.self.inside in
    let next = c.requires.next ∙ ap (λ (m : Member). stamp (m.clock + 1) m.number) (sym c.self.view_is) in
    let sent = c.in_ok-send.ensures.sent in
    submitted_is v c.args.caller c.args.serial c.args.commands c.args.next c.send.new.outbox.sent c.send.new.held.held next sent c.in_ok-send.ensures.held c.self.invariant.kept
    ∙ ap (λ (m : Member). submitted m c.args.caller c.args.serial c.args.commands) c.self.view_is
