use Rattle.std.proofs.Common.{refl, sym, ◌∙◌, ap, ◌++◌, subst}
use Rattle.rbac_words.specs.Keeping.Links.{Links, taken_from}
use Rattle.rbac_words.specs.Message.{submissions_of, submitted_at, commands_of}
use Rattle.rbac_words.specs.Stamp.{insert_all}
use Rattle.rbac_words.specs.World.{clock_after, acknowledgement, acks}
use Rattle.rbac_words.specs.Keeping.Member.{Member, IsMember, node_of, message_refusal}
use Rattle.rbac_order.proofs.MemberLemmas.{keeps_received}
use Rattle.rbac_member.specs.Inside.{member_of}
use Rattle.rbac_member.specs.Serials.{AreCounted}
use Rattle.rbac_member.proofs.CommandLemmas.{has_any, on_err}
use Rattle.rbac_order.proofs.ReceiptLemmas.{next_is, batch_is_good, room_is_free, serial_in_turn}
use Rattle.rbac_member.proofs.HoldLemmas.{message_fits, received_is, counted_received}
use Rattle.rbac_member.proofs.member.Member.take.Goals as goal

pub hold-requires-clause-first : goal.hold-requires-clause-first
hold-requires-clause-first c =
    let v = member_of c.self.inside in
    let free = ap (λ (m : Member). message_refusal m c.args.from c.args.number c.args.message.now) c.self.view_is ∙ c.requires.accepted in
    (next_is v c.args.from c.args.number c.args.message.now c.self.invariant.kept free).first

pub hold-requires-clause-batch : goal.hold-requires-clause-batch
hold-requires-clause-batch c =
    let v = member_of c.self.inside in
    let free = ap (λ (m : Member). message_refusal m c.args.from c.args.number c.args.message.now) c.self.view_is ∙ c.requires.accepted in
    batch_is_good v c.args.from c.args.number c.args.message.now free

pub hold-requires-clause-fit : goal.hold-requires-clause-fit
hold-requires-clause-fit c =
    let v = member_of c.self.inside in
    let free = ap (λ (m : Member). message_refusal m c.args.from c.args.number c.args.message.now) c.self.view_is ∙ c.requires.accepted in
    message_fits v c.self.inside.held c.args.from c.args.message.now c.self.invariant.members refl c.self.invariant.kept (next_is v c.args.from c.args.number c.args.message.now c.self.invariant.kept free)

pub invariant_of-self-2 : goal.invariant_of-self-2
invariant_of-self-2 c =
    let v = member_of c.self.inside in
    let from = c.args.from in
    let m = c.args.message.now in
    let free = ap (λ (u : Member). message_refusal u from c.args.number m) c.self.view_is ∙ c.requires.accepted in
    let clock = c.requires.clock ∙ ap (λ (u : Member). clock_after (node_of u) m) (sym c.self.view_is) in
    let ack = c.requires.stamp ∙ ap (λ (u : Member). acknowledgement (node_of u) m) (sym c.self.view_is) in
    let sent = c.acknowledge.ensures.sent ∙ ap (λ l. l ++ acks c.args.stamp) c.make_room.ensures.sent in
    let taken = c.in-Ok.ensures.taken ∙ ap (taken_from c.self.inside.links from) c.stamp.ensures in
    let is = received_is v from m c.args.clock c.args.stamp c.acknowledge.new.outbox.sent c.accept.new.self c.hold.new.held.held clock ack sent
    (ap (λ (l : Links). l.read) taken) (ap (λ (l : Links). l.latest) taken) c.in_ok-hold.ensures.held in
    record {
      counted = subst (λ l. AreCounted c.hold.new.serials.content (commands_of v.history ++ l)) (sym c.in_ok-hold.ensures.held)
          (subst (λ l. AreCounted l (commands_of v.history ++ insert_all submitted_at (submissions_of m) v.held)) (sym c.in_ok-hold.ensures.counted)
          (counted_received c.self.inside.serials.content v m c.self.invariant.counted (serial_in_turn v from c.args.number m free)));
      limit = c.acknowledge.ensures.limit ∙ c.make_room.ensures.limit ∙ c.self.invariant.limit;
      me = ap (λ (l : Links). l.me) taken ∙ c.self.invariant.me;
      members = c.hold.ensures.members ∙ c.self.invariant.members;
      kept = subst IsMember (sym is) (keeps_received v from m c.self.invariant.kept (next_is v from c.args.number m c.self.invariant.kept free) (room_is_free v from c.args.number m free));
    }

pub returns-in_err-hold-clause-memory_needed : goal.returns-in_err-hold-clause-memory_needed
returns-in_err-hold-clause-memory_needed c = on_err c.from_residual-in_err-hold.result _ (has_any c.args.message.now c.in_err-hold.ensures.had_a_command)
