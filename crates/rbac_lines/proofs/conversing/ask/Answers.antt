use Rattle.rbac_lines.proofs.ConversationLemmas.{of_lost, of_kept}
use Rattle.rbac_lines.proofs.conversing.ask.Goals as goal

pub returns-then-is_lost-clause-unchanged_or_answered : goal.returns-then-is_lost-clause-unchanged_or_answered
returns-then-is_lost-clause-unchanged_or_answered g c =
    of_lost g.D.Desk.asks c.args.desk.now c.args.number c.call-reply.new.self c.args.at c.args.command (c.call-reply.ensures.lost (c.is_lost.ensures.lost c.if-is_lost.true))

pub returns-in_err-put_reply-clause-unchanged_or_answered : goal.returns-in_err-put_reply-clause-unchanged_or_answered
returns-in_err-put_reply-clause-unchanged_or_answered g c =
    let kept = c.is_lost.ensures.kept c.if-is_lost.false in
    of_kept g.D.Desk.asks c.args.desk.now c.args.number c.call-reply.new.self c.from_residual.result c.args.at c.args.command c.call-reply.result kept (c.call-reply.ensures.asked kept)
