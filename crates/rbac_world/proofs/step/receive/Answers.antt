use Rattle.std.proofs.Common.{sym, subst, ◌+◌}
use Rattle.rbac_words.specs.declared.event.Event.TheVariants.{Receive}
use Rattle.rbac_world.specs.Moves.{IsGroupStep}
use Rattle.rbac_world.proofs.StepLemmas.{receive_step}
use Rattle.rbac_world.proofs.step.receive.Goals as goal

pub returns : goal.returns
returns c =
    λ group vocabulary are.
    let ms = c.args.members.now in
    let at = c.in-Ok.ensures.place in
    let from = c.in-Ok-place_of.ensures.place in
    subst (λ k. IsGroupStep group vocabulary ms (Receive k c.args.from c.args.number) c.receive_between.result c.receive_between.new.members) (sym at.0)
    (subst (λ k. IsGroupStep group vocabulary ms (Receive (c.in-Ok.place + 1) k c.args.number) c.receive_between.result c.receive_between.new.members) (sym from.0)
    (receive_step group vocabulary ms are c.in-Ok.place c.in-Ok-place_of.sender c.args.number c.receive_between.result c.receive_between.new.members at.1 from.1 (λ e. c.if-place-sender.false (sym e)) c.receive_between.ensures))
