use Rattle.std.proofs.Common.{arith}
use Rattle.rbac_pages.proofs.HeldLemmas.{step_places}
use Rattle.rbac_pages.proofs.held.add_places.Goals as goal

pub loop-command-preserved : goal.loop-command-preserved
loop-command-preserved c =
    let h = c.loop-command.invariant in (
      omega arith,
      step_places c.args.last c.loop-command.own c.args.commands.now c.loop-command._command-index c._command-item.result c.loop-command.held.items c.add_above.new.held.items _ c.loop-command-test.true c._command-item.is c.in_ok-add_above.ensures h.1,
    )
