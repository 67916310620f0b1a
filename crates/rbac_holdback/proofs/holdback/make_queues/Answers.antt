use Rattle.std.proofs.Common.{rules, arith, ◌≤◌, length}
use Rattle.std.proofs.lemmas.List.{take_all}
use Rattle.rbac_holdback.proofs.MoveLemmas.{lists_widened}
use Rattle.rbac_holdback.proofs.holdback.make_queues.Goals as goal

pub returns-in_ok-resize_with-clause-made : goal.returns-in_ok-resize_with-clause-made
returns-in_ok-resize_with-clause-made c =
    let queues = c.args.queues.now in
    let short : length queues.items ≤ c.args.count = omega (arith, queues.ok.0) in
    lists_widened queues.items c.resize_with.new.self.items (λ f queue g called. search rules) (rw (take_all c.args.count queues.items short) at c.in_ok-resize_with.ensures.items)
