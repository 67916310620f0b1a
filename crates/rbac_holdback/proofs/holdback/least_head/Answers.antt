use Rattle.std.proofs.Common.{take, ap, sym, ◌∙◌}
use Rattle.std.specs.Option.{option_copied}
use Rattle.std.proofs.lemmas.List.{take_all}
use Rattle.rbac_words.specs.World.{least}
use Rattle.rbac_holdback.specs.Queues.{lists_of, held_in, lesser}
use Rattle.rbac_holdback.proofs.LeastLemmas.{front_least, least_next}
use Rattle.rbac_holdback.proofs.holdback.least_head.Goals as goal

pub loop-queue-preserved : goal.loop-queue-preserved
loop-queue-preserved c =
    let queues = c.args.queues.now in
    let place = c.loop-queue.queue-index in
    let queue = c.queue-item.result in
    c.lesser-least.ensures
    ∙ ap (λ o. lesser o (option_copied c.front.result)) c.loop-queue.invariant
    ∙ ap (lesser (least (held_in (lists_of (take place queues))))) (front_least c.front.result queue.len queue.items queue.ok.0 c.front.ensures.variant c.front.ensures.lookup)
    ∙ sym (least_next queues place queue c.loop-queue-test.true c.queue-item.is c.requires)

pub returns : goal.returns
returns c = c.loop-queue.invariant ∙ ap (λ queues. least (held_in (lists_of queues))) (take_all c.loop-queue.queue-index c.args.queues.now c.loop-queue-test.false)
