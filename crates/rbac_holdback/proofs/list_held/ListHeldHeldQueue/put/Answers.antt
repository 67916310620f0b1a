use Rattle.rbac_holdback.specs.Holdback.{Holdback}
use Rattle.rbac_holdback.proofs.PlaceLemmas.{IsHoldback-answer}
use Rattle.rbac_holdback.proofs.list_held.ListHeldHeldQueue.put.Goals as goal

pub invariant_of-self : goal.invariant_of-self
invariant_of-self c =
    let before : Holdback = record { members = c.self.inside.members; held = c.self.inside.held.items } in
    IsHoldback-answer c.insert.result before c.args.self.now c.args.held c.insert.new.list.items c.self.view_is c.self.invariant c.requires c.insert.ensures.inserted c.insert.ensures.unchanged
