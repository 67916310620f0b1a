use Rattle.std.proofs.Common.{rules, ◌≡◌, ◌∙◌, sym, ap, subst}
use Rattle.rbac_words.specs.Message.{submitted_at}
use Rattle.rbac_words.specs.Stamp.{insert_all}
use Rattle.rbac_holdback.specs.Holdback.{Holdback, IsHoldback, CanAllBeHeld, AreAboveOwn}
use Rattle.rbac_holdback.proofs.PlaceLemmas.{IsHoldback-put_all}
use Rattle.rbac_holdback.proofs.RoomLemmas.{all_above}
use Rattle.rbac_holdback.proofs.list_held.ListHeldHeldQueue.put_all.Goals as goal

pub insert_each-requires-clause-above : goal.insert_each-requires-clause-above
insert_each-requires-clause-above c =
    let held = c.args.held.items in
    subst (AreAboveOwn held) (ap (λ (h : Holdback). h.held) (sym c.self.view_is) ∙ sym c.reserve.ensures.items) (all_above c.args.self.now held c.requires)

pub invariant_of-self-2 : goal.invariant_of-self-2
invariant_of-self-2 c =
    let held = c.args.held.items in
    let before : Holdback = record { members = c.self.inside.members; held = c.self.inside.held.items } in
    rw (c.insert_each.ensures, c.reserve.ensures.items) (IsHoldback-put_all before held c.self.invariant (subst (λ (h : Holdback). CanAllBeHeld h held) (sym c.self.view_is) c.requires))
