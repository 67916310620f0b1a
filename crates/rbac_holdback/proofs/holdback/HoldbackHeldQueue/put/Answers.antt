use Rattle.std.proofs.Common.{rules, arith, ℕ, ◌≡◌, ◌≤◌, ◌+◌, max, length, List, Global, sym, subst, ap, ◌∙◌}
use Rattle.std.specs.declared.collections.VecDeque.{VecDeque}
use Rattle.rbac_words.specs.declared.message.Submission.{Submission}
use Rattle.rbac_holdback.specs.Holdback.{Holdback}
use Rattle.rbac_holdback.specs.Queues.{AreKept, lists_of, rooms_of, room_at}
use Rattle.rbac_holdback.proofs.MoveLemmas.{lists-length}
use Rattle.rbac_holdback.proofs.RoomLemmas.{ArePut, nothing_put, one_put}
use Rattle.rbac_holdback.proofs.holdback.HoldbackHeldQueue.put.Goals as goal

-- there are no more queues than members
within : (members member many more : ℕ) (old new : List (VecDeque Submission Global)) → many ≡ length old → more ≡ length new → more ≤ max many member → length (lists_of old) ≤ members → member ≤ members → length new ≤ members
within members member many more old new e f made kept high = let a = lists-length old in omega arith

pub invariant_of-self : goal.invariant_of-self
invariant_of-self c =
    let member = c.args.held.stamp.member in
    let old = c.self.inside.queues in
    let new = c.make_room.new.queues in
    let high = subst (λ (h : Holdback). member ≤ h.members) (sym c.self.view_is) c.requires.high in
    let few = within c.self.inside.members member old.len new.len old.items new.items old.ok.0 new.ok.0 c.make_room.ensures.no_more c.self.invariant.within high in
    (nothing_put c.self.inside.members c.self.inside.count c.args.self.now old.items new.items c.self.view_is c.self.invariant c.make_room.ensures.made few).kept

pub returns-then-is_err-clause-unchanged : goal.returns-then-is_err-clause-unchanged
returns-then-is_err-clause-unchanged c =
    let member = c.args.held.stamp.member in
    let old = c.self.inside.queues in
    let new = c.make_room.new.queues in
    let high = subst (λ (h : Holdback). member ≤ h.members) (sym c.self.view_is) c.requires.high in
    let few = within c.self.inside.members member old.len new.len old.items new.items old.ok.0 new.ok.0 c.make_room.ensures.no_more c.self.invariant.within high in
    (nothing_put c.self.inside.members c.self.inside.count c.args.self.now old.items new.items c.self.view_is c.self.invariant c.make_room.ensures.made few).held_are

pub invariant_of-self-2 : goal.invariant_of-self-2
invariant_of-self-2 c =
    let held = c.args.held in
    let old = c.self.inside.queues in
    let new = c.make_room.new.queues in
    let high = subst (λ (h : Holdback). held.stamp.member ≤ h.members) (sym c.self.view_is) c.requires.high in
    let few = within c.self.inside.members held.stamp.member old.len new.len old.items new.items old.ok.0 new.ok.0 c.make_room.ensures.no_more c.self.invariant.within high in
    let room : 1 ≤ room_at held.stamp.member (rooms_of new.items) = search rules in
    let more : c.in-Some.count ≡ c.self.inside.count + 1 = search rules in
    let put = one_put c.self.inside.members c.self.inside.count c.args.self.now old.items new.items c.self.view_is c.self.invariant c.make_room.ensures.made few held c.requires room in
    rw (c.put_ready.ensures.put, more) put.kept

pub returns-clause-held : goal.returns-clause-held
returns-clause-held c =
    let held = c.args.held in
    let old = c.self.inside.queues in
    let new = c.make_room.new.queues in
    let high = subst (λ (h : Holdback). held.stamp.member ≤ h.members) (sym c.self.view_is) c.requires.high in
    let few = within c.self.inside.members held.stamp.member old.len new.len old.items new.items old.ok.0 new.ok.0 c.make_room.ensures.no_more c.self.invariant.within high in
    let room : 1 ≤ room_at held.stamp.member (rooms_of new.items) = search rules in
    let put = one_put c.self.inside.members c.self.inside.count c.args.self.now old.items new.items c.self.view_is c.self.invariant c.make_room.ensures.made few held c.requires room in
    rw c.put_ready.ensures.put put.held_are
