use Rattle.std.proofs.Common.{rules, arith, ℕ, ◌≡◌, ◌≤◌, ◌+◌, length, List, Global, sym, subst, ap, ◌∙◌}
use Rattle.std.specs.List.{AllByRecursion as Each}
use Rattle.std.specs.declared.collections.VecDeque.{VecDeque}
use Rattle.rbac_words.specs.declared.message.Submission.{Submission}
use Rattle.rbac_holdback.specs.Holdback.{Holdback, CanAllBeHeld}
use Rattle.rbac_holdback.specs.Queues.{HaveRoom, lists_of, rooms_of}
use Rattle.rbac_holdback.proofs.MoveLemmas.{lists-length}
use Rattle.rbac_holdback.proofs.RoomLemmas.{AreNumbered, all_of_group, all_numbered, all_below, nothing_put, all_put}
use Rattle.rbac_holdback.proofs.holdback.HoldbackHeldQueue.put_all.Goals as goal

numbered : (seen : Holdback) (xs : List Submission) → CanAllBeHeld seen xs → AreNumbered xs
numbered seen xs can = all_numbered seen.members xs (all_of_group seen xs can)

-- there are no more queues than members
within : (members many more : ℕ) (seen : Holdback) (xs given : List Submission) (old new : List (VecDeque Submission Global)) → members ≡ seen.members → given ≡ xs → CanAllBeHeld seen xs → many ≡ length old → more ≡ length new
    → length (lists_of old) ≤ members → ((m : ℕ) → Each (λ (x : Submission). x.stamp.member ≤ m) given → many ≤ m → more ≤ m) → length new ≤ members
within members many more seen xs given old new same is can e f kept made =
    let a = lists-length old in
    let below = subst (λ m. Each (λ (x : Submission). x.stamp.member ≤ m) xs) (sym same) (all_below seen.members xs (all_of_group seen xs can)) in
    let few = made members (subst (Each (λ (x : Submission). x.stamp.member ≤ members)) (sym is) below) (omega arith) in
    omega arith

pub make_room_for_all-requires : goal.make_room_for_all-requires
make_room_for_all-requires c = subst AreNumbered (sym c.deref.ensures.value) (numbered c.args.self.now c.args.held.items c.requires)

pub put_all_ready-requires-clause-members : goal.put_all_ready-requires-clause-members
put_all_ready-requires-clause-members c = numbered c.args.self.now c.args.held.items c.requires

pub invariant_of-self : goal.invariant_of-self
invariant_of-self c =
    let old = c.self.inside.queues in
    let new = c.make_room_for_all.new.queues in
    let few =
    within c.self.inside.members old.len new.len c.args.self.now c.args.held.items c.deref.result.now old.items new.items (ap (λ (h : Holdback). h.members) c.self.view_is) c.deref.ensures.value c.requires old.ok.0 new.ok.0
    c.self.invariant.within c.make_room_for_all.ensures.no_more in
    (nothing_put c.self.inside.members c.self.inside.count c.args.self.now old.items new.items c.self.view_is c.self.invariant c.make_room_for_all.ensures.made few).kept

pub returns-then-is_err-clause-unchanged : goal.returns-then-is_err-clause-unchanged
returns-then-is_err-clause-unchanged c =
    let old = c.self.inside.queues in
    let new = c.make_room_for_all.new.queues in
    let few =
    within c.self.inside.members old.len new.len c.args.self.now c.args.held.items c.deref.result.now old.items new.items (ap (λ (h : Holdback). h.members) c.self.view_is) c.deref.ensures.value c.requires old.ok.0 new.ok.0
    c.self.invariant.within c.make_room_for_all.ensures.no_more in
    (nothing_put c.self.inside.members c.self.inside.count c.args.self.now old.items new.items c.self.view_is c.self.invariant c.make_room_for_all.ensures.made few).held_are

pub invariant_of-self-2 : goal.invariant_of-self-2
invariant_of-self-2 c =
    let held = c.args.held in
    let old = c.self.inside.queues in
    let new = c.make_room_for_all.new.queues in
    let few =
    within c.self.inside.members old.len new.len c.args.self.now held.items c.deref.result.now old.items new.items (ap (λ (h : Holdback). h.members) c.self.view_is) c.deref.ensures.value c.requires old.ok.0 new.ok.0
    c.self.invariant.within c.make_room_for_all.ensures.no_more in
    let room : HaveRoom (length held.items) (rooms_of new.items) held.items = search rules in
    let more : c.in-Some.count ≡ c.self.inside.count + length held.items = search rules in
    let put = all_put c.self.inside.members c.self.inside.count c.args.self.now old.items new.items c.self.view_is c.self.invariant c.make_room_for_all.ensures.made few held.items c.requires room in
    rw (c.put_all_ready.ensures, more) put.kept

pub returns-clause-held : goal.returns-clause-held
returns-clause-held c =
    let held = c.args.held in
    let old = c.self.inside.queues in
    let new = c.make_room_for_all.new.queues in
    let few =
    within c.self.inside.members old.len new.len c.args.self.now held.items c.deref.result.now old.items new.items (ap (λ (h : Holdback). h.members) c.self.view_is) c.deref.ensures.value c.requires old.ok.0 new.ok.0
    c.self.invariant.within c.make_room_for_all.ensures.no_more in
    let room : HaveRoom (length held.items) (rooms_of new.items) held.items = search rules in
    let put = all_put c.self.inside.members c.self.inside.count c.args.self.now old.items new.items c.self.view_is c.self.invariant c.make_room_for_all.ensures.made few held.items c.requires room in
    rw c.put_all_ready.ensures put.held_are
