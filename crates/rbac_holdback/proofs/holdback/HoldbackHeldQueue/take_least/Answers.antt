use Rattle.std.proofs.Common.{rules, arith, ℕ, suc, ◌≡◌, ◌≤◌, ◌<◌, ◌-◌, List, drop, set, length, Global, Some, sym, ap, ◌∙◌}
use Rattle.std.specs.declared.collections.VecDeque.{VecDeque}
use Rattle.rbac_words.specs.World.{least}
use Rattle.rbac_words.specs.declared.message.Submission.{Submission}
use Rattle.rbac_order.proofs.SenderLemmas.{of}
use Rattle.rbac_holdback.specs.Holdback.{Holdback}
use Rattle.rbac_holdback.specs.Queues.{AreQueues, AreKept, lists_of, held_in}
use Rattle.rbac_holdback.proofs.MoveLemmas.{least_sender, lists-length, lists-set, list_at, queue_first, held_taken, kept_taken, taken_first}
use Rattle.rbac_holdback.proofs.holdback.HoldbackHeldQueue.take_least.Goals as goal

-- the queue of the least command's member is made
record IsMade (member : ℕ) (queues : List (VecDeque Submission Global)) : Type 0 where
  low : 1 ≤ member
  there : member - 1 < length queues
  sender : member ≡ suc (member - 1)

is_made : (queues : List (VecDeque Submission Global)) (x : Submission) → AreQueues 0 (lists_of queues) → least (held_in (lists_of queues)) ≡ Some x → IsMade x.stamp.member queues
is_made queues x a first =
    let low : 1 ≤ x.stamp.member = (least_sender (lists_of queues) x a first).0 in
    let high : x.stamp.member ≤ length (lists_of queues) = (least_sender (lists_of queues) x a first).1 in
    let e = lists-length queues in
    record { low = low; there = omega arith; sender = omega arith }

pub overflow_sub-member : goal.overflow_sub-member
overflow_sub-member c =
    let first : least (held_in (lists_of c.self.inside.queues.items)) ≡ Some c.in_ok-member.field-0.now = search rules in
    (is_made c.self.inside.queues.items c.in_ok-member.field-0.now c.self.invariant.of_each first).low

pub index_mut-requires : goal.index_mut-requires
index_mut-requires c =
    let first : least (held_in (lists_of c.self.inside.queues.items)) ≡ Some c.in_ok-member.field-0.now = search rules in
    omega (arith, (is_made c.self.inside.queues.items c.in_ok-member.field-0.now c.self.invariant.of_each first).there, c.self.inside.queues.ok.0)

-- the first of its queue is taken
taken : (c : goal.After-self-2-1) → (let queues = lists_of (set c.self.inside.queues.items (c.in_ok-member.field-0.now.stamp.member - 1) c.pop_front.new.self) in
    AreKept c.self.inside.members (c.self.inside.count - 1) queues × (c.pop_front.result ≡ least c.args.self.now.held) × (held_in queues ≡ drop 1 c.args.self.now.held))
taken c =
    let queues = c.self.inside.queues.items in
    let x = c.in_ok-member.field-0.now in
    let i = x.stamp.member - 1 in
    let queue = c.index_mut.result.now in
    let first : least (held_in (lists_of queues)) ≡ Some x = search rules in
    let made = is_made queues x c.self.invariant.of_each first in
    let taken_is = lists-set queues i queue c.pop_front.new.self (drop 1) c.index_mut.ensures.value made.there c.pop_front.ensures.rest in
    let begins = list_at queues i queue c.index_mut.ensures.value made.there ∙ queue_first i (lists_of queues) x c.self.invariant.of_each made.sender first in (
      rw taken_is (kept_taken c.self.inside.members c.self.inside.count i (lists_of queues) x c.self.invariant made.sender first),
      taken_first c.pop_front.result queue.items c.pop_front.new.self.items (of (suc i) (drop 1 (held_in (lists_of queues)))) x c.pop_front.ensures.items c.pop_front.ensures.rest begins
          ∙ sym first
          ∙ ap (λ (h : Holdback). least h.held) c.self.view_is,
      ap held_in taken_is ∙ held_taken i (lists_of queues) x c.self.invariant.of_each made.sender first ∙ ap (λ (h : Holdback). drop 1 h.held) c.self.view_is,
    )

pub invariant_of-self : goal.invariant_of-self
invariant_of-self c = (taken c).0

pub returns-clause-least : goal.returns-clause-least
returns-clause-least c = (taken c).1

pub returns-clause-rest : goal.returns-clause-rest
returns-clause-rest c = (taken c).2
