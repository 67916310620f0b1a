-- What is held in queues, one for each member.
use Rattle.std.proofs.Common.{ℕ, zero, suc, ◌≡◌, ◌≤◌, ◌+◌, arith, refl, sym, subst, ap, ◌∙◌, List, [], ◌∷◌, ◌++◌, length, set, get_or, append-nil}
use Rattle.std.specs.List.{AllByRecursion as Each, flat_map}
use Rattle.std.proofs.lemmas.List.Elements.{filter-append}
use Rattle.rbac_words.specs.Message.{submitted_at}
use Rattle.rbac_words.specs.Stamp.{sort_by_stamp}
use Rattle.rbac_words.specs.Front.{is_of}
use Rattle.rbac_words.specs.declared.message.Submission.{Submission}
use Rattle.sorted_keys.proofs.Lists.{Each-append, Each-weaker}
use Rattle.rbac_order.proofs.StampLemmas.{Each-insert}
use Rattle.rbac_order.proofs.SenderLemmas.{of, Rising, of-none, of-all, decide, AreSameOfEach, same_from_each, AreRisingOfEach, of-sort, Rising-sort}
use Rattle.rbac_holdback.specs.Holdback.{IsHoldback}
use Rattle.rbac_holdback.specs.Queues.{held_in, IsQueue, AreQueues, AreKept}

-- the commands of all queues
abbrev pub all_in : List (List Submission) → List Submission
all_in queues = flat_map (λ queue. queue) queues

-- ---- The queue of a member

pub queue_at : (k m i : ℕ) (queues : List (List Submission)) → k ≡ m + suc i → AreQueues m queues → IsQueue k (get_or queues i [])
queue_at k m i [] e a = record { own = tt; rising = tt }
queue_at k m zero (queue ∷ queues) e a = let f : suc m ≡ k = omega arith in subst (λ j. IsQueue j queue) f a.0
queue_at k m (suc i) (queue ∷ queues) e a = queue_at k (suc m) i queues (omega arith) a.1

pub queues_set : (k m i : ℕ) (queues : List (List Submission)) (queue : List Submission) → k ≡ m + suc i → AreQueues m queues → IsQueue k queue → AreQueues m (set queues i queue)
queues_set k m i [] queue e a q = tt
queues_set k m zero (old ∷ queues) queue e a q = let f : k ≡ suc m = omega arith in (subst (λ j. IsQueue j queue) f q, a.1)
queues_set k m (suc i) (old ∷ queues) queue e a q = (a.0, queues_set k (suc m) i queues queue (omega arith) a.1 q)

-- ---- The commands of each member in all queues

of-own : (k m : ℕ) (queue : List Submission) → k ≡ m → IsQueue m queue → of k queue ≡ queue
of-own k m queue e q = of-all k queue (Each-weaker (λ (x : Submission). x.stamp.member ≡ m) (λ x. x.stamp.member ≡ k) queue (λ x f. f ∙ sym e) q.own)

-- a queue has no command of another member
of-other : (k m : ℕ) (queue : List Submission) → (k ≡ m → ⊥) → IsQueue m queue → of k queue ≡ []
of-other k m queue n q = of-none k queue (Each-weaker (λ (x : Submission). x.stamp.member ≡ m) (λ x. x.stamp.member ≡ k → ⊥) queue (λ x e f. n (sym f ∙ e)) q.own)

-- so another member's are in the queues that follow
of-later : (k m : ℕ) (queue : List Submission) (queues : List (List Submission)) → (k ≡ m → ⊥) → IsQueue m queue → of k (all_in (queue ∷ queues)) ≡ of k (all_in queues)
of-later k m queue queues n q = filter-append (is_of k) queue (all_in queues) ∙ ap (λ l. l ++ of k (all_in queues)) (of-other k m queue n q)

-- no queue is of a member up to the one that the first follows
of-before : (k m : ℕ) (queues : List (List Submission)) → k ≤ m → AreQueues m queues → of k (all_in queues) ≡ []
of-before k m [] h a = refl
of-before k m (queue ∷ queues) h a = of-later k (suc m) queue queues (λ e. omega arith) a.0 ∙ of-before k (suc m) queues (omega arith) a.1

of-first : (k m : ℕ) (queue : List Submission) (queues : List (List Submission)) → k ≡ suc m → AreQueues m (queue ∷ queues) → of k (all_in (queue ∷ queues)) ≡ queue
of-first k m queue queues e a =
    filter-append (is_of k) queue (all_in queues)
    ∙ ap (λ l. l ++ of k (all_in queues)) (of-own k (suc m) queue e a.0)
    ∙ ap (λ l. queue ++ l) (of-before k (suc m) queues (omega arith) a.1)
    ∙ append-nil queue

of-queues : (k m i : ℕ) (queues : List (List Submission)) → k ≡ m + suc i → AreQueues m queues → of k (all_in queues) ≡ get_or queues i []
of-queues k m i [] e a = refl
of-queues k m zero (queue ∷ queues) e a = of-first k m queue queues (omega arith) a
of-queues k m (suc i) (queue ∷ queues) e a = of-later k (suc m) queue queues (λ f. omega arith) a.0 ∙ of-queues k (suc m) i queues (omega arith) a.1

rising_each : (m : ℕ) (queues : List (List Submission)) → AreQueues m queues → AreRisingOfEach (all_in queues)
rising_each m [] a k = tt
rising_each m (queue ∷ queues) a k =
    decide (Rising (of k (all_in (queue ∷ queues)))) k (suc m)
    (λ e. subst Rising (sym (of-first k m queue queues e a)) (a.0).rising)
    (λ n. subst Rising (sym (of-later k (suc m) queue queues n a.0)) (rising_each (suc m) queues a.1 k))

-- ---- What is held

pub held_rises : (queues : List (List Submission)) → AreQueues 0 queues → Rising (held_in queues)
held_rises queues a = Rising-sort (all_in queues) (rising_each 0 queues a)

pub held_of : (i : ℕ) (queues : List (List Submission)) → AreQueues 0 queues → of (suc i) (held_in queues) ≡ get_or queues i []
held_of i queues a = of-sort (all_in queues) (rising_each 0 queues a) (suc i) ∙ of-queues (suc i) 0 i queues (omega arith) a

pub held_of_none : (queues : List (List Submission)) → AreQueues 0 queues → of 0 (held_in queues) ≡ []
held_of_none queues a = of-sort (all_in queues) (rising_each 0 queues a) 0 ∙ of-before 0 0 queues (omega arith) a

-- a rising list that has the queue of each member is what is held
pub held_is : (queues : List (List Submission)) (xs : List Submission) → AreQueues 0 queues → Rising xs → of 0 xs ≡ [] → ((i : ℕ) → of (suc i) xs ≡ get_or queues i []) → held_in queues ≡ xs
held_is queues xs a r none each = same_from_each (held_in queues) xs (held_rises queues a) r same
  where
    same : AreSameOfEach (held_in queues) xs
    same zero = held_of_none queues a ∙ sym none
    same (suc i) = held_of i queues a ∙ sym (each i)

-- ---- Senders

-- each command is of a member that follows this one, up to so many more
abbrev AreSentWithin : ℕ → ℕ → List Submission → Type 0
AreSentWithin m more xs = Each (λ (x : Submission). (suc m ≤ x.stamp.member) × (x.stamp.member ≤ m + more)) xs

queued_senders : (m : ℕ) (queues : List (List Submission)) → AreQueues m queues → AreSentWithin m (length queues) (all_in queues)
queued_senders m [] a = tt
queued_senders m (queue ∷ queues) a =
    let bound = λ (x : Submission). (suc m ≤ x.stamp.member) × (x.stamp.member ≤ m + suc (length queues)) in
    Each-append bound queue (all_in queues)
    (Each-weaker (λ (x : Submission). x.stamp.member ≡ suc m) bound queue (λ x e. (omega arith, omega arith)) (a.0).own)
    (Each-weaker (λ (x : Submission). (suc (suc m) ≤ x.stamp.member) × (x.stamp.member ≤ suc m + length queues)) bound (all_in queues)
    (λ x h. let low : suc (suc m) ≤ x.stamp.member = h.0 in let high : x.stamp.member ≤ suc m + length queues = h.1 in (omega arith, omega arith))
    (queued_senders (suc m) queues a.1))

Each-sort : (P : Submission → Type 0) (xs : List Submission) → Each P xs → Each P (sort_by_stamp submitted_at xs)
Each-sort P [] a = tt
Each-sort P (x ∷ xs) a = Each-insert submitted_at P x (sort_by_stamp submitted_at xs) a.0 (Each-sort P xs a.1)

-- each held command is of a member that has a queue
pub held_senders : (members : ℕ) (queues : List (List Submission)) → length queues ≤ members → AreQueues 0 queues → Each (λ (x : Submission). (1 ≤ x.stamp.member) × (x.stamp.member ≤ members)) (held_in queues)
held_senders members queues within a =
    Each-sort (λ (x : Submission). (1 ≤ x.stamp.member) × (x.stamp.member ≤ members)) (all_in queues)
    (Each-weaker (λ (x : Submission). (1 ≤ x.stamp.member) × (x.stamp.member ≤ 0 + length queues)) (λ x. (1 ≤ x.stamp.member) × (x.stamp.member ≤ members)) (all_in queues)
    (λ x h. let high : x.stamp.member ≤ 0 + length queues = h.1 in (h.0, omega arith)) (queued_senders 0 queues a))

-- what the queues keep is what a content keeps
pub kept_content : (members count : ℕ) (queues : List (List Submission)) → AreKept members count queues → IsHoldback (record { members = members; held = held_in queues })
kept_content members count queues k = record { rising = held_rises queues k.of_each; senders = held_senders members queues k.within k.of_each }
