-- The least command of queues is the least of their first ones.
use Rattle.std.proofs.Common.{ℕ, suc, Bool, true, false, cond, ◌≡◌, ◌<◌, ◌+◌, ◌↔◌, arith, refl, sym, subst, ap, ◌∙◌, true≢false, List, [], ◌∷◌, ◌++◌, length, take, get_or, Option, Some, None, IsSome, IfSome, Bor, Global, append-nil, add-one}
use Rattle.std.specs.Option.{option_copied}
use Rattle.std.specs.declared.collections.VecDeque.{VecDeque}
use Rattle.std.proofs.Math.Seq.{take-suc}
use Rattle.std.proofs.lemmas.Bool.Decides.{nat_tests}
use Rattle.std.proofs.lemmas.List.{map-append, get_or-map}
use Rattle.std.proofs.lemmas.List.Concat.{flat_map-append}
use Rattle.rbac_words.specs.Message.{submitted_at}
use Rattle.rbac_words.specs.Stamp.{is_before, insert_by_stamp, sort_by_stamp}
use Rattle.rbac_words.specs.World.{least}
use Rattle.rbac_words.specs.declared.message.Submission.{Submission}
use Rattle.rbac_order.proofs.StampLemmas.{sort-rising}
use Rattle.rbac_order.proofs.SenderLemmas.{Rising}
use Rattle.rbac_holdback.specs.Queues.{lists_of, held_in, IsQueue, AreQueues, lesser}
use Rattle.rbac_holdback.proofs.QueueLemmas.{all_in, queue_at}

lesser_assoc : (a b c : Option Submission) → lesser (lesser a b) c ≡ lesser a (lesser b c)
lesser_assoc None b c = refl
lesser_assoc (Some x) None c = refl
lesser_assoc (Some x) (Some y) None = elim (is_before x.stamp y.stamp) as (λ b. lesser (cond b (Some x) (Some y)) None ≡ cond b (Some x) (Some y)) [ true ↦ refl | false ↦ refl ]
lesser_assoc (Some x) (Some y) (Some z) = go (is_before x.stamp y.stamp) refl (is_before y.stamp z.stamp) refl
  where
    both_before : is_before x.stamp y.stamp ≡ true → is_before y.stamp z.stamp ≡ true → is_before x.stamp z.stamp ≡ true
    both_before p q = grind (arith, nat_tests)

    none_before : is_before x.stamp y.stamp ≡ false → is_before y.stamp z.stamp ≡ false → is_before x.stamp z.stamp ≡ false
    none_before p q = grind (arith, nat_tests)

    go : (p : Bool) → is_before x.stamp y.stamp ≡ p → (q : Bool) → is_before y.stamp z.stamp ≡ q → lesser (cond p (Some x) (Some y)) (Some z) ≡ lesser (Some x) (cond q (Some y) (Some z))
    go true e true f = rw (both_before e f, e) refl
    go true e false f = refl
    go false e true f = rw (e, f) refl
    go false e false f = rw (f, none_before e f) refl

least_insert : (x : Submission) (xs : List Submission) → least (insert_by_stamp submitted_at x xs) ≡ lesser (Some x) (least xs)
least_insert x [] = refl
least_insert x (y ∷ ys) = elim (is_before x.stamp y.stamp) as (λ b. least (cond b (x ∷ y ∷ ys) (y ∷ insert_by_stamp submitted_at x ys)) ≡ cond b (Some x) (Some y)) [ true ↦ refl | false ↦ refl ]

-- the least of two lists together is the lesser of both least ones
least_append : (xs ys : List Submission) → least (sort_by_stamp submitted_at (xs ++ ys)) ≡ lesser (least (sort_by_stamp submitted_at xs)) (least (sort_by_stamp submitted_at ys))
least_append [] ys = refl
least_append (x ∷ xs) ys =
    least_insert x (sort_by_stamp submitted_at (xs ++ ys))
    ∙ ap (lesser (Some x)) (least_append xs ys)
    ∙ sym (lesser_assoc (Some x) (least (sort_by_stamp submitted_at xs)) (least (sort_by_stamp submitted_at ys)))
    ∙ ap (λ o. lesser o (least (sort_by_stamp submitted_at ys))) (sym (least_insert x (sort_by_stamp submitted_at xs)))

-- with one queue more
least_more : (queues : List (List Submission)) (queue : List Submission) → Rising queue → least (held_in (queues ++ queue ∷ [])) ≡ lesser (least (held_in queues)) (least queue)
least_more queues queue r =
    ap (λ l. least (sort_by_stamp submitted_at l)) (flat_map-append (λ q. q) queues (queue ∷ []) ∙ ap (λ l. all_in queues ++ l) (append-nil queue))
    ∙ least_append (all_in queues) queue
    ∙ ap (λ l. lesser (least (held_in queues)) (least l)) (sort-rising submitted_at queue r)

-- up to the next place of a loop
pub least_next : (queues : List (VecDeque Submission Global)) (i : ℕ) (queue : VecDeque Submission Global) → i < length queues → queue ≡ get_or queues i queue → AreQueues 0 (lists_of queues)
    → least (held_in (lists_of (take (i + 1) queues))) ≡ lesser (least (held_in (lists_of (take i queues)))) (least queue.items)
least_next queues i queue h e a =
    ap (λ l. least (held_in (lists_of l))) (ap (λ n. take n queues) (add-one i) ∙ take-suc queues i queue h ∙ ap (λ q. take i queues ++ q ∷ []) (sym e))
    ∙ ap (λ l. least (held_in l)) (map-append (λ (q : VecDeque Submission Global). q.items) (take i queues) (queue ∷ []))
    ∙ least_more (lists_of (take i queues)) queue.items rises
  where
    rises : Rising queue.items
    rises =
        let listed : get_or (lists_of queues) i [] ≡ queue.items = get_or-map (λ (q : VecDeque Submission Global). q.items) queues i queue [] h ∙ ap (λ (q : VecDeque Submission Global). q.items) (sym e) in
        let q : IsQueue (suc i) queue.items = subst (IsQueue (suc i)) listed (queue_at (suc i) 0 i (lists_of queues) (omega arith) a) in
        q.rising

-- the first of a queue is its least
pub front_least : (first : Option (Bor Submission)) (n : ℕ) (queue : List Submission) → n ≡ length queue → (IsSome first ↔ (0 < n)) → IfSome first (λ x. x.now ≡ get_or queue 0 x.now) → option_copied first ≡ least queue
front_least None n [] e v is = refl
front_least None n (y ∷ queue) e v is = let h : false ≡ true = v.1 (omega arith) in absurd (true≢false (sym h))
front_least (Some x) n [] e v is = let h : 0 < n = v.0 refl in absurd (omega arith)
front_least (Some x) n (y ∷ queue) e v is = ap (λ (z : Submission). Some z) is
