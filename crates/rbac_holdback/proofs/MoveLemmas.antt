-- What a put and a taking leave of queues, one for each member.
use Rattle.std.proofs.Common.{ℕ, zero, suc, cond, true, false, ◌≡◌, ◌<◌, ◌≤◌, ◌+◌, ◌-◌, arith, refl, sym, subst, ap, ◌∙◌, List, [], ◌∷◌, ◌++◌, length, drop, replicate, set, get_or, Option, Some, None, append-nil, Global}
use Rattle.std.specs.List.{AllByRecursion as Each, FoldsTo, AppendsResults}
use Rattle.std.specs.Option.{option_to_list}
use Rattle.std.specs.declared.collections.VecDeque.{VecDeque}
use Rattle.std.proofs.lemmas.List.{get_or-set_same, get_or-set_other, set-get_or, get_or-map, map-append, map-set, length-set, length-map}
use Rattle.std.proofs.lemmas.List.Concat.{flat_map-append}
use Rattle.rbac_words.specs.Message.{submitted_at}
use Rattle.rbac_words.specs.Stamp.{IsBefore, is_before, insert_by_stamp, sort_by_stamp}
use Rattle.rbac_words.specs.World.{least}
use Rattle.rbac_words.specs.Front.{is_of}
use Rattle.rbac_words.specs.declared.message.Submission.{Submission}
use Rattle.sorted_keys.proofs.Lists.{Each-append, Each-weaker, Each-both, Each-filter, filter-yes, filter-no}
use Rattle.rbac_order.proofs.StampLemmas.{Rising-push}
use Rattle.rbac_order.proofs.SenderLemmas.{of, Rising, decide, is_of-yes, is_of-no, of-insert_last, of-insert_other}
use Rattle.rbac_holdback.specs.Holdback.{IsAboveOwn}
use Rattle.rbac_holdback.specs.Queues.{lists_of, held_in, IsQueue, AreQueues, AreKept, IsWidened}
use Rattle.rbac_holdback.proofs.PlaceLemmas.{Rising-put}
use Rattle.rbac_holdback.proofs.QueueLemmas.{all_in, queue_at, queues_set, held_rises, held_of, held_of_none, held_is, held_senders}

-- ---- Putting a command last in the queue of its member

-- the queues with one more command, last in the queue of this place
abbrev pub longer_at : ℕ → Submission → List (List Submission) → List (List Submission)
longer_at i x queues = set queues i (get_or queues i [] ++ x ∷ [])

module _ (i : ℕ) (queues : List (List Submission)) (x : Submission) (a : AreQueues 0 queues) (sender : x.stamp.member ≡ suc i) (made : i < length queues) (above : IsAboveOwn x (held_in queues)) where
  own_queue : IsQueue (suc i) (get_or queues i [])
  own_queue = queue_at (suc i) 0 i queues (omega arith) a

  below : Each (λ (y : Submission). IsBefore y.stamp x.stamp) (get_or queues i [])
  below =
      let same = λ (y : Submission). y.stamp.member ≡ suc i in
      let rule = λ (y : Submission). y.stamp.member ≡ x.stamp.member → IsBefore y.stamp x.stamp in
      Each-weaker (λ y. same y × rule y) (λ (y : Submission). IsBefore y.stamp x.stamp) (get_or queues i []) (λ y h. h.1 (h.0 ∙ sym sender))
      (Each-both same rule (get_or queues i []) own_queue.own (subst (Each rule) (held_of i queues a) (Each-filter rule (is_of (suc i)) (held_in queues) above)))

  pub queues_put : AreQueues 0 (longer_at i x queues)
  queues_put =
      queues_set (suc i) 0 i queues (get_or queues i [] ++ x ∷ []) (omega arith) a
      record { own = Each-append (λ (y : Submission). y.stamp.member ≡ suc i) (get_or queues i []) (x ∷ []) own_queue.own (sender, tt); rising = Rising-push submitted_at (get_or queues i []) x own_queue.rising below }

  -- it is held where its stamp puts it
  pub held_put : held_in (longer_at i x queues) ≡ insert_by_stamp submitted_at x (held_in queues)
  held_put = held_is (longer_at i x queues) (insert_by_stamp submitted_at x (held_in queues)) queues_put (Rising-put submitted_at x (held_in queues) (held_rises queues a) above) none each
    where
      none : of 0 (insert_by_stamp submitted_at x (held_in queues)) ≡ []
      none = of-insert_other 0 x (held_in queues) (is_of-no 0 x (λ e. omega arith)) ∙ held_of_none queues a

      here : of (suc i) (insert_by_stamp submitted_at x (held_in queues)) ≡ get_or (longer_at i x queues) i []
      here =
          of-insert_last (suc i) x (held_in queues) (is_of-yes (suc i) x sender) (held_rises queues a) (subst (Each (λ (y : Submission). IsBefore y.stamp x.stamp)) (sym (held_of i queues a)) below)
          ∙ ap (λ l. l ++ x ∷ []) (held_of i queues a)
          ∙ sym (get_or-set_same queues i (get_or queues i [] ++ x ∷ []) [] made)

      each : (j : ℕ) → of (suc j) (insert_by_stamp submitted_at x (held_in queues)) ≡ get_or (longer_at i x queues) j []
      each j =
          decide (of (suc j) (insert_by_stamp submitted_at x (held_in queues)) ≡ get_or (longer_at i x queues) j []) j i
          (λ e. subst (λ n. of (suc n) (insert_by_stamp submitted_at x (held_in queues)) ≡ get_or (longer_at i x queues) n []) (sym e) here)
          (λ n. of-insert_other (suc j) x (held_in queues) (is_of-no (suc j) x (λ e. n (omega arith))) ∙ held_of j queues a ∙ sym (get_or-set_other queues i j (get_or queues i [] ++ x ∷ []) [] n))

-- ---- Taking the least command

pub least_first : (xs : List Submission) (x : Submission) → least xs ≡ Some x → xs ≡ x ∷ drop 1 xs
least_first [] x e = let g : ⊥ = cc in absurd g
least_first (y ∷ ys) x e = let f : y ≡ x = cc in ap (λ z. z ∷ ys) f

-- it is of a member that has a queue
pub least_sender : (queues : List (List Submission)) (x : Submission) → AreQueues 0 queues → least (held_in queues) ≡ Some x → (1 ≤ x.stamp.member) × (x.stamp.member ≤ length queues)
least_sender queues x a e =
    (subst (Each (λ (y : Submission). (1 ≤ y.stamp.member) × (y.stamp.member ≤ length queues))) (least_first (held_in queues) x e) (held_senders (length queues) queues (omega arith) a)).0

-- the queues without the first command of the queue of this place
abbrev pub shorter : ℕ → List (List Submission) → List (List Submission)
shorter i queues = set queues i (drop 1 (get_or queues i []))

module _ (i : ℕ) (queues : List (List Submission)) (x : Submission) (a : AreQueues 0 queues) (sender : x.stamp.member ≡ suc i) (first : least (held_in queues) ≡ Some x) where
  abbrev rest : List Submission
  rest = drop 1 (held_in queues)

  split : held_in queues ≡ x ∷ rest
  split = least_first (held_in queues) x first

  -- it is the first of its queue
  pub queue_first : get_or queues i [] ≡ x ∷ of (suc i) rest
  queue_first = sym (held_of i queues a) ∙ ap (of (suc i)) split ∙ filter-yes (is_of (suc i)) x rest (is_of-yes (suc i) x sender)

  pub queues_taken : AreQueues 0 (shorter i queues)
  queues_taken =
      let q : IsQueue (suc i) (x ∷ of (suc i) rest) = subst (IsQueue (suc i)) queue_first (queue_at (suc i) 0 i queues (omega arith) a) in
      queues_set (suc i) 0 i queues (drop 1 (get_or queues i [])) (omega arith) a (subst (IsQueue (suc i)) (sym (ap (drop 1) queue_first)) record { own = q.own.1; rising = q.rising.1 })

  -- without it the others are held
  pub held_taken : held_in (shorter i queues) ≡ rest
  held_taken = held_is (shorter i queues) rest queues_taken rises none each
    where
      rises : Rising rest
      rises = let r : Rising (x ∷ rest) = subst Rising split (held_rises queues a) in r.1

      others : (k : ℕ) → (suc i ≡ k → ⊥) → of k rest ≡ of k (held_in queues)
      others k n = sym (ap (of k) split ∙ filter-no (is_of k) x rest (is_of-no k x (λ e. n (sym sender ∙ e))))

      none : of 0 rest ≡ []
      none = others 0 (λ e. omega arith) ∙ held_of_none queues a

      made : i < length queues
      made = let h : x.stamp.member ≤ length queues = (least_sender queues x a first).1 in omega arith

      here : of (suc i) rest ≡ get_or (shorter i queues) i []
      here = sym (ap (drop 1) queue_first) ∙ sym (get_or-set_same queues i (drop 1 (get_or queues i [])) [] made)

      each : (j : ℕ) → of (suc j) rest ≡ get_or (shorter i queues) j []
      each j =
          decide (of (suc j) rest ≡ get_or (shorter i queues) j []) j i
          (λ e. subst (λ n. of (suc n) rest ≡ get_or (shorter i queues) n []) (sym e) here)
          (λ n. others (suc j) (λ e. n (omega arith)) ∙ held_of j queues a ∙ sym (get_or-set_other queues i j (drop 1 (get_or queues i [])) [] n))

-- what is taken out of a queue that begins with x is x
pub taken_first : (result : Option Submission) (old new rest : List Submission) (x : Submission) → old ≡ option_to_list result ++ new → new ≡ drop 1 old → old ≡ x ∷ rest → result ≡ Some x
taken_first None old new rest x e f g = let h : rest ≡ x ∷ rest = sym (ap (drop 1) g) ∙ sym f ∙ sym e ∙ g in let l : length rest ≡ suc (length rest) = ap length h in absurd (omega arith)
taken_first (Some y) old new rest x e f g = let h : y ∷ new ≡ x ∷ rest = sym e ∙ g in cc

-- ---- Queues that are empty

queues_more : (m n : ℕ) (queues : List (List Submission)) → AreQueues m queues → AreQueues m (queues ++ replicate n [])
queues_more m zero [] a = tt
queues_more m (suc n) [] a = (record { own = tt; rising = tt }, queues_more (suc m) n [] tt)
queues_more m n (queue ∷ queues) a = (a.0, queues_more (suc m) n queues a.1)

queues_widened : (old new : List (List Submission)) → IsWidened old new → AreQueues 0 old → AreQueues 0 new
queues_widened old new w a = subst (AreQueues 0) (sym w.widened) (queues_more 0 w.more old a)

none_in_empty : (n : ℕ) → all_in (replicate n []) ≡ []
none_in_empty zero = refl
none_in_empty (suc n) = none_in_empty n

pub held_widened : (old new : List (List Submission)) → IsWidened old new → held_in new ≡ held_in old
held_widened old new w =
    ap held_in w.widened
    ∙ ap (sort_by_stamp submitted_at) (flat_map-append (λ queue. queue) old (replicate w.more []) ∙ ap (λ l. all_in old ++ l) (none_in_empty w.more) ∙ append-nil (all_in old))

-- ---- What is kept

length_insert : (x : Submission) (xs : List Submission) → length (insert_by_stamp submitted_at x xs) ≡ length xs + 1
length_insert x [] = refl
length_insert x (y ∷ ys) = elim (is_before x.stamp y.stamp) as (λ b. length (cond b (x ∷ y ∷ ys) (y ∷ insert_by_stamp submitted_at x ys)) ≡ suc (length ys) + 1) [ true ↦ omega arith | false ↦ let e = length_insert x ys in omega arith ]

pub kept_widened : (members count : ℕ) (old new : List (List Submission)) → AreKept members count old → IsWidened old new → length new ≤ members → AreKept members count new
kept_widened members count old new k w within = record { of_each = queues_widened old new w k.of_each; within = within; counted = k.counted ∙ ap length (sym (held_widened old new w)) }

pub kept_put : (members count i : ℕ) (queues : List (List Submission)) (x : Submission) → AreKept members count queues → x.stamp.member ≡ suc i → i < length queues → IsAboveOwn x (held_in queues) → AreKept members (count + 1) (longer_at i x queues)
kept_put members count i queues x k sender made above = record {
  of_each = queues_put i queues x k.of_each sender made above;
  within = let e = length-set queues i (get_or queues i [] ++ x ∷ []) in let h : length queues ≤ members = k.within in omega arith;
  counted = ap (λ n. n + 1) k.counted ∙ sym (ap length (held_put i queues x k.of_each sender made above) ∙ length_insert x (held_in queues));
}

pub kept_taken : (members count i : ℕ) (queues : List (List Submission)) (x : Submission) → AreKept members count queues → x.stamp.member ≡ suc i → least (held_in queues) ≡ Some x → AreKept members (count - 1) (shorter i queues)
kept_taken members count i queues x k sender first = record {
  of_each = queues_taken i queues x k.of_each sender first;
  within = let e = length-set queues i (drop 1 (get_or queues i [])) in let h : length queues ≤ members = k.within in omega arith;
  counted =
      let before : count ≡ suc (length (drop 1 (held_in queues))) = k.counted ∙ ap length (least_first (held_in queues) x first) in
      let after : length (held_in (shorter i queues)) ≡ length (drop 1 (held_in queues)) = ap length (held_taken i queues x k.of_each sender first) in
      omega arith;
}

-- ---- The code's own queues

module _ (queues : List (VecDeque Submission Global)) where
  pub lists-length : length (lists_of queues) ≡ length queues
  lists-length = length-map queues (λ queue. queue.items)

  pub list_at : (i : ℕ) (queue : VecDeque Submission Global) → queue ≡ get_or queues i queue → i < length queues → queue.items ≡ get_or (lists_of queues) i []
  list_at i queue e made = ap (λ (q : VecDeque Submission Global). q.items) e ∙ sym (get_or-map (λ (q : VecDeque Submission Global). q.items) queues i queue [] made)

  -- a change of what one queue holds
  pub lists-set : (i : ℕ) (old new : VecDeque Submission Global) (change : List Submission → List Submission) → old ≡ get_or queues i old → i < length queues → new.items ≡ change old.items
      → lists_of (set queues i new) ≡ set (lists_of queues) i (change (get_or (lists_of queues) i []))
  lists-set i old new change e made f = map-set (λ (q : VecDeque Submission Global). q.items) queues i new ∙ ap (set (lists_of queues) i) (f ∙ ap change (list_at i old e made))

  -- a queue that is put back with what it held
  pub lists-set_same : (i : ℕ) (old new : VecDeque Submission Global) → old ≡ get_or queues i old → i < length queues → new.items ≡ old.items → lists_of (set queues i new) ≡ lists_of queues
  lists-set_same i old new e made f = lists-set i old new (λ l. l) e made f ∙ set-get_or (lists_of queues) i []

  -- each call that makes a queue makes an empty one
  pub lists_widened : {F : Type 0} {step : F → VecDeque Submission Global → F → Type 0} {first : F} (new : List (VecDeque Submission Global))
      → ((f : F) (queue : VecDeque Submission Global) (g : F) → step f queue g → queue.items ≡ []) → AppendsResults step queues new first → IsWidened (lists_of queues) (lists_of new)
  lists_widened {F} {step} {first} new empty r =
      record { more = length r.0; widened = ap lists_of r.2 ∙ map-append (λ (q : VecDeque Submission Global). q.items) queues r.0 ∙ ap (λ l. lists_of queues ++ l) (each r.0 first r.1 r.3) }
    where
      each : (made : List (VecDeque Submission Global)) (f last : F) → FoldsTo step f made last → lists_of made ≡ replicate (length made) []
      each [] f last folds = refl
      each (queue ∷ made) f last folds = λ i. empty f queue folds.0 folds.1 i ∷ each made folds.0 last folds.2 i
