-- What several puts leave of queues, and the room that they want.
use Rattle.std.proofs.Common.{ℕ, zero, suc, ◌≡◌, ◌≤◌, ◌<◌, ◌+◌, ◌-◌, arith, refl, sym, subst, ap, ◌∙◌, List, [], ◌∷◌, ◌++◌, length, replicate, set, get_or, append_assoc, Global, Result, Ok, Err, OnOk}
use Rattle.std.specs.List.{AllByRecursion as Each}
use Rattle.std.specs.VecDeque.{deque_len, deque_capacity}
use Rattle.std.specs.declared.collections.VecDeque.{VecDeque}
use Rattle.std.proofs.lemmas.List.{get_or-set_same, get_or-set_other, get_or-map, map-set, length-set, length-map}
use Rattle.rbac_words.specs.Message.{submitted_at}
use Rattle.rbac_words.specs.Stamp.{insert_by_stamp, insert_all}
use Rattle.rbac_words.specs.declared.message.Submission.{Submission}
use Rattle.sorted_keys.proofs.Lists.{Each-weaker, Each-both}
use Rattle.rbac_order.proofs.SenderLemmas.{decide}
use Rattle.rbac_holdback.specs.Holdback.{Holdback, CanBeHeld, CanAllBeHeld, IsAboveOwn, AreAboveOwn}
use Rattle.rbac_holdback.specs.Queues.{AreKept, IsWidened, HaveRoom, held_in, longer, longer_by, lists_of, rooms_of, room_of, room_at}
use Rattle.rbac_holdback.proofs.MoveLemmas.{held_put, held_widened, kept_put, kept_widened, lists-length}

-- ---- One put, and several

-- each command is of a member whose queue is among so many
abbrev pub AreMade : ℕ → List Submission → Type 0
AreMade count xs = Each (λ (x : Submission). (1 ≤ x.stamp.member) × (x.stamp.member ≤ count)) xs

-- each command is of a member from the first one on
abbrev pub AreNumbered : List Submission → Type 0
AreNumbered xs = Each (λ (x : Submission). 1 ≤ x.stamp.member) xs

-- what is kept of queues that hold these commands too
pub record ArePut (members count : ℕ) (queues : List (List Submission)) (held : List Submission) : Type 0 where
  pub kept : AreKept members count queues
  pub held_are : held_in queues ≡ held

pub put_one : (members count : ℕ) (queues : List (List Submission)) (x : Submission) → AreKept members count queues → 1 ≤ x.stamp.member → x.stamp.member ≤ length queues → IsAboveOwn x (held_in queues)
    → ArePut members (count + 1) (longer x queues) (insert_by_stamp submitted_at x (held_in queues))
put_one members count queues x k low made above =
    let i = x.stamp.member - 1 in
    let sender : x.stamp.member ≡ suc i = omega arith in
    let there : i < length queues = omega arith in
    record { kept = kept_put members count i queues x k sender there above; held_are = held_put i queues x k.of_each sender there above }

pub put_all : (members count : ℕ) (xs : List Submission) (queues : List (List Submission)) → AreKept members count queues → AreMade (length queues) xs → AreAboveOwn xs (held_in queues)
    → ArePut members (count + length xs) (longer_by xs queues) (insert_all submitted_at xs (held_in queues))
put_all members count [] queues k made above = let e : count ≡ count + 0 = omega arith in record { kept = subst (λ n. AreKept members n queues) e k; held_are = refl }
put_all members count (x ∷ xs) queues k made above =
    let one = put_one members count queues x k (made.0).0 (made.0).1 above.0 in
    let as_many = length-set queues (x.stamp.member - 1) (get_or queues (x.stamp.member - 1) [] ++ x ∷ []) in
    let rest = put_all members (count + 1) xs (longer x queues) one.kept (subst (λ n. AreMade n xs) (sym as_many) made.1) (subst (AreAboveOwn xs) (sym one.held_are) above.1) in
    let e : (count + 1) + length xs ≡ count + suc (length xs) = omega arith in
    record { kept = subst (λ n. AreKept members n (longer_by xs (longer x queues))) e rest.kept; held_are = rest.held_are ∙ ap (insert_all submitted_at xs) one.held_are }

-- what a put requires of each of several commands
pub all_above : (h : Holdback) (xs : List Submission) → CanAllBeHeld h xs → AreAboveOwn xs h.held
all_above h [] can = tt
all_above h (x ∷ xs) can = ((can.0).above, all_above (record h { held = insert_by_stamp submitted_at x h.held }) xs can.1)

pub all_of_group : (h : Holdback) (xs : List Submission) → CanAllBeHeld h xs → AreMade h.members xs
all_of_group h [] can = tt
all_of_group h (x ∷ xs) can = (((can.0).low, (can.0).high), all_of_group (record h { held = insert_by_stamp submitted_at x h.held }) xs can.1)

pub all_numbered : (count : ℕ) (xs : List Submission) → AreMade count xs → AreNumbered xs
all_numbered count xs made = Each-weaker (λ (x : Submission). (1 ≤ x.stamp.member) × (x.stamp.member ≤ count)) (λ x. 1 ≤ x.stamp.member) xs (λ x h. h.0) made

pub all_below : (count : ℕ) (xs : List Submission) → AreMade count xs → Each (λ (x : Submission). x.stamp.member ≤ count) xs
all_below count xs made = Each-weaker (λ (x : Submission). (1 ≤ x.stamp.member) × (x.stamp.member ≤ count)) (λ x. x.stamp.member ≤ count) xs (λ x h. h.1) made

-- ---- Room

room_there : (i : ℕ) (rooms : List ℕ) → 1 ≤ get_or rooms i 0 → i < length rooms
room_there i [] h = absurd (let no : ⊥ = omega arith in no)
room_there zero (room ∷ rooms) h = omega arith
room_there (suc i) (room ∷ rooms) h = let below = room_there i rooms h in omega arith

module _ (queues : List (VecDeque Submission Global)) where
  pub rooms-length : length (rooms_of queues) ≡ length queues
  rooms-length = length-map queues room_of

  -- a queue that has room is made
  pub room_made : (member : ℕ) → 1 ≤ room_at member (rooms_of queues) → member - 1 < length queues
  room_made member h = let there = room_there (member - 1) (rooms_of queues) h in let e = rooms-length in omega arith

  pub rooms_made : (n : ℕ) (xs : List Submission) → 1 ≤ n → AreNumbered xs → HaveRoom n (rooms_of queues) xs → AreMade (length (lists_of queues)) xs
  rooms_made n xs some numbered room =
      Each-weaker (λ (x : Submission). (1 ≤ x.stamp.member) × (n ≤ room_at x.stamp.member (rooms_of queues))) (λ x. (1 ≤ x.stamp.member) × (x.stamp.member ≤ length (lists_of queues))) xs
      (λ x h. let low : 1 ≤ x.stamp.member = h.0 in let there = room_made x.stamp.member (omega (arith, h.1)) in let e = lists-length queues in (low, omega arith))
      (Each-both (λ (x : Submission). 1 ≤ x.stamp.member) (λ (x : Submission). n ≤ room_at x.stamp.member (rooms_of queues)) xs numbered room)

-- no queue has less room
abbrev pub HasGrown : List ℕ → List ℕ → Type 0
HasGrown old new = (member : ℕ) → room_at member old ≤ room_at member new

pub have_grown : (n : ℕ) (old new : List ℕ) (xs : List Submission) → HasGrown old new → HaveRoom n old xs → HaveRoom n new xs
have_grown n old new xs grown room = Each-weaker (λ (x : Submission). n ≤ room_at x.stamp.member old) (λ x. n ≤ room_at x.stamp.member new) xs (λ x h. let more = grown x.stamp.member in omega arith) room

-- where each of them has room for all, each has room for the others once the first one is put
pub room_left : (n : ℕ) (rooms : List ℕ) (x : Submission) (xs : List Submission) → HaveRoom (suc n) rooms (x ∷ xs) → HaveRoom n (set rooms (x.stamp.member - 1) (room_at x.stamp.member rooms - 1)) xs
room_left n rooms x xs room = Each-weaker (λ (y : Submission). suc n ≤ room_at y.stamp.member rooms) (λ y. n ≤ room_at y.stamp.member (set rooms i (room_at x.stamp.member rooms - 1))) xs one room.1
  where
    i : ℕ
    i = x.stamp.member - 1

    one : (y : Submission) → suc n ≤ room_at y.stamp.member rooms → n ≤ room_at y.stamp.member (set rooms i (room_at x.stamp.member rooms - 1))
    one y h =
        decide (n ≤ get_or (set rooms i (room_at x.stamp.member rooms - 1)) (y.stamp.member - 1) 0) (y.stamp.member - 1) i
        (λ e. let same = get_or-set_same rooms i (room_at x.stamp.member rooms - 1) 0 (room_there i rooms (omega (arith, room.0))) in
        subst (λ j. n ≤ get_or (set rooms i (room_at x.stamp.member rooms - 1)) j 0) (sym e) (let first : suc n ≤ get_or rooms i 0 = room.0 in omega arith))
        (λ d. let other = get_or-set_other rooms i (y.stamp.member - 1) (room_at x.stamp.member rooms - 1) 0 d in omega arith)

-- ---- The code's own queues

module _ (queues : List (VecDeque Submission Global)) (i : ℕ) (old new : VecDeque Submission Global) (is : old ≡ get_or queues i old) (there : i < length queues) where
  -- the room of the queue at this place
  pub room_here : get_or (rooms_of queues) i 0 ≡ room_of old
  room_here = get_or-map room_of queues i old 0 there ∙ ap room_of (sym is)

  pub rooms-set : rooms_of (set queues i new) ≡ set (rooms_of queues) i (room_of new)
  rooms-set = map-set room_of queues i new

  -- one command more where there is room
  pub rooms_put : 1 ≤ get_or (rooms_of queues) i 0 → deque_len new ≡ deque_len old + 1 → (deque_len old < deque_capacity old → deque_capacity new ≡ deque_capacity old)
      → rooms_of (set queues i new) ≡ set (rooms_of queues) i (get_or (rooms_of queues) i 0 - 1)
  rooms_put some more kept =
      let here = room_here in
      let capacity = kept (omega arith) in
      let e : room_of new ≡ get_or (rooms_of queues) i 0 - 1 = omega arith in
      rooms-set ∙ ap (set (rooms_of queues) i) e

  there_too : i < length (rooms_of queues)
  there_too = let e = rooms-length queues in omega arith

  -- more room in one queue
  pub rooms_grown : room_of old ≤ room_of new → HasGrown (rooms_of queues) (rooms_of (set queues i new))
  rooms_grown more member =
      subst (λ rooms. room_at member (rooms_of queues) ≤ room_at member rooms) (sym rooms-set)
      (decide (get_or (rooms_of queues) (member - 1) 0 ≤ get_or (set (rooms_of queues) i (room_of new)) (member - 1) 0) (member - 1) i
      (λ e. let same = get_or-set_same (rooms_of queues) i (room_of new) 0 there_too in let here = room_here in
      subst (λ j. get_or (rooms_of queues) j 0 ≤ get_or (set (rooms_of queues) i (room_of new)) j 0) (sym e) (omega arith))
      (λ d. let other = get_or-set_other (rooms_of queues) i (member - 1) (room_of new) 0 d in omega arith))

  pub room_of_new : get_or (rooms_of (set queues i new)) i 0 ≡ room_of new
  room_of_new = ap (λ rooms. get_or rooms i 0) rooms-set ∙ get_or-set_same (rooms_of queues) i (room_of new) 0 there_too

-- queues that are widened twice
replicate-add : (m n k : ℕ) → k ≡ m + n → ◌≡◌ {A = List (List Submission)} (replicate k []) (replicate m [] ++ replicate n [])
replicate-add zero n k e = let f : k ≡ n = omega arith in ap (λ j. replicate j []) f
replicate-add (suc m) n zero e = absurd (let no : ⊥ = omega arith in no)
replicate-add (suc m) n (suc k) e = ap (λ l. [] ∷ l) (replicate-add m n k (omega arith))

pub widened_again : (a b c : List (List Submission)) → IsWidened a b → IsWidened b c → IsWidened a c
widened_again a b c v w = record {
  more = v.more + w.more;
  widened = w.widened ∙ ap (λ l. l ++ replicate w.more []) v.widened ∙ append_assoc a (replicate v.more []) (replicate w.more []) ∙ ap (λ l. a ++ l) (sym (replicate-add v.more w.more (v.more + w.more) refl));
}

-- what is shown of an answer that is given
pub on_ok : {T E A B : Type 0} (result : Result T E) → (A → B) → OnOk result A → OnOk result B
on_ok (Ok t) f a = f a
on_ok (Err e) f a = tt

-- ---- Puts into queues that were made

module _
    (members count : ℕ) (seen : Holdback) (old new : List (VecDeque Submission Global)) (is : ◌≡◌ {A = Holdback} (record { members = members; held = held_in (lists_of old) }) seen)
    (kept : AreKept members count (lists_of old)) (made : IsWidened (lists_of old) (lists_of new)) (within : length new ≤ members) where
  -- they hold what was held
  pub nothing_put : ArePut members count (lists_of new) seen.held
  nothing_put = record {
    kept = let e = lists-length new in kept_widened members count (lists_of old) (lists_of new) kept made (omega arith);
    held_are = held_widened (lists_of old) (lists_of new) made ∙ ap (λ (h : Holdback). h.held) is;
  }

  pub one_put : (x : Submission) → CanBeHeld seen x → 1 ≤ room_at x.stamp.member (rooms_of new) → ArePut members (count + 1) (longer x (lists_of new)) (insert_by_stamp submitted_at x seen.held)
  one_put x can room =
      let there = room_made new x.stamp.member room in
      let low = can.low in
      let e = lists-length new in
      let one = put_one members count (lists_of new) x nothing_put.kept low (omega arith) (subst (IsAboveOwn x) (sym nothing_put.held_are) can.above) in
      record { kept = one.kept; held_are = one.held_are ∙ ap (insert_by_stamp submitted_at x) nothing_put.held_are }

  pub all_put : (xs : List Submission) → CanAllBeHeld seen xs → HaveRoom (length xs) (rooms_of new) xs → ArePut members (count + length xs) (longer_by xs (lists_of new)) (insert_all submitted_at xs seen.held)
  all_put xs can room =
      let all = put_all members count xs (lists_of new) nothing_put.kept (there xs can room) (subst (AreAboveOwn xs) (sym nothing_put.held_are) (all_above seen xs can)) in
      record { kept = all.kept; held_are = all.held_are ∙ ap (insert_all submitted_at xs) nothing_put.held_are }
    where
      there : (ys : List Submission) → CanAllBeHeld seen ys → HaveRoom (length ys) (rooms_of new) ys → AreMade (length (lists_of new)) ys
      there [] can room = tt
      there (y ∷ ys) can room = rooms_made new (suc (length ys)) (y ∷ ys) (omega arith) (all_numbered seen.members (y ∷ ys) (all_of_group seen (y ∷ ys) can)) room
