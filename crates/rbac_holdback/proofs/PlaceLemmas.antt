-- The place of a command among those that are held.
use Rattle.std.proofs.Common.{ℕ, zero, suc, Bool, true, false, not, ◌≡◌, ◌⊎◌, inl, inr, ◌<◌, ◌≤◌, arith, refl, sym, subst, ap, ◌∙◌, true≢false, List, [], ◌∷◌, length, get_or, Result, Ok, Err, OnOk, OnErr}
use Rattle.std.specs.List.{AllByRecursion as Each, insert}
use Rattle.std.specs.List.Sorted.{IsPartitionedBy, IsPartitionPoint}
use Rattle.std.specs.Ordering.{is_le}
use Rattle.std.proofs.lemmas.Bool.Decides.{nat_tests}
use Rattle.std.proofs.lemmas.Bool.{not-true, not-false}
use Rattle.rbac_words.specs.declared.stamp.Stamp.{Stamp}
use Rattle.rbac_words.specs.declared.message.Submission.{Submission}
use Rattle.rbac_words.specs.Message.{submitted_at}
use Rattle.rbac_words.specs.Stamp.{IsBefore, is_before, stamp_cmp, IsRising, insert_by_stamp, insert_all}
use Rattle.rbac_holdback.specs.Holdback.{Holdback, IsHoldback, CanBeHeld, CanAllBeHeld}
use Rattle.rbac_order.proofs.StampLemmas.{before_trans, before_true, true_before, before_total, IsApart, Each-insert, Rising-insert}

module _ {X : Type 0} where
  pub Each-at : (P : X → Type 0) (xs : List X) (i : ℕ) (d : X) → i < length xs → Each P xs → P (get_or xs i d)
  Each-at P [] i d h a = absurd (omega arith)
  Each-at P (x ∷ xs) zero d h a = a.0
  Each-at P (x ∷ xs) (suc i) d h a = Each-at P xs i d (omega arith) a.1

  -- of an element at a place
  pub Each-here : (P : X → Type 0) (xs : List X) (i : ℕ) (x : X) → x ≡ get_or xs i x → i < length xs → Each P xs → P x
  Each-here P xs i x e h a = subst P (sym e) (Each-at P xs i x h a)

module _ {X : Type 0} (at : X → Stamp) where
  -- whether an element goes after another one
  abbrev pub goes_after : X → X → Bool
  goes_after x y = not (is_before (at x) (at y))

  -- an element goes after the first ones of a rising list, and before all others
  pub parted : (x : X) (xs : List X) → IsRising at xs → IsPartitionedBy (goes_after x) xs
  parted x [] r i j d le lt e = absurd (omega arith)
  parted x (y ∷ ys) r zero zero d le lt e = e
  parted x (y ∷ ys) r zero (suc j) d le lt e = go (is_before (at x) (at y)) refl
    where
      go : (b : Bool) → is_before (at x) (at y) ≡ b → not b ≡ true
      go false f = refl
      go true f =
          absurd
          (true≢false
          (sym (true_before (at x) (at (get_or ys j d)) (before_trans (at x) (at y) (at (get_or ys j d)) (before_true (at x) (at y) f) (Each-at (λ z. IsBefore (at y) (at z)) ys j d (omega arith) r.0)))
          ∙ not-true (is_before (at x) (at (get_or ys j d))) e))
  parted x (y ∷ ys) r (suc i) zero d le lt e = absurd (omega arith)
  parted x (y ∷ ys) r (suc i) (suc j) d le lt e = parted x ys r.1 i j d (omega arith) (omega arith) e

  -- put at that place, it is where its stamp puts it
  pub at_place : (x : X) (xs : List X) (i : ℕ) → i ≤ length xs → IsPartitionPoint (λ y. goes_after x y ≡ true) (λ y. goes_after x y ≡ false) xs i → insert xs i x ≡ insert_by_stamp at x xs
  at_place x [] zero le part = refl
  at_place x [] (suc i) le part = absurd (omega arith)
  at_place x (y ∷ ys) zero le part = rw (not-false (is_before (at x) (at y)) (part.1 0 y (omega arith) (omega arith))) refl
  at_place x (y ∷ ys) (suc i) le part =
      rw (not-true (is_before (at x) (at y)) (part.0 0 y (omega arith) (omega arith)))
      (ap (λ l. y ∷ l) (at_place x ys i (omega arith) ((λ k d low high. part.0 (suc k) d (omega arith) (omega arith)), (λ k d low high. part.1 (suc k) d (omega arith) (omega arith)))))

  -- above each one of the same member, so no other has this stamp
  pub apart : (x : X) (xs : List X) → Each (λ y. (at y).member ≡ (at x).member → IsBefore (at y) (at x)) xs → Each (IsApart at x) xs
  apart x [] a = tt
  apart x (y ∷ ys) a = (go (before_total (at x) (at y)), apart x ys a.1)
    where
      go : (at x ≡ at y) ⊎ (IsBefore (at x) (at y) ⊎ IsBefore (at y) (at x)) → IsApart at x y
      go (inl e) = inr (a.0 (ap (λ s. s.member) (sym e)))
      go (inr (inl h)) = inl h
      go (inr (inr h)) = inr h

  pub Rising-put : (x : X) (xs : List X) → IsRising at xs → Each (λ y. (at y).member ≡ (at x).member → IsBefore (at y) (at x)) xs → IsRising at (insert_by_stamp at x xs)
  Rising-put x xs r a = Rising-insert at x xs r (apart x xs a)

-- the comparison that finds the place
pub le-after : (s t : Stamp) → is_le (stamp_cmp t s) ≡ not (is_before s t)
le-after s t = grind (arith, nat_tests)

-- what the requirements of a put keep; seen is h as its caller sees it
pub IsHoldback-put : (h seen : Holdback) (x : Submission) → h ≡ seen → IsHoldback h → CanBeHeld seen x → IsHoldback (record { members = h.members; held = insert_by_stamp submitted_at x h.held })
IsHoldback-put h seen x e k can =
    let fits : CanBeHeld h x = subst (λ (v : Holdback). CanBeHeld v x) (sym e) can in
    record {
      rising = Rising-put submitted_at x h.held k.rising fits.above;
      senders = Each-insert submitted_at (λ (y : Submission). (1 ≤ y.stamp.member) × (y.stamp.member ≤ h.members)) x h.held (fits.low, fits.high) k.senders;
    }

-- and so does an answer that puts it or changes nothing
pub IsHoldback-answer : {T E : Type 0} (result : Result T E) (h seen : Holdback) (x : Submission) (new : List Submission) → h ≡ seen → IsHoldback h → CanBeHeld seen x
    → OnOk result (new ≡ insert_by_stamp submitted_at x h.held) → OnErr result (new ≡ h.held) → IsHoldback (record { members = h.members; held = new })
IsHoldback-answer (Ok t) h seen x new e k can put same = subst (λ (xs : List Submission). IsHoldback (record { members = h.members; held = xs })) (sym put) (IsHoldback-put h seen x e k can)
IsHoldback-answer (Err f) h seen x new e k can put same = subst (λ (xs : List Submission). IsHoldback (record { members = h.members; held = xs })) (sym same) k

-- what the requirements of several puts keep
pub IsHoldback-put_all : (h : Holdback) (xs : List Submission) → IsHoldback h → CanAllBeHeld h xs → IsHoldback (record { members = h.members; held = insert_all submitted_at xs h.held })
IsHoldback-put_all h [] k can = k
IsHoldback-put_all h (x ∷ xs) k can =
    let next : Holdback = record { members = h.members; held = insert_by_stamp submitted_at x h.held } in
    IsHoldback-put_all next xs (IsHoldback-put h h x refl k can.0) can.1
