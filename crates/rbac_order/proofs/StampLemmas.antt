-- The order of stamps is total, and what follows for lists in stamp order.
use Rattle.std.proofs.Common.{Bool, true, false, not, cond, ◌||◌, ◌≡◌, ◌↔◌, ◌<◌, ◌⊎◌, inl, inr, arith, refl, sym, ap, subst, ◌∙◌, true≢false, List, [], ◌∷◌, ◌++◌, Option, Some, None, append-nil}
use Rattle.std.specs.List.{AllByRecursion as Each, filter, list_any}
use Rattle.std.specs.List.Sorted.{IsPermutation}
use Rattle.std.proofs.lemmas.Bool.Decides.{nat_tests}
use Rattle.std.proofs.lemmas.Bool.{or_left}
use Rattle.std.proofs.lemmas.List.Elements.{filter-append}
use Rattle.std.proofs.lemmas.List.Sorted.{IsPermutation-refl, IsPermutation-cons, IsPermutation-middle, IsPermutation-trans}
use Rattle.sorted_keys.proofs.Lists.{Each-append, Each-left, Each-right, Each-weaker, Each-always, Each-filter, filter-all, filter-none}
use Rattle.rbac_words.specs.declared.stamp.Stamp.{Stamp}
use Rattle.rbac_words.specs.Message.{next_place}
use Rattle.rbac_words.specs.Stamp.{IsBefore, is_before, is_same_stamp, IsRising, IsInStampOrder, insert_by_stamp, insert_all, sort_by_stamp, last_stamp, up_to, IsAfter, has_passed}

-- the order in plain numbers
abbrev IsLess : Stamp → Stamp → Type 0
IsLess s t = (s.clock < t.clock) ⊎ ((s.clock ≡ t.clock) × ((s.member < t.member) ⊎ ((s.member ≡ t.member) × (s.place < t.place))))

pub in_numbers : (s t : Stamp) → IsBefore s t ↔ IsLess s t
in_numbers s t = (λ p. grind (arith, nat_tests), λ p. grind (arith, nat_tests))

pub earlier : (s t : Stamp) → s.clock < t.clock → IsBefore s t
earlier s t h = grind (arith, nat_tests)

pub before_trans : (s t u : Stamp) → IsBefore s t → IsBefore t u → IsBefore s u
before_trans s t u p q = grind (arith, nat_tests)

pub before_irrefl : (s : Stamp) → IsBefore s s → ⊥
before_irrefl s p = grind (arith, nat_tests)

pub before_asym : (s t : Stamp) → IsBefore s t → IsBefore t s → ⊥
before_asym s t p q = grind (arith, nat_tests)

pub before_true : (s t : Stamp) → is_before s t ≡ true → IsBefore s t
before_true s t p = grind (arith, nat_tests)

pub true_before : (s t : Stamp) → IsBefore s t → is_before s t ≡ true
true_before s t p = grind (arith, nat_tests)

-- neither below the other: the same stamp
pub tie : (s t : Stamp) → is_before s t ≡ false → is_before t s ≡ false → s ≡ t
tie s t p q = let a : s.clock ≡ t.clock = grind (arith, nat_tests) in let b : s.member ≡ t.member = grind (arith, nat_tests) in let c : s.place ≡ t.place = grind (arith, nat_tests) in λ i. record { clock = a i; member = b i; place = c i }

pub before_total : (s t : Stamp) → (s ≡ t) ⊎ (IsBefore s t ⊎ IsBefore t s)
before_total s t = go (is_before s t) refl (is_before t s) refl
  where
    go : (a : Bool) → is_before s t ≡ a → (b : Bool) → is_before t s ≡ b → (s ≡ t) ⊎ (IsBefore s t ⊎ IsBefore t s)
    go true p b q = inr (inl (before_true s t p))
    go false p true q = inr (inr (before_true t s q))
    go false p false q = inl (tie s t p q)

pub same_stamp_itself : (s : Stamp) → is_same_stamp s s ≡ true
same_stamp_itself s = grind (arith, nat_tests)

pub same_stamp_below : (s t : Stamp) → IsBefore s t → is_same_stamp s t ≡ false
same_stamp_below s t p = grind (arith, nat_tests)

-- ---- Places in one message

-- a command of the same message
pub record IsBeside (s t : Stamp) : Type 0 where
  pub clock : t.clock ≡ s.clock
  pub member : t.member ≡ s.member

pub before_next : (s t : Stamp) → IsBefore s t → IsBefore s (next_place t)
before_next s t p = grind (arith, nat_tests)

pub next_above : (s : Stamp) → IsBefore s (next_place s)
next_above s = grind (arith, nat_tests)

-- a later message is above each command of a message
pub message_above : (s t u : Stamp) → IsBeside s t → u.member ≡ s.member → u.place ≡ 0 → IsBefore s u → IsBefore t u
message_above s t u b m p h = let c : t.clock ≡ s.clock = b.clock in let d : t.member ≡ s.member = b.member in grind (arith, nat_tests)

-- and so is what another member sends after it
pub sent_above : (s t u : Stamp) → IsBeside s t → (u.member ≡ s.member → ⊥) → IsBefore s u → IsBefore t u
sent_above s t u b m h = let c : t.clock ≡ s.clock = b.clock in let d : t.member ≡ s.member = b.member in grind (arith, nat_tests)

-- of one member a later message has a greater clock
pub message_later : (s u : Stamp) → u.member ≡ s.member → u.place ≡ 0 → IsBefore s u → s.clock < u.clock
message_later s u m p h = grind (arith, nat_tests)

-- ---- Rising lists

module _ {X : Type 0} (at : X → Stamp) where
  pub Rising-push : (xs : List X) (y : X) → IsRising at xs → Each (λ x. IsBefore (at x) (at y)) xs → IsRising at (xs ++ y ∷ [])
  Rising-push [] y r a = (tt, tt)
  Rising-push (x ∷ xs) y r a = (Each-append (λ z. IsBefore (at x) (at z)) xs (y ∷ []) r.0 (a.0, tt), Rising-push xs y r.1 a.1)

  pub Rising-append : (xs ys : List X) → IsRising at xs → IsRising at ys → Each (λ x. Each (λ y. IsBefore (at x) (at y)) ys) xs → IsRising at (xs ++ ys)
  Rising-append [] ys r s a = s
  Rising-append (x ∷ xs) ys r s a = (Each-append (λ z. IsBefore (at x) (at z)) xs ys r.0 a.0, Rising-append xs ys r.1 s a.1)

  pub Rising-left : (xs ys : List X) → IsRising at (xs ++ ys) → IsRising at xs
  Rising-left [] ys r = tt
  Rising-left (x ∷ xs) ys r = (Each-left _ xs ys r.0, Rising-left xs ys r.1)

  -- in a rising list each later element is above each earlier one
  pub Rising-across : (xs ys : List X) → IsRising at (xs ++ ys) → Each (λ x. Each (λ y. IsBefore (at x) (at y)) ys) xs
  Rising-across [] ys r = tt
  Rising-across (x ∷ xs) ys r = (Each-right _ xs ys r.0, Rising-across xs ys r.1)

  -- a rising list is in stamp order as it is
  pub sort-rising : (xs : List X) → IsRising at xs → sort_by_stamp at xs ≡ xs
  sort-rising [] r = refl
  sort-rising (x ∷ xs) r = ap (insert_by_stamp at x) (sort-rising xs r.1) ∙ first xs r.0
    where
      first : (ys : List X) → Each (λ y. IsBefore (at x) (at y)) ys → insert_by_stamp at x ys ≡ x ∷ ys
      first [] b = refl
      first (y ∷ ys) b = rw (true_before (at x) (at y) b.0) refl

  insert-moves : (x : X) (ys : List X) → IsPermutation (x ∷ ys) (insert_by_stamp at x ys)
  insert-moves x [] = IsPermutation-refl (x ∷ [])
  insert-moves x (y ∷ ys) = elim (is_before (at x) (at y)) as (λ b. IsPermutation (x ∷ y ∷ ys) (cond b (x ∷ y ∷ ys) (y ∷ insert_by_stamp at x ys))) [
    | true ↦ IsPermutation-refl (x ∷ y ∷ ys)
    | false ↦ IsPermutation-trans (x ∷ y ∷ ys) (y ∷ x ∷ ys) _ (IsPermutation-middle (x ∷ []) y ys) (IsPermutation-cons y (x ∷ ys) _ (insert-moves x ys))
  ]

  pub sort-moves : (xs : List X) → IsPermutation xs (sort_by_stamp at xs)
  sort-moves [] = IsPermutation-refl []
  sort-moves (x ∷ xs) = IsPermutation-trans (x ∷ xs) (x ∷ sort_by_stamp at xs) _ (IsPermutation-cons x xs _ (sort-moves xs)) (insert-moves x (sort_by_stamp at xs))

  pub Each-insert : (P : X → Type 0) (x : X) (ys : List X) → P x → Each P ys → Each P (insert_by_stamp at x ys)
  Each-insert P x [] a b = (a, tt)
  Each-insert P x (y ∷ ys) a b = elim (is_before (at x) (at y)) as (λ t. Each P (cond t (x ∷ y ∷ ys) (y ∷ insert_by_stamp at x ys))) [
    | true ↦ (a, b)
    | false ↦ (b.0, Each-insert P x ys a b.1)
  ]

  insert-in_order : (x : X) (ys : List X) → IsInStampOrder at ys → IsInStampOrder at (insert_by_stamp at x ys)
  insert-in_order x [] o = (tt, tt)
  insert-in_order x (y ∷ ys) o = go (is_before (at x) (at y)) refl (insert-in_order x ys o.1)
    where
      go : (b : Bool) → is_before (at x) (at y) ≡ b → IsInStampOrder at (insert_by_stamp at x ys) → IsInStampOrder at (cond b (x ∷ y ∷ ys) (y ∷ insert_by_stamp at x ys))
      go true e rest =
          let below : IsBefore (at x) (at y) = before_true (at x) (at y) e in (
            (
              before_asym (at x) (at y) below,
              Each-weaker (λ z. IsBefore (at z) (at y) → ⊥) (λ z. IsBefore (at z) (at x) → ⊥) ys (λ z not_below h. not_below (before_trans (at z) (at x) (at y) h below)) o.0,
            ),
            o,
          )
      go false e rest = (Each-insert (λ z. IsBefore (at z) (at y) → ⊥) x ys (λ h. true≢false (sym (true_before (at x) (at y) h) ∙ e)) o.0, rest)

  pub sort-in_order : (xs : List X) → IsInStampOrder at (sort_by_stamp at xs)
  sort-in_order [] = tt
  sort-in_order (x ∷ xs) = insert-in_order x (sort_by_stamp at xs) (sort-in_order xs)

  -- the last stamp of a rising list is not below any of it
  pub last_not_below : (x : X) (xs : List X) (t : Stamp) → IsRising at (x ∷ xs) → last_stamp at (x ∷ xs) ≡ Some t → Each (λ y. is_before t (at y) ≡ false) (x ∷ xs)
  last_not_below x [] t r e = (not_itself (let f : at x ≡ t = cc in f), tt)
    where
      not_itself : at x ≡ t → is_before t (at x) ≡ false
      not_itself f = go (is_before t (at x)) refl
        where
          go : (b : Bool) → is_before t (at x) ≡ b → b ≡ false
          go true p = absurd (before_irrefl t (subst (λ s. IsBefore t s) f (before_true t (at x) p)))
          go false p = refl
  last_not_below x (y ∷ ys) t r e =
      let rest = last_not_below y ys t r.1 e in
      (go (is_before t (at x)) refl rest.0, rest)
    where
      go : (b : Bool) → is_before t (at x) ≡ b → is_before t (at y) ≡ false → b ≡ false
      go true p q = absurd (true≢false (sym (true_before t (at y) (before_trans t (at x) (at y) (before_true t (at x) p) r.0.0)) ∙ q))
      go false p q = refl

  last_below : (x : X) (xs : List X) (t : Stamp) (z : X) → last_stamp at (x ∷ xs) ≡ Some t → Each (λ y. IsBefore (at y) (at z)) (x ∷ xs) → IsBefore t (at z)
  last_below x [] t z e a = subst (λ s. IsBefore s (at z)) (let f : at x ≡ t = cc in f) a.0
  last_below x (y ∷ ys) t z e a = last_below y ys t z e a.1

  pub Each-swap : (xs ys : List X) → Each (λ x. Each (λ y. IsBefore (at x) (at y)) ys) xs → Each (λ y. Each (λ x. IsBefore (at x) (at y)) xs) ys
  Each-swap xs [] a = tt
  Each-swap xs (y ∷ ys) a = (Each-weaker _ _ xs (λ x h. h.0) a, Each-swap xs ys (Each-weaker _ _ xs (λ x h. h.1) a))

  -- of a rising list the first part is what goes up to that part's last stamp
  pub up_to-front : (xs ys : List X) → IsRising at (xs ++ ys) → up_to at (last_stamp at xs) (xs ++ ys) ≡ xs
  up_to-front [] ys r = refl
  up_to-front (x ∷ xs) ys r = go (last_stamp at (x ∷ xs)) refl
    where
      none : (x : X) (xs : List X) → last_stamp at (x ∷ xs) ≡ None → ⊥
      none x [] e = let g : ⊥ = cc in g
      none x (y ∷ ys) e = none y ys e

      go : (o : Option Stamp) → last_stamp at (x ∷ xs) ≡ o → up_to at o ((x ∷ xs) ++ ys) ≡ x ∷ xs
      go None e = absurd (none x xs e)
      go (Some t) e =
          filter-append (λ z. not (is_before t (at z))) (x ∷ xs) ys
          ∙ ap (λ l. l ++ filter (λ z. not (is_before t (at z))) ys)
          (filter-all (λ z. not (is_before t (at z))) (x ∷ xs) (Each-weaker _ (λ z. not (is_before t (at z)) ≡ true) (x ∷ xs) (λ z h. ap not h) (last_not_below x xs t (Rising-left (x ∷ xs) ys r) e)))
          ∙ ap (λ l. (x ∷ xs) ++ l)
          (filter-none (λ z. not (is_before t (at z))) ys (Each-weaker (λ z. Each (λ w. IsBefore (at w) (at z)) (x ∷ xs)) (λ z. not (is_before t (at z)) ≡ false) ys
          (λ z h. ap not (true_before t (at z) (last_below x xs t z e h))) (Each-swap (x ∷ xs) ys (Rising-across (x ∷ xs) ys r))))
          ∙ append-nil (x ∷ xs)

  -- ---- The last stamp

  pub last_stamp-push : (xs : List X) (y : X) → last_stamp at (xs ++ y ∷ []) ≡ Some (at y)
  last_stamp-push [] y = refl
  last_stamp-push (x ∷ []) y = refl
  last_stamp-push (x ∷ z ∷ xs) y = last_stamp-push (z ∷ xs) y

  -- what follows in a rising list comes after the last stamp of what goes before
  pub after_last : (xs ys : List X) → IsRising at (xs ++ ys) → Each (λ y. IsAfter (last_stamp at xs) (at y)) ys
  after_last [] ys r = Each-always (λ y. IsAfter None (at y)) ys (λ y. tt)
  after_last (x ∷ []) ys r = r.0
  after_last (x ∷ z ∷ xs) ys r = after_last (z ∷ xs) ys r.1

  -- a rising list has a stamp above another one exactly where its last stamp is
  pub passed_by_one : (s : Stamp) (xs : List X) → IsRising at xs → has_passed (last_stamp at xs) s ≡ list_any (λ x. is_before s (at x)) xs
  passed_by_one s [] r = refl
  passed_by_one s (x ∷ []) r = go (is_before s (at x))
    where
      go : (b : Bool) → b ≡ (b || false)
      go true = refl
      go false = refl
  passed_by_one s (x ∷ y ∷ xs) r = passed_by_one s (y ∷ xs) r.1 ∙ go (is_before s (at x)) refl
    where
      next : IsBefore s (at x) → (is_before s (at y) || list_any (λ z. is_before s (at z)) xs) ≡ true
      next h = or_left _ _ (true_before s (at y) (before_trans s (at x) (at y) h r.0.0))

      go : (b : Bool) → is_before s (at x) ≡ b → (is_before s (at y) || list_any (λ z. is_before s (at z)) xs) ≡ (b || (is_before s (at y) || list_any (λ z. is_before s (at z)) xs))
      go true e = next (before_true s (at x) e)
      go false e = refl

  pub last_none : (xs : List X) → last_stamp at xs ≡ None → xs ≡ []
  last_none [] e = refl
  last_none (x ∷ []) e = let g : ⊥ = cc in absurd g
  last_none (x ∷ y ∷ xs) e = absurd (no_list (y ∷ xs) (last_none (y ∷ xs) e))
    where
      no_list : (zs : List X) → y ∷ xs ≡ [] → ⊥
      no_list zs f = cc

  -- a rising list has nothing above its last stamp, and what is above all of it is above its last stamp
  pub up_to-all : (xs : List X) (t : Stamp) → IsRising at xs → last_stamp at xs ≡ Some t → Each (λ x. not (is_before t (at x)) ≡ true) xs
  up_to-all [] t r e = tt
  up_to-all (x ∷ xs) t r e = Each-weaker (λ z. is_before t (at z) ≡ false) (λ z. not (is_before t (at z)) ≡ true) (x ∷ xs) (λ z h. ap not h) (last_not_below x xs t r e)

  pub last_below_each : (xs : List X) (t s : Stamp) → last_stamp at xs ≡ Some t → Each (λ x. IsBefore (at x) s) xs → IsBefore t s
  last_below_each [] t s e a = let g : ⊥ = cc in absurd g
  last_below_each (x ∷ []) t s e a = subst (λ u. IsBefore u s) (let f : at x ≡ t = cc in f) a.0
  last_below_each (x ∷ y ∷ xs) t s e a = last_below_each (y ∷ xs) t s e a.1

  -- what holds of each stamp holds of the last one
  pub last_has : (P : Stamp → Type 0) (xs : List X) (t : Stamp) → Each (λ x. P (at x)) xs → last_stamp at xs ≡ Some t → P t
  last_has P [] t a e = let g : ⊥ = cc in absurd g
  last_has P (x ∷ []) t a e = subst P (let f : at x ≡ t = cc in f) a.0
  last_has P (x ∷ y ∷ xs) t a e = last_has P (y ∷ xs) t a.1 e

  pub Rising-right : (xs ys : List X) → IsRising at (xs ++ ys) → IsRising at ys
  Rising-right [] ys r = r
  Rising-right (x ∷ xs) ys r = Rising-right xs ys r.1

  pub Rising-filter : (p : X → Bool) (xs : List X) → IsRising at xs → IsRising at (filter p xs)
  Rising-filter p [] r = tt
  Rising-filter p (x ∷ xs) r = elim (p x) as (λ b. IsRising at (cond b (x ∷ filter p xs) (filter p xs))) [ true ↦ (Each-filter (λ y. IsBefore (at x) (at y)) p xs r.0, Rising-filter p xs r.1) | false ↦ Rising-filter p xs r.1 ]

  -- ---- Insertion

  -- below it, or above it
  abbrev pub IsApart : X → X → Type 0
  IsApart x y = IsBefore (at x) (at y) ⊎ IsBefore (at y) (at x)

  -- what is below the first of a rising list is below each of it
  pub first_below : (x y : X) (ys : List X) → IsBefore (at x) (at y) → Each (λ z. IsBefore (at y) (at z)) ys → Each (λ z. IsBefore (at x) (at z)) (y ∷ ys)
  first_below x y ys b r = (b, Each-weaker (λ z. IsBefore (at y) (at z)) (λ z. IsBefore (at x) (at z)) ys (λ z h. before_trans (at x) (at y) (at z) b h) r)

  pub Rising-insert : (x : X) (xs : List X) → IsRising at xs → Each (IsApart x) xs → IsRising at (insert_by_stamp at x xs)
  Rising-insert x [] r a = (tt, tt)
  Rising-insert x (y ∷ ys) r a = go (is_before (at x) (at y)) refl (Rising-insert x ys r.1 a.1)
    where
      go : (b : Bool) → is_before (at x) (at y) ≡ b → IsRising at (insert_by_stamp at x ys) → IsRising at (cond b (x ∷ y ∷ ys) (y ∷ insert_by_stamp at x ys))
      go true e on = (first_below x y ys (before_true (at x) (at y) e) r.0, r)
      go false e on = (Each-insert (λ z. IsBefore (at y) (at z)) x ys (elim a.0 [ inl h ↦ absurd (true≢false (sym (true_before (at x) (at y) h) ∙ e)) | inr h ↦ h ]) r.0, on)

  -- what is above the first part goes into the second one
  pub insert_above : (x : X) (xs ys : List X) → Each (λ y. IsBefore (at y) (at x)) xs → insert_by_stamp at x (xs ++ ys) ≡ xs ++ insert_by_stamp at x ys
  insert_above x [] ys a = refl
  insert_above x (y ∷ xs) ys a = go (is_before (at x) (at y)) refl (insert_above x xs ys a.1)
    where
      go : (b : Bool) → is_before (at x) (at y) ≡ b → insert_by_stamp at x (xs ++ ys) ≡ xs ++ insert_by_stamp at x ys
          → cond b (x ∷ y ∷ xs ++ ys) (y ∷ insert_by_stamp at x (xs ++ ys)) ≡ y ∷ xs ++ insert_by_stamp at x ys
      go true e on = absurd (before_asym (at x) (at y) (before_true (at x) (at y) e) a.0)
      go false e on = ap (λ l. y ∷ l) on

  pub insert_all_above : (xs ys zs : List X) → Each (λ x. Each (λ y. IsBefore (at y) (at x)) ys) xs → insert_all at xs (ys ++ zs) ≡ ys ++ insert_all at xs zs
  insert_all_above [] ys zs a = refl
  insert_all_above (x ∷ xs) ys zs a = ap (insert_all at xs) (insert_above x ys zs a.0) ∙ insert_all_above xs ys (insert_by_stamp at x zs) a.1

  pub Each-insert_all : (P : X → Type 0) (xs ys : List X) → Each P xs → Each P ys → Each P (insert_all at xs ys)
  Each-insert_all P [] ys a b = b
  Each-insert_all P (x ∷ xs) ys a b = Each-insert_all P xs (insert_by_stamp at x ys) a.1 (Each-insert P x ys a.0 b)
