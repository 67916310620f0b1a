-- The commands of each sender in a list of commands.
use Rattle.std.proofs.Common.{ℕ, Bool, true, false, cond, ◌≡◌, ◌==◌, inl, inr, List, [], ◌∷◌, ◌++◌, refl, sym, ap, subst, ◌∙◌, arith, true≢false, append-nil, append_assoc}
use Rattle.std.specs.List.{AllByRecursion as Each, filter}
use Rattle.std.proofs.lemmas.Bool.Decides.{nat_tests}
use Rattle.rbac_words.specs.Stamp.{IsBefore, is_before, IsRising, insert_by_stamp, insert_all, sort_by_stamp}
use Rattle.rbac_words.specs.Message.{submitted_at}
use Rattle.rbac_words.specs.Front.{is_of}
use Rattle.rbac_words.specs.declared.message.Submission.{Submission}
use Rattle.rbac_words.specs.declared.stamp.Stamp.{Stamp}
use Rattle.sorted_keys.proofs.Lists.{Each-append, Each-weaker, Each-both, Each-filter, Each-from_filter, filter-all, filter-none, filter-yes, filter-no, cons_head, cons_tail}
use Rattle.rbac_order.proofs.StampLemmas.{before_irrefl, before_asym, before_true, true_before, tie, Rising-insert, IsApart, first_below}

-- the commands of member k
abbrev pub of : ℕ → List Submission → List Submission
of k xs = filter (is_of k) xs

abbrev pub Rising : List Submission → Type 0
Rising xs = IsRising submitted_at xs

pub is_of-yes : (k : ℕ) (x : Submission) → x.stamp.member ≡ k → is_of k x ≡ true
is_of-yes k x e = grind (arith, nat_tests)

pub is_of-no : (k : ℕ) (x : Submission) → (x.stamp.member ≡ k → ⊥) → is_of k x ≡ false
is_of-no k x e = grind (arith, nat_tests)

pub of_member : (k : ℕ) (x : Submission) → is_of k x ≡ true → x.stamp.member ≡ k
of_member k x e = grind (arith, nat_tests)

pub of-none : (k : ℕ) (xs : List Submission) → Each (λ x. x.stamp.member ≡ k → ⊥) xs → of k xs ≡ []
of-none k xs a = filter-none (is_of k) xs (Each-weaker (λ (x : Submission). x.stamp.member ≡ k → ⊥) (λ x. is_of k x ≡ false) xs (is_of-no k) a)

pub of-all : (k : ℕ) (xs : List Submission) → Each (λ x. x.stamp.member ≡ k) xs → of k xs ≡ xs
of-all k xs a = filter-all (is_of k) xs (Each-weaker (λ (x : Submission). x.stamp.member ≡ k) (λ x. is_of k x ≡ true) xs (is_of-yes k) a)

-- a test on numbers, and what follows
pub decide : (P : Type 0) (j k : ℕ) → (j ≡ k → P) → ((j ≡ k → ⊥) → P) → P
decide P j k y n = go (j == k) refl
  where
    go : (b : Bool) → (j == k) ≡ b → P
    go true e = y (grind (arith, nat_tests))
    go false e = n (λ q. let g : ⊥ = grind (arith, nat_tests) in g)

-- of two members' stamps one is below the other
other_side : (s t : Stamp) → (s.member ≡ t.member → ⊥) → is_before s t ≡ false → IsBefore t s
other_side s t n p = grind (arith, nat_tests)

-- ---- Two rising lists with the same commands of each member are one list

abbrev pub AreSameOfEach : List Submission → List Submission → Type 0
AreSameOfEach xs ys = (k : ℕ) → of k xs ≡ of k ys

not_first : (p : Submission → Bool) (x : Submission) (xs ys : List Submission) → Each (λ z. IsBefore x.stamp z.stamp) ys → x ∷ xs ≡ filter p ys → ⊥
not_first p x xs ys a e =
    let f : Each (λ z. IsBefore x.stamp z.stamp) (x ∷ xs) = subst (Each (λ z. IsBefore x.stamp z.stamp)) (sym e) (Each-filter (λ z. IsBefore x.stamp z.stamp) p ys a) in
    before_irrefl x.stamp f.0

rest_same : (x : Submission) (xs ys : List Submission) → AreSameOfEach (x ∷ xs) (x ∷ ys) → AreSameOfEach xs ys
rest_same x xs ys h k = go (is_of k x) (h k)
  where
    go : (b : Bool) → cond b (x ∷ of k xs) (of k xs) ≡ cond b (x ∷ of k ys) (of k ys) → of k xs ≡ of k ys
    go true e = cons_tail x x (of k xs) (of k ys) e
    go false e = e

no_earlier : (x y : Submission) (xs ys : List Submission) → Rising (y ∷ ys) → AreSameOfEach (x ∷ xs) (y ∷ ys) → IsBefore x.stamp y.stamp → ⊥
no_earlier x y xs ys r h b =
    not_first (is_of x.stamp.member) x (of x.stamp.member xs) (y ∷ ys) (first_below submitted_at x y ys b r.0) (sym (filter-yes (is_of x.stamp.member) x xs (is_of-yes x.stamp.member x refl)) ∙ h x.stamp.member)

same_first : (x y : Submission) (xs ys : List Submission) → AreSameOfEach (x ∷ xs) (y ∷ ys) → x.stamp ≡ y.stamp → x ≡ y
same_first x y xs ys h e =
    let k : ℕ = x.stamp.member in
    let ey : y.stamp.member ≡ k = ap (λ (s : Stamp). s.member) (sym e) in
    cons_head x y (of k xs) (of k ys) (sym (filter-yes (is_of k) x xs (is_of-yes k x refl)) ∙ h k ∙ filter-yes (is_of k) y ys (is_of-yes k y ey))

pub same_from_each : (xs ys : List Submission) → Rising xs → Rising ys → AreSameOfEach xs ys → xs ≡ ys
same_from_each [] [] r s h = refl
same_from_each [] (y ∷ ys) r s h = let e : [] ≡ y ∷ of y.stamp.member ys = h y.stamp.member ∙ filter-yes (is_of y.stamp.member) y ys (is_of-yes y.stamp.member y refl) in cc
same_from_each (x ∷ xs) [] r s h = let e : x ∷ of x.stamp.member xs ≡ [] = sym (filter-yes (is_of x.stamp.member) x xs (is_of-yes x.stamp.member x refl)) ∙ h x.stamp.member in cc
same_from_each (x ∷ xs) (y ∷ ys) r s h = go (same_from_each xs ys r.1 s.1) (is_before x.stamp y.stamp) refl (is_before y.stamp x.stamp) refl
  where
    go : (AreSameOfEach xs ys → xs ≡ ys) → (a : Bool) → is_before x.stamp y.stamp ≡ a → (b : Bool) → is_before y.stamp x.stamp ≡ b → x ∷ xs ≡ y ∷ ys
    go on true e b f = absurd (no_earlier x y xs ys s h (before_true x.stamp y.stamp e))
    go on false e true f = absurd (no_earlier y x ys xs r (λ k. sym (h k)) (before_true y.stamp x.stamp f))
    go on false e false f =
        let one : x ≡ y = same_first x y xs ys h (tie x.stamp y.stamp e f) in
        let same : AreSameOfEach (x ∷ xs) (x ∷ ys) = subst (λ z. AreSameOfEach (x ∷ xs) (z ∷ ys)) (sym one) h in
        ap (λ l. x ∷ l) (on (rest_same x xs ys same)) ∙ ap (λ z. z ∷ ys) one

-- ---- Insertion

-- what is apart from those of its own member is apart from all
pub apart_from_own : (x : Submission) (xs : List Submission) → Each (IsApart submitted_at x) (of x.stamp.member xs) → Each (IsApart submitted_at x) xs
apart_from_own x xs a =
    Each-weaker (λ y. is_of x.stamp.member y ≡ true → IsApart submitted_at x y) (IsApart submitted_at x) xs
    (λ y h. decided y h (is_of x.stamp.member y) refl)
    (Each-from_filter (IsApart submitted_at x) (is_of x.stamp.member) xs a)
  where
    other : (y : Submission) → is_of x.stamp.member y ≡ false → (b : Bool) → is_before x.stamp y.stamp ≡ b → IsApart submitted_at x y
    other y e true f = inl (before_true x.stamp y.stamp f)
    other y e false f = inr (other_side x.stamp y.stamp (λ s. true≢false (sym (is_of-yes x.stamp.member y (sym s)) ∙ e)) f)

    decided : (y : Submission) → (is_of x.stamp.member y ≡ true → IsApart submitted_at x y) → (b : Bool) → is_of x.stamp.member y ≡ b → IsApart submitted_at x y
    decided y h true e = h e
    decided y h false e = other y e (is_before x.stamp y.stamp) refl

pub of-insert_other : (k : ℕ) (x : Submission) (xs : List Submission) → is_of k x ≡ false → of k (insert_by_stamp submitted_at x xs) ≡ of k xs
of-insert_other k x [] e = filter-no (is_of k) x [] e
of-insert_other k x (y ∷ ys) e = go (is_before x.stamp y.stamp) (of-insert_other k x ys e)
  where
    go : (b : Bool) → of k (insert_by_stamp submitted_at x ys) ≡ of k ys → of k (cond b (x ∷ y ∷ ys) (y ∷ insert_by_stamp submitted_at x ys)) ≡ of k (y ∷ ys)
    go true on = filter-no (is_of k) x (y ∷ ys) e
    go false on = ap (λ l. cond (is_of k y) (y ∷ l) l) on

-- before all of its own member
pub of-insert_first : (k : ℕ) (x : Submission) (xs : List Submission) → is_of k x ≡ true → Each (λ y. IsBefore x.stamp y.stamp) (of k xs) → of k (insert_by_stamp submitted_at x xs) ≡ x ∷ of k xs
of-insert_first k x [] e a = filter-yes (is_of k) x [] e
of-insert_first k x (y ∷ ys) e a = go (is_before x.stamp y.stamp) refl (is_of k y) refl (of-insert_first k x ys e)
  where
    go : (t : Bool) → is_before x.stamp y.stamp ≡ t → (b : Bool) → is_of k y ≡ b
        → (Each (λ y. IsBefore x.stamp y.stamp) (of k ys) → of k (insert_by_stamp submitted_at x ys) ≡ x ∷ of k ys)
        → of k (cond t (x ∷ y ∷ ys) (y ∷ insert_by_stamp submitted_at x ys)) ≡ x ∷ of k (y ∷ ys)
    go true f b g on = filter-yes (is_of k) x (y ∷ ys) e
    go false f true g on =
        let a' : Each (λ y. IsBefore x.stamp y.stamp) (y ∷ of k ys) = subst (Each (λ y. IsBefore x.stamp y.stamp)) (filter-yes (is_of k) y ys g) a in
        absurd (true≢false (sym (true_before x.stamp y.stamp a'.0) ∙ f))
    go false f false g on =
        filter-no (is_of k) y (insert_by_stamp submitted_at x ys) g ∙ on (subst (Each (λ y. IsBefore x.stamp y.stamp)) (filter-no (is_of k) y ys g) a) ∙ ap (λ l. x ∷ l) (sym (filter-no (is_of k) y ys g))

-- after all of its own member
pub of-insert_last : (k : ℕ) (x : Submission) (xs : List Submission) → is_of k x ≡ true → Rising xs → Each (λ y. IsBefore y.stamp x.stamp) (of k xs) → of k (insert_by_stamp submitted_at x xs) ≡ of k xs ++ x ∷ []
of-insert_last k x [] e r a = filter-yes (is_of k) x [] e
of-insert_last k x (y ∷ ys) e r a = go (is_before x.stamp y.stamp) refl (is_of k y) refl (of-insert_last k x ys e r.1)
  where
    none : IsBefore x.stamp y.stamp → of k (y ∷ ys) ≡ []
    none b =
        empty (of k (y ∷ ys))
        (Each-both (λ z. IsBefore x.stamp z.stamp) (λ z. IsBefore z.stamp x.stamp) (of k (y ∷ ys)) (Each-filter (λ z. IsBefore x.stamp z.stamp) (is_of k) (y ∷ ys) (first_below submitted_at x y ys b r.0)) a)
      where
        empty : (l : List Submission) → Each (λ z. IsBefore x.stamp z.stamp × IsBefore z.stamp x.stamp) l → l ≡ []
        empty [] h = refl
        empty (z ∷ l) h = absurd (before_asym x.stamp z.stamp (h.0).0 (h.0).1)

    go : (t : Bool) → is_before x.stamp y.stamp ≡ t → (b : Bool) → is_of k y ≡ b
        → (Each (λ y. IsBefore y.stamp x.stamp) (of k ys) → of k (insert_by_stamp submitted_at x ys) ≡ of k ys ++ x ∷ [])
        → of k (cond t (x ∷ y ∷ ys) (y ∷ insert_by_stamp submitted_at x ys)) ≡ of k (y ∷ ys) ++ x ∷ []
    go true f b g on = filter-yes (is_of k) x (y ∷ ys) e ∙ ap (λ l. x ∷ l) (none (before_true x.stamp y.stamp f)) ∙ ap (λ l. l ++ x ∷ []) (sym (none (before_true x.stamp y.stamp f)))
    go false f true g on =
        let a' : Each (λ y. IsBefore y.stamp x.stamp) (y ∷ of k ys) = subst (Each (λ y. IsBefore y.stamp x.stamp)) (filter-yes (is_of k) y ys g) a in
        filter-yes (is_of k) y (insert_by_stamp submitted_at x ys) g ∙ ap (λ l. y ∷ l) (on a'.1) ∙ ap (λ l. l ++ x ∷ []) (sym (filter-yes (is_of k) y ys g))
    go false f false g on =
        filter-no (is_of k) y (insert_by_stamp submitted_at x ys) g ∙ on (subst (Each (λ y. IsBefore y.stamp x.stamp)) (filter-no (is_of k) y ys g) a) ∙ ap (λ l. l ++ x ∷ []) (sym (filter-no (is_of k) y ys g))

pub of-insert_all_other : (j : ℕ) (xs ys : List Submission) → Each (λ x. is_of j x ≡ false) xs → of j (insert_all submitted_at xs ys) ≡ of j ys
of-insert_all_other j [] ys a = refl
of-insert_all_other j (x ∷ xs) ys a = of-insert_all_other j xs (insert_by_stamp submitted_at x ys) a.1 ∙ of-insert_other j x ys a.0

-- rising commands of one member, put among others, above those of the same member
pub record IsPut (k : ℕ) (xs ys : List Submission) : Type 0 where
  pub rising : Rising (insert_all submitted_at xs ys)
  pub commands : of k (insert_all submitted_at xs ys) ≡ of k ys ++ xs

pub put_all : (k : ℕ) (xs ys : List Submission) → Each (λ x. x.stamp.member ≡ k) xs → Rising xs → Rising ys → Each (λ x. Each (λ y. IsBefore y.stamp x.stamp) (of k ys)) xs → IsPut k xs ys
put_all k [] ys m r s a = record { rising = s; commands = sym (append-nil (of k ys)) }
put_all k (x ∷ xs) ys m r s a =
    let one : of k (insert_by_stamp submitted_at x ys) ≡ of k ys ++ x ∷ [] = of-insert_last k x ys (is_of-yes k x m.0) s a.0 in
    let on =
    put_all k xs (insert_by_stamp submitted_at x ys) m.1 r.1
    (Rising-insert submitted_at x ys s
    (apart_from_own x ys (subst (λ j. Each (IsApart submitted_at x) (of j ys)) (sym m.0) (Each-weaker (λ y. IsBefore y.stamp x.stamp) (IsApart submitted_at x) (of k ys) (λ y h. inr h) a.0))))
    (Each-weaker (λ z. Each (λ y. IsBefore y.stamp z.stamp) (of k ys) × IsBefore x.stamp z.stamp) (λ z. Each (λ y. IsBefore y.stamp z.stamp) (of k (insert_by_stamp submitted_at x ys))) xs
    (λ z h. subst (Each (λ y. IsBefore y.stamp z.stamp)) (sym one) (Each-append (λ y. IsBefore y.stamp z.stamp) (of k ys) (x ∷ []) h.0 (h.1, tt)))
    (Each-both (λ z. Each (λ y. IsBefore y.stamp z.stamp) (of k ys)) (λ z. IsBefore x.stamp z.stamp) xs a.1 r.0)) in
    record { rising = on.rising; commands = on.commands ∙ ap (λ l. l ++ xs) one ∙ append_assoc (of k ys) (x ∷ []) xs }

-- ---- Sorting

-- each member's commands rise
abbrev pub AreRisingOfEach : List Submission → Type 0
AreRisingOfEach xs = (k : ℕ) → Rising (of k xs)

tail_rises : (x : Submission) (xs : List Submission) → AreRisingOfEach (x ∷ xs) → AreRisingOfEach xs
tail_rises x xs h k = go (is_of k x) (h k)
  where
    go : (b : Bool) → Rising (cond b (x ∷ of k xs) (of k xs)) → Rising (of k xs)
    go true r = r.1
    go false r = r

head_first : (x : Submission) (xs : List Submission) → AreRisingOfEach (x ∷ xs) → (k : ℕ) → is_of k x ≡ true → Each (λ y. IsBefore x.stamp y.stamp) (of k xs)
head_first x xs h k e = let r : Rising (x ∷ of k xs) = subst Rising (filter-yes (is_of k) x xs e) (h k) in r.0

-- sorting keeps the commands of each member in their order
pub of-sort : (xs : List Submission) → AreRisingOfEach xs → (k : ℕ) → of k (sort_by_stamp submitted_at xs) ≡ of k xs
of-sort [] h k = refl
of-sort (x ∷ xs) h k = go (of-sort xs (tail_rises x xs h) k) (is_of k x) refl
  where
    go : of k (sort_by_stamp submitted_at xs) ≡ of k xs → (b : Bool) → is_of k x ≡ b → of k (insert_by_stamp submitted_at x (sort_by_stamp submitted_at xs)) ≡ of k (x ∷ xs)
    go on true e =
        of-insert_first k x (sort_by_stamp submitted_at xs) e (subst (Each (λ y. IsBefore x.stamp y.stamp)) (sym on) (head_first x xs h k e)) ∙ ap (λ l. x ∷ l) on ∙ sym (filter-yes (is_of k) x xs e)
    go on false e = of-insert_other k x (sort_by_stamp submitted_at xs) e ∙ on ∙ sym (filter-no (is_of k) x xs e)

pub Rising-sort : (xs : List Submission) → AreRisingOfEach xs → Rising (sort_by_stamp submitted_at xs)
Rising-sort [] h = tt
Rising-sort (x ∷ xs) h =
    let k : ℕ = x.stamp.member in
    let own : Each (λ y. IsBefore x.stamp y.stamp) (of k (sort_by_stamp submitted_at xs)) =
    subst (Each (λ y. IsBefore x.stamp y.stamp)) (sym (of-sort xs (tail_rises x xs h) k)) (head_first x xs h k (is_of-yes k x refl)) in
    Rising-insert submitted_at x (sort_by_stamp submitted_at xs) (Rising-sort xs (tail_rises x xs h))
    (apart_from_own x (sort_by_stamp submitted_at xs) (Each-weaker (λ y. IsBefore x.stamp y.stamp) (IsApart submitted_at x) (of k (sort_by_stamp submitted_at xs)) (λ y b. inl b) own))
