-- One walk over sorted keys and sorted pairs: what it goes over tells of one key, and what is ahead of all later ones.
use Rattle.std.proofs.Common.{ℕ, zero, suc, ◌≡◌, ◌+◌, ◌<◌, ◌≤◌, Bool, true, false, cond, ◌||◌, ◌&&◌, List, [], ◌∷◌, ◌++◌, take, drop, length, get_or, append_assoc, append-nil, refl, sym, ap, ◌∙◌, subst, arith}
use Rattle.std.specs.declared.cmp.Ordering.{Ordering}
use Rattle.std.specs.declared.cmp.Ordering.TheVariants.{Less, Equal, Greater}
use Rattle.std.specs.List.{filter, list_any, prefix_len, AllByRecursion}
use Rattle.std.specs.List.Sorted.{IsStrictlySortedBy}
use Rattle.std.specs.Ordering.{eq_by_cmp, is_eq, is_ge, ordering_then}
use Rattle.std.specs.Cmp.{IsTotalOrder, alike_right}
use Rattle.std.proofs.lemmas.List.{drop_more, drop_all}
use Rattle.std.proofs.lemmas.List.Kept.{IsStrictlySortedBy-filter}
use Rattle.sorted_keys.proofs.Order.{IsBelowAll, greater, less}
use Rattle.sorted_keys.proofs.Beginning.{by_pair}

or_joined : (a b c : Bool) → (a || (b || c)) ≡ ((a || b) || c)
or_joined true b c = refl
or_joined false b c = refl

pub or_none : (a : Bool) → (a || false) ≡ a
or_none true = refl
or_none false = refl

module _ {A B : Type 0} (R : A → A → Ordering) (passes : B → Bool) where
  -- whether a pair of the key passes
  abbrev pub has_own : List (A × B) → A → Bool
  has_own pairs k = list_any (λ pair. eq_by_cmp R k pair.0 && passes pair.1) pairs

  -- how many pairs a walk for the key goes over
  abbrev pub walked : A → List (A × B) → ℕ
  walked k pairs = prefix_len (λ pair. is_ge (R k pair.0)) pairs

  -- what a walk for the key comes to, by the pairs behind it, what was found there and the pairs ahead
  abbrev pub IsUnderWay : A → List (A × B) → ℕ → Bool → List (A × B) → Type 0
  IsUnderWay k pairs i found ahead =
      (walked k pairs ≡ i + walked k ahead) × (has_own (take (walked k pairs) pairs) k ≡ (found || has_own (take (walked k ahead) ahead) k))

  goes_on : (k : A) (pairs : List (A × B)) (i : ℕ) (found : Bool) (x : A × B) (xs : List (A × B)) → is_ge (R k x.0) ≡ true → IsUnderWay k pairs i found (x ∷ xs)
      → IsUnderWay k pairs (i + 1) (found || (eq_by_cmp R k x.0 && passes x.1)) xs
  goes_on k pairs i found x xs over here =
      let own = eq_by_cmp R k x.0 && passes x.1 in
      let one : 1 + walked k xs ≡ suc (walked k xs) = omega arith in
      let len = subst (λ b. walked k pairs ≡ i + cond b (1 + walked k xs) 0) over here.0 in
      let told = subst (λ b. has_own (take (walked k pairs) pairs) k ≡ (found || has_own (take (cond b (1 + walked k xs) 0) (x ∷ xs)) k)) over here.1 in
      let stepped = subst (λ n. has_own (take (walked k pairs) pairs) k ≡ (found || has_own (take n (x ∷ xs)) k)) one told in
      (omega (arith, len), stepped ∙ or_joined found own (has_own (take (walked k xs) xs) k))

  -- one pair more is behind it
  pub one_further : (k : A) (pairs : List (A × B)) (i : ℕ) (found now : Bool) (x : A × B) → i < length pairs → x ≡ get_or pairs i x → IsUnderWay k pairs i found (drop i pairs)
      → (r : Ordering) → r ≡ R k x.0 → is_ge r ≡ true → now ≡ (found || (is_eq r && passes x.1)) → IsUnderWay k pairs (i + 1) now (drop (i + 1) pairs)
  one_further k pairs i found now x lt at here r compared over is =
      let own = subst (λ r. now ≡ (found || (is_eq r && passes x.1))) compared is in
      subst (λ b. IsUnderWay k pairs (i + 1) b (drop (i + 1) pairs)) (sym own)
      (goes_on k pairs i found x (drop (i + 1) pairs) (subst (λ r. is_ge r ≡ true) compared over)
      (subst (IsUnderWay k pairs i found) (drop_more pairs i x lt ∙ ap (λ y. y ∷ drop (i + 1) pairs) (sym at)) here))

module _ {A B : Type 0} {R : A → A → Ordering} (o : IsTotalOrder R) (S : B → B → Ordering) (passes : B → Bool) where
  above : (k : A) (x : A × B) (xs : List (A × B)) → R k x.0 ≡ Less → AllByRecursion (λ y. by_pair o S x y ≡ Less) xs → AllByRecursion (λ y. R k y.0 ≡ Less) xs
  above k x [] l all = tt
  above k x (y ∷ ys) l all = (go (R x.0 y.0) refl all.0, above k x ys l all.1)
    where
      go : (r : Ordering) → R x.0 y.0 ≡ r → ordering_then r (S x.1 y.1) ≡ Less → R k y.0 ≡ Less
      go Less e f = o.trans k x.0 y.0 l e
      go Equal e f = sym (alike_right o x.0 y.0 k e) ∙ l
      go Greater e f = absurd (let g : Greater ≡ Less = f in cc)

  none_above : (k : A) (xs : List (A × B)) → AllByRecursion (λ y. R k y.0 ≡ Less) xs → has_own R passes xs k ≡ false
  none_above k [] all = refl
  none_above k (x ∷ xs) all = rw all.0 (none_above k xs all.1)

  -- a walk for a key goes over all pairs of the key
  pub told : (k : A) (pairs : List (A × B)) → IsStrictlySortedBy (by_pair o S) pairs → has_own R passes (take (walked R passes k pairs) pairs) k ≡ has_own R passes pairs k
  unfolding IsStrictlySortedBy
  told k [] sorted = refl
  told k (x ∷ xs) sorted = go (R k x.0) refl (told k xs sorted.1)
    where
      one : 1 + walked R passes k xs ≡ suc (walked R passes k xs)
      one = omega arith

      go : (r : Ordering) → R k x.0 ≡ r → has_own R passes (take (walked R passes k xs) xs) k ≡ has_own R passes xs k
          → has_own R passes (take (cond (is_ge r) (1 + walked R passes k xs) 0) (x ∷ xs)) k ≡ ((is_eq r && passes x.1) || has_own R passes xs k)
      go Less e rest = sym (none_above k xs (above k x xs e sorted.0))
      go Equal e rest = rw one (rw e (ap (λ b. passes x.1 || b) rest))
      go Greater e rest = rw one (rw e rest)

  -- and over none of a greater key
  later : (k after : A) (pairs : List (A × B)) → R k after ≡ Less → has_own R passes pairs after ≡ has_own R passes (drop (walked R passes k pairs) pairs) after
  later k after [] l = refl
  later k after (x ∷ xs) l = go (R k x.0) refl (later k after xs l)
    where
      one : 1 + walked R passes k xs ≡ suc (walked R passes k xs)
      one = omega arith

      passed : eq_by_cmp R after x.0 ≡ false → has_own R passes xs after ≡ has_own R passes (drop (walked R passes k xs) xs) after
          → has_own R passes (x ∷ xs) after ≡ has_own R passes (drop (1 + walked R passes k xs) (x ∷ xs)) after
      passed e rest = rw one (rw e rest)

      go : (r : Ordering) → R k x.0 ≡ r → has_own R passes xs after ≡ has_own R passes (drop (walked R passes k xs) xs) after
          → has_own R passes (x ∷ xs) after ≡ has_own R passes (drop (cond (is_ge r) (1 + walked R passes k xs) 0) (x ∷ xs)) after
      go Less e rest = refl
      go Equal e rest = passed (ap is_eq (sym (alike_right o k x.0 after e) ∙ greater o k after l)) rest
      go Greater e rest = passed (ap is_eq (greater o x.0 after (o.trans x.0 k after (less o k x.0 e) l))) rest

  -- the later keys of which a pair passes have it ahead
  pub later_kept : (k : A) (pairs : List (A × B)) (ks : List A) → IsBelowAll R k ks → filter (has_own R passes pairs) ks ≡ filter (has_own R passes (drop (walked R passes k pairs) pairs)) ks
  later_kept k pairs [] below = refl
  later_kept k pairs (x ∷ xs) below =
      rw (later k x pairs below.0) (ap (λ t. cond (has_own R passes (drop (walked R passes k pairs) pairs) x) (x ∷ t) t) (later_kept k pairs xs below.1))

  sorted_rest : {X : Type 0} (C : X → X → Ordering) (i : ℕ) (xs : List X) → IsStrictlySortedBy C xs → IsStrictlySortedBy C (drop i xs)
  unfolding IsStrictlySortedBy
  sorted_rest C zero xs sorted = sorted
  sorted_rest C (suc i) [] sorted = sorted
  sorted_rest C (suc i) (x ∷ xs) sorted = sorted_rest C i xs sorted.1

  -- of the keys behind those of which a pair passes are copied, and the pairs of the others are ahead
  abbrev pub IsHalfWay : List A → List (A × B) → ℕ → List A → List (A × B) → Type 0
  IsHalfWay keys pairs i copy ahead =
      (filter (has_own R passes pairs) keys ≡ copy ++ filter (has_own R passes ahead) (drop i keys)) × IsStrictlySortedBy (by_pair o S) ahead

  key_over : (keys : List A) (pairs : List (A × B)) (copy : List A) (ahead : List (A × B)) (k : A) (ks : List A) → IsStrictlySortedBy R (k ∷ ks) → IsStrictlySortedBy (by_pair o S) ahead
      → filter (has_own R passes pairs) keys ≡ copy ++ filter (has_own R passes ahead) (k ∷ ks)
      → filter (has_own R passes pairs) keys ≡ cond (has_own R passes (take (walked R passes k ahead) ahead) k) (copy ++ k ∷ []) copy ++ filter (has_own R passes (drop (walked R passes k ahead) ahead)) ks
  unfolding IsStrictlySortedBy
  key_over keys pairs copy ahead k ks sorted in_order half = go (has_own R passes ahead k) (has_own R passes (take (walked R passes k ahead) ahead) k) (told k ahead in_order) (later_kept k ahead ks sorted.0) half
    where
      rest : List A
      rest = filter (has_own R passes (drop (walked R passes k ahead) ahead)) ks

      go : (b here : Bool) → here ≡ b → filter (has_own R passes ahead) ks ≡ rest
          → filter (has_own R passes pairs) keys ≡ copy ++ cond b (k ∷ filter (has_own R passes ahead) ks) (filter (has_own R passes ahead) ks)
          → filter (has_own R passes pairs) keys ≡ cond here (copy ++ k ∷ []) copy ++ rest
      go true here same kept e = rw same (e ∙ ap (λ t. copy ++ k ∷ t) kept ∙ sym (append_assoc copy (k ∷ []) rest))
      go false here same kept e = rw same (e ∙ ap (λ t. copy ++ t) kept)

  -- one key more is behind
  pub one_key_further : (keys : List A) (pairs : List (A × B)) (i : ℕ) (copy copied : List A) (ahead after : List (A × B)) (k : A)
      → IsStrictlySortedBy R keys → i < length keys → k ≡ get_or keys i k → after ≡ drop (walked R passes k ahead) ahead → IsHalfWay keys pairs i copy ahead
      → (here : Bool) → has_own R passes (take (walked R passes k ahead) ahead) k ≡ here → copied ≡ cond here (copy ++ k ∷ []) copy → IsHalfWay keys pairs (i + 1) copied after
  one_key_further keys pairs i copy copied ahead after k sorted lt at cut half here found kept =
      let there = drop_more keys i k lt ∙ ap (λ y. y ∷ drop (i + 1) keys) (sym at) in
      let n = walked R passes k ahead in
      let over = key_over keys pairs copy ahead k (drop (i + 1) keys) (subst (IsStrictlySortedBy R) there (sorted_rest R i keys sorted)) half.1
      (subst (λ ks. filter (has_own R passes pairs) keys ≡ copy ++ filter (has_own R passes ahead) ks) there half.0) in
      subst (λ l. IsHalfWay keys pairs (i + 1) l after) (ap (λ b. cond b (copy ++ k ∷ []) copy) found ∙ sym kept)
      (subst (IsHalfWay keys pairs (i + 1) (cond (has_own R passes (take n ahead) k) (copy ++ k ∷ []) copy)) (sym cut) (over, sorted_rest (by_pair o S) n ahead half.1))

  -- once no key is ahead, the copies are in order
  pub copies_in_order : (keys : List A) (pairs : List (A × B)) (i : ℕ) (copy : List A) (ahead : List (A × B)) → IsStrictlySortedBy R keys → length keys ≤ i → IsHalfWay keys pairs i copy ahead → IsStrictlySortedBy R copy
  copies_in_order keys pairs i copy ahead sorted done half =
      let none = ap (λ ks. copy ++ filter (has_own R passes ahead) ks) (drop_all i keys done) ∙ append-nil copy in
      subst (IsStrictlySortedBy R) (half.0 ∙ none) (IsStrictlySortedBy-filter R (has_own R passes pairs) keys sorted)
