-- A walk over the declared pairs: how it begins, goes on and ends.
use Rattle.std.proofs.Common.{◌≡◌, ◌+◌, ◌<◌, ◌≤◌, ◌⊎◌, inl, inr, ⊎_elim, true, false, not, List, [], ◌∷◌, ◌++◌, length, refl, sym, ap, ◌∙◌, subst, arith, length-append}
use Rattle.std.specs.List.{filter}
use Rattle.std.specs.List.Sorted.{IsStrictlySortedBy}
use Rattle.std.specs.Ordering.{eq_by_cmp}
use Rattle.std.proofs.lemmas.Bool.{and_parts, and_from, or_cases, or_left, or_right, or_parts, not-true, false≢true}
use Rattle.sorted_keys.specs.Keys.{has, with_key}
use Rattle.sorted_keys.proofs.Order.{sorted_none}
use Rattle.sorted_keys.proofs.KeyPlace.{sorted_with_key}
use Rattle.sorted_keys.proofs.Members.{has-filter, has-with_key}
use Rattle.rbac_terms.specs.Name.{Name, name_cmp, pair_cmp}
use Rattle.rbac_terms.specs.Relations.{begins_with}
use Rattle.rbac_terms.specs.Inheritance.{IsChain, Inherits}
use Rattle.rbac_rules.proofs.InheritanceLemmas.{joined}
use Rattle.sorted_keys.proofs.Ties.{one_key, ties_itself}
use Rattle.rbac_terms.proofs.NameLemmas.{names_total, names_exact, pairs_total, pairs_exact}
use Rattle.rbac_hierarchy.specs.Rows.{RangesOver}
use Rattle.rbac_hierarchy.specs.Walk.{AreJuniors, FindsDescendants, unfound}
use Rattle.rbac_hierarchy.proofs.Kept.{any-append, keeps_less}
use Rattle.rbac_hierarchy.proofs.JuniorLemmas.{juniors_are}

-- no name is one of none
none_there : (q : Name) → has name_cmp q [] ≡ true → ⊥
none_there q m = false≢true m

module _ (xs : List Name) (x : Name) where
  in_front : (q : Name) → has name_cmp q xs ≡ true → has name_cmp q (xs ++ x ∷ []) ≡ true
  in_front q m = any-append (eq_by_cmp name_cmp q) xs (x ∷ []) ∙ or_left _ _ m

  at_end : (q : Name) → q ≡ x → has name_cmp q (xs ++ x ∷ []) ≡ true
  at_end q e = any-append (eq_by_cmp name_cmp q) xs (x ∷ []) ∙ or_right _ _ (or_left _ _ (subst (λ z. eq_by_cmp name_cmp q z ≡ true) e (ties_itself names_total q)))

  front_or_end : (q : Name) → has name_cmp q (xs ++ x ∷ []) ≡ true → (has name_cmp q xs ≡ true) ⊎ (q ≡ x)
  front_or_end q m = ⊎_elim inl
      (λ last. ⊎_elim (λ e. inr (one_key names_exact q x e)) (λ none. absurd (false≢true none)) (or_cases _ _ last))
      (or_cases _ _ (sym (any-append (eq_by_cmp name_cmp q) xs (x ∷ [])) ∙ m))

module _ (pairs : List (Name × Name)) (p : Name × Name) where
  pair_in_front : (q : Name × Name) → has pair_cmp q pairs ≡ true → has pair_cmp q (pairs ++ p ∷ []) ≡ true
  pair_in_front q m = any-append (eq_by_cmp pair_cmp q) pairs (p ∷ []) ∙ or_left _ _ m

  pair_at_end : has pair_cmp p (pairs ++ p ∷ []) ≡ true
  pair_at_end = any-append (eq_by_cmp pair_cmp p) pairs (p ∷ []) ∙ or_right _ _ (or_left _ _ (ties_itself pairs_total p))

  pair_front_or_end : (q : Name × Name) → has pair_cmp q (pairs ++ p ∷ []) ≡ true → (has pair_cmp q pairs ≡ true) ⊎ (q ≡ p)
  pair_front_or_end q m = ⊎_elim inl
      (λ last. ⊎_elim (λ e. inr (one_key pairs_exact q p e)) (λ none. absurd (false≢true none)) (or_cases _ _ last))
      (or_cases _ _ (sym (any-append (eq_by_cmp pair_cmp q) pairs (p ∷ [])) ∙ m))

pub added : (x : Name) (found : List Name) (q : Name) → has name_cmp q found ≡ true → has name_cmp q (with_key name_cmp x found) ≡ true
added x found q m = has-with_key names_total x found q ∙ or_right _ _ m

pub added_itself : (x : Name) (found : List Name) → has name_cmp x (with_key name_cmp x found) ≡ true
added_itself x found = has-with_key names_total x found x ∙ or_left _ _ (ties_itself names_total x)

-- of two roles that are added the first stays
pub added_before : (x y : Name) (found : List Name) → has name_cmp x (with_key name_cmp y (with_key name_cmp x found)) ≡ true
added_before x y found = added y (with_key name_cmp x found) x (added_itself x found)

added_or_there : (x : Name) (found : List Name) (q : Name) → has name_cmp q (with_key name_cmp x found) ≡ true → (q ≡ x) ⊎ (has name_cmp q found ≡ true)
added_or_there x found q m = ⊎_elim (λ e. inl (one_key names_exact q x e)) inr (or_cases _ _ (sym (has-with_key names_total x found q) ∙ m))

-- what is found for the first time is the descendant of a pair less
fewer_unfound : (p : Name × Name) (found : List Name) (all : List (Name × Name)) → has pair_cmp p all ≡ true → has name_cmp p.1 found ≡ false → unfound (with_key name_cmp p.1 found) all + 1 ≤ unfound found all
fewer_unfound p found all is_pair missing = keeps_less
    (λ x. not (has name_cmp x.1 (with_key name_cmp p.1 found))) (λ x. not (has name_cmp x.1 found)) (eq_by_cmp pair_cmp p) all
    (λ x e. ap not (or_parts _ _ (sym (has-with_key names_total p.1 found x.1) ∙ not-true _ e)).1)
    (λ x e. let same = ap (λ z. z.1) (one_key pairs_exact p x e) in
    (ap not (subst (λ z. has name_cmp z (with_key name_cmp p.1 found) ≡ true) same (added_itself p.1 found)), ap not (subst (λ z. has name_cmp z found ≡ false) same missing)))
    is_pair

pub finds_none : (found pending : List Name) → FindsDescendants [] found pending found pending
finds_none found pending = record {
  in_order = λ s. s;
  kept = λ q m. m;
  still_pending = λ q m. m;
  descendants = λ a b m. absurd (false≢true m);
  found_new = λ q m. inl m;
  pending_new = λ q m. inl m;
  fewer = λ all each. omega arith;
}

module _ (pairs : List (Name × Name)) (found pending found_then pending_then : List Name) (p : Name × Name) (o : FindsDescendants pairs found pending found_then pending_then) where
  -- the descendant was found
  pub finds_known : has name_cmp p.1 found_then ≡ true → FindsDescendants (pairs ++ p ∷ []) found pending found_then pending_then
  finds_known known = record {
    in_order = o.in_order;
    kept = o.kept;
    still_pending = o.still_pending;
    descendants = λ a b m. ⊎_elim (o.descendants a b) (λ e. subst (λ z. has name_cmp z found_then ≡ true) (sym (ap (λ z. z.1) e)) known) (pair_front_or_end pairs p (a, b) m);
    found_new = λ q m. ⊎_elim inl (λ w. inr (w.0, (w.1.0, pair_in_front pairs p (w.1.0, q) w.1.1))) (o.found_new q m);
    pending_new = o.pending_new;
    fewer = λ all each. o.fewer all (λ q m. each q (pair_in_front pairs p q m));
  }

  -- the descendant was not found
  pub finds_more : has name_cmp p.1 found_then ≡ false → FindsDescendants (pairs ++ p ∷ []) found pending (with_key name_cmp p.1 found_then) (pending_then ++ p.1 ∷ [])
  finds_more missing = record {
    in_order = λ s. sorted_with_key names_total p.1 found_then (o.in_order s);
    kept = λ q m. added p.1 found_then q (o.kept q m);
    still_pending = λ q m. in_front pending_then p.1 q (o.still_pending q m);
    descendants = λ a b m. ⊎_elim (λ before. added p.1 found_then b (o.descendants a b before)) (λ e. subst (λ z. has name_cmp z (with_key name_cmp p.1 found_then) ≡ true) (sym (ap (λ z. z.1) e)) (added_itself p.1 found_then)) (pair_front_or_end pairs p (a, b) m);
    found_new = λ q m. ⊎_elim
        (λ e. inr (at_end pending_then p.1 q e, (p.0, subst (λ z. has pair_cmp (p.0, z) (pairs ++ p ∷ []) ≡ true) (sym e) (pair_at_end pairs p))))
        (λ there. ⊎_elim inl (λ w. inr (in_front pending_then p.1 q w.0, (w.1.0, pair_in_front pairs p (w.1.0, q) w.1.1))) (o.found_new q there))
        (added_or_there p.1 found_then q m);
    pending_new = λ q m. ⊎_elim
        (λ before. ⊎_elim inl (λ there. inr (added p.1 found_then q there)) (o.pending_new q before))
        (λ e. inr (subst (λ z. has name_cmp z (with_key name_cmp p.1 found_then) ≡ true) (sym e) (added_itself p.1 found_then)))
        (front_or_end pending_then p.1 q m);
    fewer = λ all each.
        let less = fewer_unfound p found_then all (each p (pair_at_end pairs p)) missing in
        let before = o.fewer all (λ q m. each q (pair_in_front pairs p q m)) in
        let one = length-append pending_then (p.1 ∷ []) in
        omega arith;
  }

-- the names that were found are in order, among them the role, and inherited; and those that are pending are found, and
-- the only ones of which a descendant may not be
pub record IsWalk (declared : List (Name × Name)) (role : Name) (found pending : List Name) : Type 0 where
  pub start : has name_cmp role found ≡ true
  pub in_order : IsStrictlySortedBy name_cmp found
  pub reached : (roles : List Name) → has name_cmp role roles ≡ true → RangesOver roles declared → (q : Name) → has name_cmp q found ≡ true → Inherits roles declared role q
  pub found_pending : (q : Name) → has name_cmp q pending ≡ true → has name_cmp q found ≡ true
  pub closed : (a b : Name) → has pair_cmp (a, b) declared ≡ true → has name_cmp a found ≡ true → (has name_cmp a pending ≡ true) ⊎ (has name_cmp b found ≡ true)

module _ (declared : List (Name × Name)) (role : Name) where
  pub walk_begins : IsWalk declared role (role ∷ []) (role ∷ [])
  walk_begins = record {
    start = or_left _ _ (ties_itself names_total role);
    in_order = sorted_with_key names_total role [] (sorted_none name_cmp);
    reached = λ roles is_role ranges q m. ⊎_elim (λ e. ([], (is_role, sym (one_key names_exact q role e)))) (λ none. absurd (false≢true none)) (or_cases _ _ m);
    found_pending = λ q m. m;
    closed = λ a b is_pair m. inl m;
  }

  module _ (a : Name) (found rest found_then pending_then : List Name) (o : FindsDescendants (filter (begins_with a) declared) found rest found_then pending_then) where
    taken : (x y : Name) → has pair_cmp (x, y) (filter (begins_with a) declared) ≡ true → (a ≡ x) × (has pair_cmp (x, y) declared ≡ true)
    taken x y m = let both = and_parts _ _ (sym (has-filter pairs_exact (begins_with a) declared (x, y)) ∙ m) in (one_key names_exact a x both.0, both.1)

    takes : (y : Name) → has pair_cmp (a, y) declared ≡ true → has pair_cmp (a, y) (filter (begins_with a) declared) ≡ true
    takes y m = has-filter pairs_exact (begins_with a) declared (a, y) ∙ and_from _ _ (ties_itself names_total a) m

    pub walk_goes_on : IsWalk declared role found (rest ++ a ∷ []) → IsWalk declared role found_then pending_then
    walk_goes_on w = record {
      start = o.kept role w.start;
      in_order = o.in_order w.in_order;
      reached = λ roles is_role ranges q m. ⊎_elim
          (w.reached roles is_role ranges q)
          (λ new.
          let pair = taken new.1.0 q new.1.1 in
          let both = ranges new.1.0 q pair.1 in
          let to_a = w.reached roles is_role ranges a (w.found_pending a (at_end rest a a refl)) in
          joined roles declared role new.1.0 q (subst (λ z. Inherits roles declared role z) pair.0 to_a) (q ∷ [], (both.0, pair.1, (both.1, refl))))
          (o.found_new q m);
      found_pending = λ q m. ⊎_elim (λ there. o.kept q (w.found_pending q (in_front rest a q there))) (λ now. now) (o.pending_new q m);
      closed = λ x y is_pair m. ⊎_elim
          (λ there. ⊎_elim
          (λ was_pending. ⊎_elim
          (λ still. inl (o.still_pending x still))
          (λ e. inr (o.descendants a y (takes y (subst (λ z. has pair_cmp (z, y) declared ≡ true) e is_pair))))
          (front_or_end rest a x was_pending))
          (λ known. inr (o.kept y known))
          (w.closed x y is_pair there))
          (λ new. inl new.0)
          (o.found_new x m);
    }

    pub walk_shrinks : unfound found_then declared + length pending_then < unfound found declared + length (rest ++ a ∷ [])
    walk_shrinks =
        let left = o.fewer declared (λ p m. (taken p.0 p.1 m).1) in
        let one = length-append rest (a ∷ []) in
        omega arith

  pub walk_ends : (found : List Name) → IsWalk declared role found [] → AreJuniors declared role found
  walk_ends found w = λ roles sorted is_role ranges. juniors_are roles declared role found sorted w.in_order (w.reached roles is_role ranges) (λ q i. go roles role i.0 q w.start i.1)
    where
      go : (roles : List Name) (r : Name) (rest : List Name) (q : Name) → has name_cmp r found ≡ true → IsChain roles declared r rest q → has name_cmp q found ≡ true
      go roles r [] q m c = subst (λ z. has name_cmp z found ≡ true) c.1 m
      go roles r (p ∷ rest) q m c = go roles p rest q (⊎_elim (λ none. absurd (false≢true none)) (λ known. known) (w.closed r p c.1 m)) c.2
