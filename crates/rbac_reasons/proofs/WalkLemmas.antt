-- A walk down the declared pairs: how it begins, goes on and ends, and how its trail leads back.
use Rattle.std.proofs.Common.{◌&&◌, ℕ, ◌≡◌, ◌+◌, ◌<◌, ◌≤◌, ◌⊎◌, ⊎_elim, true, false, cond, List, [], ◌∷◌, ◌++◌, ◌||◌, length, reverse, Option, Some, None, refl, sym, ◌∙◌, arith, length-append}
use Rattle.std.proofs.lemmas.List.{reverse-append}
use Rattle.std.proofs.lemmas.List.Folds.{list_any-append}
use Rattle.std.proofs.lemmas.Bool.{or_cases, or_left, or_right, false≢true}
use Rattle.std.specs.List.{filter}
use Rattle.std.specs.Ordering.{eq_by_cmp}
use Rattle.sorted_keys.specs.Keys.{has, with_key}
use Rattle.sorted_keys.proofs.Members.{has-filter, has-with_key}
use Rattle.sorted_keys.proofs.Ties.{one_key, ties_itself, ties_flip}
use Rattle.rbac_terms.specs.Name.{Name, name_cmp, pair_cmp}
use Rattle.rbac_terms.specs.Inheritance.{IsChain}
use Rattle.rbac_terms.proofs.NameLemmas.{names_total, names_exact, pairs_total, pairs_exact}
use Rattle.rbac_reasons.specs.Path.{IsPath, LeadsFrom, NoneLeads, Reaches, AreReached}
use Rattle.rbac_reasons.specs.declared.chain.Chain.{Chain}
use Rattle.rbac_reasons.specs.Walk.{Walk, after_first, next_of, after_next, visited, all_visited, found_by, IsTrail}

-- ---- Chains among roles, and without them

pub path_of_chain : (roles : List Name) (declared : List (Name × Name)) (r : Name) (rest : List Name) (q : Name) → IsChain roles declared r rest q → IsPath declared r rest q
path_of_chain roles declared r [] q c = c.1
path_of_chain roles declared r (p ∷ rest) q c = (c.1, path_of_chain roles declared p rest q c.2)

pub chain_of_path : (roles : List Name) (declared : List (Name × Name)) → ((a d : Name) → has pair_cmp (a, d) declared ≡ true → (has name_cmp a roles ≡ true) × (has name_cmp d roles ≡ true))
    → (r : Name) (rest : List Name) (q : Name) → has name_cmp r roles ≡ true → IsPath declared r rest q → IsChain roles declared r rest q
chain_of_path roles declared ranges r [] q is p = (is, p)
chain_of_path roles declared ranges r (x ∷ rest) q is p = (is, p.0, chain_of_path roles declared ranges x rest q (ranges r x p.0).1 p.1)

-- a path that goes on by one pair
pub path_on : (declared : List (Name × Name)) (r : Name) (rest : List Name) (p q : Name) → IsPath declared r rest p → has pair_cmp (p, q) declared ≡ true → IsPath declared r (rest ++ q ∷ []) q
path_on declared r [] p q path pair = (grind arith, refl)
path_on declared r (x ∷ rest) p q path pair = (path.0, path_on declared x rest p q path.1 pair)

-- ---- Members of lists

-- names that tie are one (the first part shows `grind` the call to match)
pub one_name : (x y : Name) → (eq_by_cmp name_cmp x y ≡ eq_by_cmp name_cmp x y) × (eq_by_cmp name_cmp x y ≡ true → x ≡ y)
one_name x y = (refl, one_key names_exact x y)

has_pushed : (xs : List Name) (x q : Name) → has name_cmp q (xs ++ x ∷ []) ≡ (has name_cmp q xs || (eq_by_cmp name_cmp q x || false))
has_pushed xs x q = list_any-append (eq_by_cmp name_cmp q) xs (x ∷ [])

-- ---- How much is left

-- how many pairs have a descendant that was not found
abbrev pub unfound : List Name → List (Name × Name) → ℕ
unfound found [] = 0
unfound found (p ∷ ps) = cond (has name_cmp p.1 found) 0 1 + unfound found ps

abbrev pub weight : List (Name × Name) → Walk → ℕ
weight declared w = unfound w.found declared + length w.pending

-- one more that is found leaves no pair more, and its own pair no more
module _ (found : List Name) (p : Name × Name) where
  unfound_fewer : (ps : List (Name × Name)) → unfound (with_key name_cmp p.1 found) ps ≤ unfound found ps
  unfound_fewer [] = omega arith
  unfound_fewer (x ∷ ps) = grind (arith, has-with_key names_total p.1 found x.1, unfound_fewer ps)

  unfound_less : has name_cmp p.1 found ≡ false → (ps : List (Name × Name)) → has pair_cmp p ps ≡ true → unfound (with_key name_cmp p.1 found) ps + 1 ≤ unfound found ps
  unfound_less absent [] m = absurd (false≢true m)
  unfound_less absent (x ∷ ps) m =
      grind (arith, has-with_key names_total p.1 found x.1, ties_itself names_total p.1, unfound_fewer ps, unfound_less absent ps, one_key pairs_exact p x)

-- ---- The walk

module _ (starts goals : List Name) (declared : List (Name × Name)) where
  -- what is found was found by the trail; and what is not pending is no goal, and its descendants are found, but for one whose are looked at
  pub record IsWalk (but : Option Name) (w : Walk) : Type 0 where
    pub trail : IsTrail starts declared w.trail
    pub members : (q : Name) → has name_cmp q w.found ≡ has name_cmp q (found_by starts w.trail)
    pub pending : (q : Name) → has name_cmp q w.pending ≡ true → has name_cmp q w.found ≡ true
    pub closed : (a b : Name) → has pair_cmp (a, b) declared ≡ true → has name_cmp a w.found ≡ true
        → (has name_cmp a w.pending ≡ true) ⊎ ((has name_cmp b w.found ≡ true) ⊎ (but ≡ Some a))
    pub failed : (q : Name) → has name_cmp q w.found ≡ true → (has name_cmp q w.pending ≡ true) ⊎ (has name_cmp q goals ≡ false)

  abbrev pairs_from : Name → List (Name × Name)
  pairs_from role = filter (λ (p : Name × Name). eq_by_cmp name_cmp role p.0) declared

  from_role : (role : Name) (p : Name × Name) → has pair_cmp p (pairs_from role) ≡ (eq_by_cmp name_cmp role p.0 && has pair_cmp p declared)
  from_role role p = has-filter pairs_exact (λ (x : Name × Name). eq_by_cmp name_cmp role x.0) declared p

  passes : (role : Name) (rest : List Name) (w : Walk) → w.pending ≡ role ∷ rest → has name_cmp role goals ≡ false
      → IsWalk None w → IsWalk (Some role) (record w { pending = rest })
  passes role rest w taken no_goal h = record {
    trail = h.trail;
    members = h.members;
    pending = λ q m. grind (arith, h.pending q);
    closed = λ a b is_pair m. grind (arith, h.closed a b is_pair m, one_name a role);
    failed = λ q m. grind (arith, h.failed q m, one_name q role);
  }

  visit_passes : (role : Name) (p : Name × Name) (w : Walk) → has pair_cmp p (pairs_from role) ≡ true → has name_cmp role w.found ≡ true
      → IsWalk (Some role) w → IsWalk (Some role) (visited p w)
  visit_passes role p w mine here h = record {
    trail = elim (has name_cmp p.1 w.found) as (λ b. IsTrail starts declared (cond b w (record { found = with_key name_cmp p.1 w.found; trail = p ∷ w.trail; pending = w.pending ++ p.1 ∷ [] })).trail) [
      | true ↦ h.trail
      | false ↦ (grind (arith, from_role role p), grind (arith, from_role role p, h.members p.0, one_name role p.0), h.trail)
    ];
    members = λ q. grind (arith, h.members q, has-with_key names_total p.1 w.found q);
    pending = λ q m. grind (arith, h.pending q, has_pushed w.pending p.1 q, has-with_key names_total p.1 w.found q);
    closed = λ a b is_pair m. grind (arith, h.closed a b is_pair, has_pushed w.pending p.1 a, has-with_key names_total p.1 w.found a, has-with_key names_total p.1 w.found b);
    failed = λ q m. grind (arith, h.failed q, has_pushed w.pending p.1 q, has-with_key names_total p.1 w.found q);
  }

  all_keep : (ps : List (Name × Name)) (w : Walk) (q : Name) → has name_cmp q w.found ≡ true → has name_cmp q (all_visited ps w).found ≡ true
  all_keep [] w q m = m
  all_keep (p ∷ ps) w q m = all_keep ps (visited p w) q (grind (arith, has-with_key names_total p.1 w.found q))

  all_find : (ps : List (Name × Name)) (w : Walk) (p : Name × Name) → has pair_cmp p ps ≡ true → has name_cmp p.1 (all_visited ps w).found ≡ true
  all_find [] w p m = absurd (false≢true m)
  all_find (x ∷ ps) w p m =
      let keeps = all_keep ps (visited x w) p.1 in
      grind (arith, keeps, has-with_key names_total x.1 w.found p.1, ties_itself names_total p.1, one_key pairs_exact p x, all_find ps (visited x w) p)

  module _ (role : Name) where
    abbrev AreMine : List (Name × Name) → Type 0
    AreMine ps = (p : Name × Name) → has pair_cmp p ps ≡ true → has pair_cmp p (pairs_from role) ≡ true

    all_pass : (ps : List (Name × Name)) → AreMine ps → (w : Walk) → has name_cmp role w.found ≡ true
        → IsWalk (Some role) w → IsWalk (Some role) (all_visited ps w)
    all_pass [] each w here h = h
    all_pass (p ∷ ps) each w here h =
        let first = visit_passes role p w (each p (or_left _ _ (ties_itself pairs_total p))) here h in
        all_pass ps (λ q m. each q (or_right _ _ m)) (visited p w) (all_keep (p ∷ []) w role here) first

    all_shrink : (ps : List (Name × Name)) → AreMine ps → (w : Walk) → weight declared (all_visited ps w) ≤ weight declared w
    all_shrink [] each w = omega arith
    all_shrink (p ∷ ps) each w =
        let rest = all_shrink ps (λ q m. each q (or_right _ _ m)) (visited p w) in
        let less = λ (e : has name_cmp p.1 w.found ≡ false). unfound_less w.found p e declared in
        grind (arith, rest, less, each p, from_role role p, ties_itself pairs_total p, length-append w.pending (p.1 ∷ []))

  module _ (role : Name) (w : Walk) (taken : next_of w ≡ Some role) where
    pub was_pending : has name_cmp role w.pending ≡ true
    was_pending = grind (arith, ties_itself names_total role)

    pub walk_goes_on : has name_cmp role goals ≡ false → IsWalk None w → IsWalk None (all_visited (pairs_from role) (after_next w))
    walk_goes_on no_goal h =
        let first = passes role (after_first w.pending) w (grind arith) no_goal h in
        let then = all_pass role (pairs_from role) (λ p m. m) (after_next w) (h.pending role was_pending) first in
        record {
          trail = then.trail;
          members = then.members;
          pending = then.pending;
          closed = λ a b is_pair m. grind (arith, then.closed a b is_pair m, from_role role (a, b), all_find (pairs_from role) (after_next w) (a, b), ties_itself names_total role);
          failed = then.failed;
        }

    pub walk_shrinks : weight declared (all_visited (pairs_from role) (after_next w)) < weight declared w
    walk_shrinks = grind (arith, all_shrink role (pairs_from role) (λ p m. m) (after_next w))

  begun : (trail : List (Name × Name)) (q : Name) → has name_cmp q starts ≡ true → has name_cmp q (found_by starts trail) ≡ true
  begun [] q m = m
  begun (p ∷ older) q m = or_right _ _ (begun older q m)

  -- where nothing is pending, all that a chain leads to is found
  module _ (w : Walk) (none : next_of w ≡ None) (h : IsWalk None w) where
    walk_finds : (r : Name) (rest : List Name) (q : Name) → has name_cmp r w.found ≡ true → IsPath declared r rest q → has name_cmp q w.found ≡ true
    walk_finds r [] q m path = grind arith
    walk_finds r (p ∷ rest) q m path = walk_finds p rest q (grind (arith, h.closed r p path.0 m)) path.1

    pub walk_ends : NoneLeads declared starts goals
    walk_ends r rest q m path = grind (arith, h.failed q (walk_finds r rest q (h.members r ∙ begun w.trail r m) path))

    trail_reaches : (trail : List (Name × Name)) → IsTrail starts declared trail → (q : Name) → has name_cmp q (found_by starts trail) ≡ true → Reaches declared starts q
    trail_reaches [] t q m = (q, [], m, refl)
    trail_reaches (p ∷ older) t q m = ⊎_elim
        (λ e.
        let before = trail_reaches older t.2 p.0 t.1 in
        (before.0, before.1 ++ q ∷ [], before.2, path_on declared before.0 before.1 p.0 q before.3 (grind (arith, t.0, one_key names_exact q p.1 e))))
        (trail_reaches older t.2 q)
        (or_cases _ _ m)

    pub walk_reaches : AreReached declared starts w.found
    walk_reaches q = (λ m. trail_reaches w.trail h.trail q (sym (h.members q) ∙ m), λ r. walk_finds r.0 r.1 q (h.members r.0 ∙ begun w.trail r.0 r.2) r.3)

-- ---- The trail back

module _ (starts : List Name) (declared : List (Name × Name)) where
  -- from a name that was found, and the names after it, leads a chain to the last
  pub record IsBack (last : Name) (pairs : List (Name × Name)) (first : Name) (rest : List Name) : Type 0 where
    pub trail : IsTrail starts declared (reverse pairs)
    pub found : has name_cmp first (found_by starts (reverse pairs)) ≡ true
    pub path : IsPath declared first (reverse rest) last

  module _ (last : Name) (older : List (Name × Name)) (pair : Name × Name) (first : Name) (rest : List Name) (h : IsBack last (older ++ pair ∷ []) first rest) where
    trail_there : IsTrail starts declared (pair ∷ reverse older)
    trail_there = rw (reverse-append older (pair ∷ [])) at h.trail

    pub back_by : eq_by_cmp name_cmp pair.1 first ≡ true → IsBack last older pair.0 (rest ++ first ∷ [])
    back_by same = record {
      trail = trail_there.2;
      found = trail_there.1;
      path = rw (reverse-append rest (first ∷ [])) (grind (arith, trail_there.0, one_name pair.1 first), h.path);
    }

    pub back_past : eq_by_cmp name_cmp pair.1 first ≡ false → IsBack last older first rest
    back_past other = record {
      trail = trail_there.2;
      found = grind (arith, h.found, reverse-append older (pair ∷ []), ties_flip names_total names_exact pair.1 first);
      path = h.path;
    }

  pub back_ends : (last first : Name) (rest : List Name) (chain : Chain) → chain.first ≡ first → chain.rest.items ≡ reverse rest → chain.last ≡ last → IsBack last [] first rest → LeadsFrom declared starts last chain
  back_ends last first rest chain is_first is_rest is_last h =
      record { first = grind (arith, h.found); path = rw (is_first, is_rest, is_last) h.path; last_is = is_last }
