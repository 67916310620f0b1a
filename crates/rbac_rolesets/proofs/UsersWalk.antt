-- One walk over UA beside the users: what is ahead after a pair, and what looking for its user finds.
use Rattle.std.proofs.Common.{ℕ, ◌≡◌, ◌+◌, ◌<◌, ◌≤◌, Bool, true, false, cond, ◌||◌, List, [], ◌∷◌, ◌++◌, drop, length, get_or, append_assoc, append-nil, refl, sym, ap, ◌∙◌, subst}
use Rattle.std.specs.declared.cmp.Ordering.{Ordering}
use Rattle.std.specs.declared.cmp.Ordering.TheVariants.{Less, Equal, Greater}
use Rattle.std.specs.List.{filter}
use Rattle.std.specs.List.Sorted.{IsStrictlySortedBy}
use Rattle.std.specs.Ordering.{is_eq, is_lt, ordering_then, ordering_reverse}
use Rattle.std.proofs.lemmas.List.{drop_more, drop_all}
use Rattle.std.proofs.lemmas.List.Kept.{IsStrictlySortedBy-filter}
use Rattle.sorted_keys.specs.Keys.{has, repeats}
use Rattle.sorted_keys.proofs.Order.{IsBelowAll, IsBelowAll-below, greater, less}
use Rattle.sorted_keys.proofs.Lists.{filter-same}
use Rattle.sorted_keys.proofs.KeyPlace.{has-below}
use Rattle.rbac_terms.specs.Name.{Name, name_cmp, pair_cmp}
use Rattle.rbac_terms.specs.Relations.{users_of}
use Rattle.rbac_terms.proofs.NameLemmas.{names_total, names_exact, pairs_total}

-- the users after one
abbrev pub users_after : Name → List Name → List Name
users_after user users = filter (λ other. is_lt (name_cmp user other)) users

-- all sorted users are after one that is below them
all_after : (user : Name) (users : List Name) → IsBelowAll name_cmp user users → users_after user users ≡ users
all_after user [] below = refl
all_after user (u ∷ us) below = rw below.0 (ap (λ l. u ∷ l) (all_after user us below.1))

no_tie : (a b : Ordering) → is_eq b ≡ false → is_eq (ordering_then a b) ≡ false
no_tie Less b differs = refl
no_tie Equal b differs = differs
no_tie Greater b differs = refl

-- how far a look for a user came: the rest tells all
abbrev pub IsLookingFor : Name → List Name → ℕ → Type 0
IsLookingFor user users i = (has name_cmp user users ≡ has name_cmp user (drop i users)) × (users_after user users ≡ users_after user (drop i users)) × IsStrictlySortedBy name_cmp (drop i users)

rest_of_users : (u : Name) (us : List Name) → IsStrictlySortedBy name_cmp (u ∷ us) → IsBelowAll name_cmp u us × IsStrictlySortedBy name_cmp us
unfolding IsStrictlySortedBy
rest_of_users u us sorted = sorted

module _ (user : Name) (users : List Name) (i : ℕ) (u : Name) (lt : i < length users) (at : u ≡ get_or users i u) (here : IsLookingFor user users i) where
  there : drop i users ≡ u ∷ drop (i + 1) users
  there = drop_more users i u lt ∙ ap (λ y. y ∷ drop (i + 1) users) (sym at)

  in_order_on : IsBelowAll name_cmp u (drop (i + 1) users) × IsStrictlySortedBy name_cmp (drop (i + 1) users)
  in_order_on = rest_of_users u (drop (i + 1) users) (subst (IsStrictlySortedBy name_cmp) there here.2)

  has_it : has name_cmp user users ≡ has name_cmp user (u ∷ drop (i + 1) users)
  has_it = here.0 ∙ ap (has name_cmp user) there

  after_it : users_after user users ≡ users_after user (u ∷ drop (i + 1) users)
  after_it = here.1 ∙ ap (users_after user) there

  -- it goes on past a user before the one that is looked for
  pub one_before : name_cmp user u ≡ Greater → IsLookingFor user users (i + 1)
  one_before g = (has_it ∙ ap (λ r. is_eq r || has name_cmp user (drop (i + 1) users)) g, after_it ∙ ap (λ r. cond (is_lt r) (u ∷ users_after user (drop (i + 1) users)) (users_after user (drop (i + 1) users))) g, in_order_on.1)

  -- and ends at one after it
  pub at_later : name_cmp user u ≡ Less → (has name_cmp user users ≡ false) × (users_after user users ≡ drop i users)
  at_later l =
      let below : IsBelowAll name_cmp user (u ∷ drop (i + 1) users) = (l, IsBelowAll-below names_total user u (drop (i + 1) users) l in_order_on.0) in
      (has_it ∙ has-below names_total user (u ∷ drop (i + 1) users) below, after_it ∙ all_after user (u ∷ drop (i + 1) users) below ∙ sym there)

  -- or at the one itself
  pub at_itself : name_cmp user u ≡ Equal → (has name_cmp user users ≡ true) × (users_after user users ≡ drop (i + 1) users)
  at_itself e =
      let same = names_exact user u e in (
        has_it ∙ ap (λ r. is_eq r || has name_cmp user (drop (i + 1) users)) e,
        after_it ∙ ap (λ r. cond (is_lt r) (u ∷ users_after user (drop (i + 1) users)) (users_after user (drop (i + 1) users))) e
            ∙ all_after user (drop (i + 1) users) (subst (λ k. IsBelowAll name_cmp k (drop (i + 1) users)) (sym same) in_order_on.0),
      )

module _ (role : Name) where
  -- a pair of another role says nothing of the users of this one
  other_role : (p : Name × Name) (ps : List (Name × Name)) (ks : List Name) → is_eq (name_cmp role p.1) ≡ false → users_of role ks (p ∷ ps) ≡ users_of role ks ps
  other_role p ps ks differs =
      filter-same (λ u. has pair_cmp (u, role) (p ∷ ps)) (λ u. has pair_cmp (u, role) ps)
      (λ u. ap (λ b. b || has pair_cmp (u, role) ps) (no_tie (name_cmp u p.0) (name_cmp role p.1) differs)) ks

  -- a user before that of a pair has no pair from there on
  before : (u : Name) (p : Name × Name) (ps : List (Name × Name)) → IsBelowAll pair_cmp p ps → name_cmp u p.0 ≡ Less → has pair_cmp (u, role) (p ∷ ps) ≡ false
  before u p ps below l =
      let under : pair_cmp (u, role) p ≡ Less = ap (λ r. ordering_then r (name_cmp role p.1)) l in
      has-below pairs_total (u, role) (p ∷ ps) (under, IsBelowAll-below pairs_total (u, role) p ps under below)

  -- of a user after it the pair says nothing
  after : (u : Name) (p : Name × Name) (ps : List (Name × Name)) → name_cmp p.0 u ≡ Less → has pair_cmp (u, role) (p ∷ ps) ≡ has pair_cmp (u, role) ps
  after u p ps l = ap (λ r. is_eq (ordering_then r (name_cmp role p.1)) || has pair_cmp (u, role) ps) (greater names_total p.0 u l)

  -- of its own user it says that the role is assigned
  own : (u : Name) (p : Name × Name) (ps : List (Name × Name)) → name_cmp p.0 u ≡ Equal → is_eq (name_cmp role p.1) ≡ true → has pair_cmp (u, role) (p ∷ ps) ≡ true
  own u p ps e own_role =
      ap (λ r. is_eq (ordering_then r (name_cmp role p.1)) || has pair_cmp (u, role) ps) (names_total.antisymm u p.0 ∙ ap ordering_reverse e) ∙ ap (λ b. b || has pair_cmp (u, role) ps) own_role

  -- a pair of the role tells of its user, and no earlier one has a pair any more
  the_role : (p : Name × Name) (ps : List (Name × Name)) (ks : List Name) → is_eq (name_cmp role p.1) ≡ true → IsBelowAll pair_cmp p ps → IsStrictlySortedBy name_cmp ks
      → users_of role ks (p ∷ ps) ≡ cond (has name_cmp p.0 ks) (p.0 ∷ []) [] ++ users_of role (users_after p.0 ks) ps
  unfolding IsStrictlySortedBy
  the_role p ps [] own_role below sorted = refl
  the_role p ps (u ∷ us) own_role below sorted = go (name_cmp p.0 u) refl (the_role p ps us own_role below sorted.1)
    where
      all : List Name
      all = users_of role us (p ∷ ps)

      later : List Name
      later = users_of role (users_after p.0 us) ps

      alone : IsBelowAll name_cmp p.0 us → all ≡ cond (has name_cmp p.0 us) (p.0 ∷ []) [] ++ later → all ≡ later
      alone under rest = rest ∙ ap (λ b. cond b (p.0 ∷ []) [] ++ later) (has-below names_total p.0 us under)

      go : (r : Ordering) → name_cmp p.0 u ≡ r → all ≡ cond (has name_cmp p.0 us) (p.0 ∷ []) [] ++ later
          → users_of role (u ∷ us) (p ∷ ps) ≡ cond (is_eq r || has name_cmp p.0 us) (p.0 ∷ []) [] ++ users_of role (cond (is_lt r) (u ∷ users_after p.0 us) (users_after p.0 us)) ps
      go Less e rest =
          let under = IsBelowAll-below names_total p.0 u us e sorted.0 in
          let mine = has pair_cmp (u, role) ps in
          ap (λ b. cond b (u ∷ all) all) (after u p ps e)
          ∙ ap (λ l. cond mine (u ∷ l) l) (alone under rest)
          ∙ sym (ap (λ b. cond b (p.0 ∷ []) [] ++ cond mine (u ∷ later) later) (has-below names_total p.0 us under))
      go Equal e rest =
          let same = names_exact p.0 u e in
          ap (λ b. cond b (u ∷ all) all) (own u p ps e own_role)
          ∙ ap (λ l. u ∷ l) (alone (subst (λ k. IsBelowAll name_cmp k us) (sym same) sorted.0) rest)
          ∙ ap (λ k. k ∷ later) (sym same)
      go Greater e rest = ap (λ b. cond b (u ∷ all) all) (before u p ps below (less names_total p.0 u e)) ∙ rest

  -- the users that pairs behind tell of are found, and the others are ahead
  abbrev pub IsUnderWay : List Name → List (Name × Name) → ℕ → List Name → List Name → Type 0
  IsUnderWay users pairs i found ahead =
      (users_of role users pairs ≡ found ++ users_of role ahead (drop i pairs)) × IsStrictlySortedBy name_cmp ahead × IsStrictlySortedBy pair_cmp (drop i pairs)

  rest_of_pairs : (p : Name × Name) (ps : List (Name × Name)) → IsStrictlySortedBy pair_cmp (p ∷ ps) → IsBelowAll pair_cmp p ps × IsStrictlySortedBy pair_cmp ps
  unfolding IsStrictlySortedBy
  rest_of_pairs p ps sorted = sorted

  module _ (users : List Name) (pairs : List (Name × Name)) (i : ℕ) (found ahead : List Name) (p : Name × Name) (lt : i < length pairs) (at : p ≡ get_or pairs i p)
      (here : IsUnderWay users pairs i found ahead) where
    there_on : drop i pairs ≡ p ∷ drop (i + 1) pairs
    there_on = drop_more pairs i p lt ∙ ap (λ y. y ∷ drop (i + 1) pairs) (sym at)

    in_order : IsBelowAll pair_cmp p (drop (i + 1) pairs) × IsStrictlySortedBy pair_cmp (drop (i + 1) pairs)
    in_order = rest_of_pairs p (drop (i + 1) pairs) (subst (IsStrictlySortedBy pair_cmp) there_on here.2)

    told : users_of role users pairs ≡ found ++ users_of role ahead (p ∷ drop (i + 1) pairs)
    told = here.0 ∙ ap (λ ps. found ++ users_of role ahead ps) there_on

    -- a pair of another role is behind
    pub passed_over : (more later : List Name) → is_eq (name_cmp role p.1) ≡ false → later ≡ ahead → more ≡ found → IsUnderWay users pairs (i + 1) more later
    passed_over more later differs cut is =
        subst (λ f. IsUnderWay users pairs (i + 1) f later) (sym is)
        (subst (IsUnderWay users pairs (i + 1) found) (sym cut) (told ∙ ap (λ l. found ++ l) (other_role p (drop (i + 1) pairs) ahead differs), here.1, in_order.1))

    split : (b : Bool) (l : List Name) → found ++ (cond b (p.0 ∷ []) [] ++ l) ≡ cond b (found ++ p.0 ∷ []) found ++ l
    split true l = sym (append_assoc found (p.0 ∷ []) l)
    split false l = refl

    -- a pair of the role is behind, and its user was looked for
    pub looked_for : (more later : List Name) (b : Bool) → is_eq (name_cmp role p.1) ≡ true → has name_cmp p.0 ahead ≡ b → later ≡ users_after p.0 ahead
        → more ≡ cond b (found ++ p.0 ∷ []) found → IsUnderWay users pairs (i + 1) more later
    looked_for more later b own_role is_there cut is =
        let rest = users_of role (users_after p.0 ahead) (drop (i + 1) pairs) in
        let all = told ∙ ap (λ l. found ++ l) (the_role p (drop (i + 1) pairs) ahead own_role in_order.0 here.1) ∙ split (has name_cmp p.0 ahead) rest
        ∙ ap (λ b. cond b (found ++ p.0 ∷ []) found ++ rest) is_there in
        subst (λ f. IsUnderWay users pairs (i + 1) f later) (sym is)
        (subst (IsUnderWay users pairs (i + 1) (cond b (found ++ p.0 ∷ []) found)) (sym cut)
        (all, IsStrictlySortedBy-filter name_cmp (λ other. is_lt (name_cmp p.0 other)) ahead here.1, in_order.1))

  no_users : (ks : List Name) → users_of role ks [] ≡ []
  no_users [] = refl
  no_users (k ∷ ks) = no_users ks

  -- once all pairs are behind, all users are found
  pub all_found : (users : List Name) (pairs : List (Name × Name)) (i : ℕ) (found ahead : List Name) → length pairs ≤ i → IsUnderWay users pairs i found ahead → users_of role users pairs ≡ found
  all_found users pairs i found ahead done here =
      here.0 ∙ ap (λ ps. found ++ users_of role ahead ps) (drop_all i pairs done) ∙ ap (λ l. found ++ l) (no_users ahead) ∙ append-nil found

  -- and they are in order
  pub found_in_order : (users known : List Name) (pairs : List (Name × Name)) (found : List Name) → found ≡ users_of role users pairs → users ≡ known → IsStrictlySortedBy name_cmp known → IsStrictlySortedBy name_cmp found
  found_in_order users known pairs found is same sorted =
      subst (IsStrictlySortedBy name_cmp) (sym is) (IsStrictlySortedBy-filter name_cmp (λ user. has pair_cmp (user, role) pairs) users (subst (IsStrictlySortedBy name_cmp) (sym same) sorted))

-- of sorted users none stands twice
pub distinct : (users : List Name) → IsStrictlySortedBy name_cmp users → repeats name_cmp users ≡ false
distinct [] sorted = refl
distinct (u ∷ us) sorted =
    let rest = rest_of_users u us sorted in
    ap (λ b. b || repeats name_cmp us) (has-below names_total u us rest.0) ∙ distinct us rest.1
