-- What the names of a hindrance tell of the state after the command.
use Rattle.std.proofs.Common.{arith, suc, take, drop, ◌++◌, ℕ, ◌≡◌, Bool, true, false, not, cond, ◌||◌, ◌&&◌, List, [], ◌∷◌, Option, Some, None, is_some, refl, sym, ap, ◌∙◌, subst}
use Rattle.std.specs.Prelude.{⊤}
use Rattle.rbac_decide.proofs.Common.{false≢true, and_parts, and_from, or_left, list_any, first_where, IsStrictlySortedBy, find, put, find-put, option_map}
use Rattle.rbac_decide.proofs.Common.{eq_by_cmp, has, by_key, with_key, updated, has-filter, has-with_key, ties_itself, same_bits, Name, name_cmp, RoleSet}
use Rattle.rbac_decide.proofs.Common.{is_broken_by, is_broken, is_well_sized, is_constrained, State, Session, IsChain, juniors, inherits, inherits_in}
use Rattle.rbac_decide.proofs.Common.{is_authorized, sets_of, with_sets, breaks_static, breaks_dynamic, is_violated, is_badly_sized, violation, change}
use Rattle.rbac_decide.proofs.Common.{with_active, active_in, preconditions, first_denial, IsSound, Separation, Static, Dynamic, Command, DeleteRole}
use Rattle.rbac_decide.proofs.Common.{AssignUser, AddInheritance, CreateSet, AddRoleMember, DeleteRoleMember, SetCardinality, CreateSession, AddActiveRole}
use Rattle.rbac_decide.proofs.Common.{ReviewCommand, Denial, names_total, names_exact, inherits_iff, chain_role, chain_end, breaks_with, breaks_set}
use Rattle.rbac_decide.proofs.Common.{first_holder, Named, named, static_breach, dynamic_breach, breach_of, first_hindrance, first_entry, a_breach, a_set}
use Rattle.std.proofs.lemmas.Bool.{or_parts}
use Rattle.sorted_keys.proofs.EntryPlace.{sorted_put, sorted_updated}
use Rattle.rbac_terms.specs.Rows.{Precondition, ◌when◌, leftmost, is_set}
use Rattle.rbac_terms.specs.declared.review.Review.TheVariants.{AssignedUsers}
use Rattle.rbac_terms.specs.declared.answer.Denial.TheVariants as denial
use Rattle.rbac_decide.proofs.SeparationLemmas.{put_found, put_violated, put_sized, created_violated, activated_violated, assigned_violated, declared_violated, user_gains, pair_gives}
use Rattle.rbac_decide.proofs.BreachLemmas.{some_first, first_found, first_with, assignment_named, pair_named, put_named, session_named, activation_named}
use Rattle.rbac_reasons.specs.declared.chain.Chain.{Chain}
use Rattle.rbac_reasons.specs.After.{changed, changed_set, gained}
use Rattle.rbac_reasons.specs.Explanation.{holds, is_holder}
use Rattle.rbac_reasons.specs.Path.{LeadsTo, NoneLeads}
use Rattle.rbac_reasons.proofs.ToldLemmas.{told_parts, refuted, passed, not_false, any_first}
use Rattle.rbac_reasons.proofs.WalkLemmas.{path_of_chain, chain_of_path}

-- ---- The breach of a state

-- what is so of the kind, the holder and the set of a breach
abbrev OfBreach : (Separation → Name → Name → Type 0) → Named → Type 0
OfBreach P (a_breach kind holder set) = P kind holder set
OfBreach P names = ⊤

-- what is so of the kind and the name of a set
abbrev OfSet : (Separation → Name → Type 0) → Named → Type 0
OfSet P (a_set kind set) = P kind set
OfSet P names = ⊤

abbrev InOrder : {X : Type 0} → List (Name × X) → Type 0
InOrder es = IsStrictlySortedBy (by_key name_cmp) es

first_in : (p : Name → Bool) (xs : List Name) (y : Name) → first_where p xs ≡ Some y → has name_cmp y xs ≡ true
first_in p [] y e = grind arith
first_in p (x ∷ xs) y e = grind (arith, ties_itself names_total x, first_in p xs y)

-- a breach is of a set that is there, by a user or a session that is there and breaks it
pub record IsBroken (kind : Separation) (s : State) (holder set : Name) : Type 0 where
  pub role_set : RoleSet
  pub found : find name_cmp set (sets_of kind s) ≡ Some role_set
  pub there : is_holder kind s holder ≡ true
  pub broken : is_broken_by (holds kind s holder) role_set ≡ true

breach_found : (kind : Separation) (s : State) → InOrder (sets_of kind s) → InOrder s.sessions → is_violated kind s ≡ true → OfBreach (λ k. IsBroken k s) (breach_of kind s)
breach_found Static s sorted sessions violated =
    let user = any_first (breaks_static s) s.users violated in
    let breaks : Name × RoleSet → Bool = λ e. is_broken_by (is_authorized s user.0) e.1 in
    let entry = any_first breaks s.static_sets (some_first (breaks_static s) s.users user.0 user.1).0 in
    rw (user.1, entry.1) (record {
      role_set = entry.0.1;
      found = first_found names_total breaks s.static_sets sorted entry.0 entry.1;
      there = first_in (breaks_static s) s.users user.0 user.1;
      broken = (some_first breaks s.static_sets entry.0 entry.1).0;
    })
breach_found Dynamic s sorted sessions violated =
    let breaking : Name × Session → Bool = λ x. breaks_dynamic s x.1 in
    let session = any_first breaking s.sessions violated in
    let found : find name_cmp session.0.0 s.sessions ≡ Some session.0.1 = first_found names_total breaking s.sessions sessions session.0 session.1 in
    let breaks : Name × RoleSet → Bool = λ e. is_broken session.0.1.active e.1 in
    let entry = any_first breaks s.dynamic_sets (some_first breaking s.sessions session.0 session.1).0 in
    rw (session.1, found, entry.1) (record {
      role_set = entry.0.1;
      found = first_found names_total breaks s.dynamic_sets sorted entry.0 entry.1;
      there = ap is_some found;
      broken = rw found (some_first breaks s.dynamic_sets entry.0 entry.1).0;
    })

-- ---- What a command that would break separation makes

pub record IsBreach (c : Command) (s : State) (kind : Separation) (holder set : Name) : Type 0 where
  pub gains : (role : Name) → holds kind (change c s) holder role ≡ (has name_cmp role (gained c s) || holds kind s holder role)
  pub makes : find name_cmp set (sets_of kind (change c s)) ≡ changed_set c (find name_cmp set (sets_of kind s))
  pub broken : IsBroken kind (change c s) holder set

has_junior : (s : State) (role r : Name) → has name_cmp r (juniors s.roles s.declared role) ≡ inherits_in s role r
has_junior s role r =
    has-filter names_exact (inherits s.roles s.declared role) s.roles r
    ∙ same_bits _ _ (λ both. (and_parts _ _ both).0) (λ e. let i = (inherits_iff s.roles s.declared role r).0 e in and_from _ _ e (chain_end s.roles s.declared role i.0 r i.1))

-- ---- A set that is put

-- of a state with other sets of a kind
sets_put : (kind : Separation) (sets : List (Name × RoleSet)) (s : State)
    → (sets_of kind (with_sets kind sets s) ≡ sets) × ((with_sets kind sets s).sessions ≡ s.sessions) × ((holder role : Name) → holds kind (with_sets kind sets s) holder role ≡ holds kind s holder role)
sets_put Static sets s = (refl, refl, λ holder role. refl)
sets_put Dynamic sets s = (refl, refl, λ holder role. refl)

sets_in_order : (kind : Separation) (s : State) → IsSound s → InOrder (sets_of kind s)
sets_in_order Static s h = h.separation.static_sets.in_order
sets_in_order Dynamic s h = h.separation.dynamic_sets.in_order

put_there : {X : Type 0} (k : Name) (x : X) (es : List (Name × X)) → find name_cmp k (put name_cmp k x es) ≡ Some x
put_there k x es = find-put name_cmp names_total k k x es ∙ ap (λ b. cond b (Some x) (find name_cmp k es)) (ties_itself names_total k)

first_there : (kind : Separation) (s : State) (new : RoleSet) → breaks_set kind s new ≡ true → (holder : Name) × (first_holder kind s new ≡ Some holder)
first_there Static s new breaks = any_first _ s.users breaks
first_there Dynamic s new breaks = let x = any_first _ s.sessions breaks in (x.0.0, ap (option_map (λ (e : Name × Session). e.0)) x.1)

some_of : {X : Type 0} (o : Option X) → not (is_some o) ≡ false → (x : X) × (o ≡ Some x)
some_of None e = absurd (false≢true (sym e))
some_of (Some x) e = (x, refl)

-- a command puts a set
record IsPut (c : Command) (s : State) (kind : Separation) (set : Name) : Type 0 where
  pub new : RoleSet
  pub puts : change c s ≡ with_sets kind (put name_cmp set new (sets_of kind s)) s
  pub makes : changed_set c (find name_cmp set (sets_of kind s)) ≡ Some new

-- a set that is there, changed
put_changed : (c : Command) (s : State) (kind : Separation) (set : Name) → not (is_set kind s set) ≡ false → change c s ≡ with_sets kind (updated name_cmp set (changed c) (sets_of kind s)) s
    → changed_set c (find name_cmp set (sets_of kind s)) ≡ option_map (changed c) (find name_cmp set (sets_of kind s)) → IsPut c s kind set
put_changed c s kind set there is makes =
    let x = some_of (find name_cmp set (sets_of kind s)) there in
    record {
      new = changed c x.0;
      puts = is ∙ ap (λ sets. with_sets kind sets s) (put_found name_cmp set (changed c) (sets_of kind s) x.0 x.1);
      makes = makes ∙ ap (option_map (changed c)) x.1;
    }

-- a set that is created
created : (kind : Separation) (set : Name) (roles : List Name) (n : ℕ) (s : State) → IsPut (CreateSet kind set roles n) s kind set
created kind set roles n s = record { new = record { roles = roles; cardinality = n }; puts = refl; makes = refl }

module _ (c : Command) (s : State) (kind : Separation) (set : Name) (is : IsPut c s kind set) where
  sets_are : sets_of kind (change c s) ≡ put name_cmp set is.new (sets_of kind s)
  sets_are = ap (sets_of kind) is.puts ∙ (sets_put kind (put name_cmp set is.new (sets_of kind s)) s).0

  new_there : find name_cmp set (sets_of kind (change c s)) ≡ Some is.new
  new_there = ap (find name_cmp set) sets_are ∙ put_there set is.new (sets_of kind s)

-- ---- The one precondition whose denial is told

-- those before it hold, and it fails
one_denied : (q : Denial → Bool) (ps qs : List Precondition) (p : Precondition) (d : Denial) → list_any (λ p. q p.denial) (ps ++ qs) ≡ false → leftmost (ps ++ p ∷ qs) ≡ Some d → q d ≡ true
    → (list_any (λ p. p.fails) ps ≡ false) × (p.fails ≡ true) × (p.denial ≡ d)
one_denied q [] qs p d none e one = last p.fails e
  where
    last : (b : Bool) → cond b (Some p.denial) (leftmost qs) ≡ Some d → (false ≡ false) × (b ≡ true) × (p.denial ≡ d)
    last true e = (refl, refl, (let same : p.denial ≡ d = cc in same))
    last false e = absurd (refuted q qs d none e one)
one_denied q (x ∷ ps) qs p d none e one =
    let parts = or_parts _ _ none in
    let holds = passed q x.fails x.denial _ d parts.0 one e in
    let rest = one_denied q ps qs p d parts.1 holds.1 one in
    (ap (λ b. b || list_any (λ (p : Precondition). p.fails) ps) holds.0 ∙ rest.0, rest.1, rest.2)

-- the preconditions before this place, and those after it
abbrev before : ℕ → Command → State → List Precondition
before n c s = take n (preconditions c s)

abbrev beyond : ℕ → Command → State → List Precondition
beyond n c s = drop (suc n) (preconditions c s)

-- ---- The commands that separation may deny

abbrev is_breach : Named → Bool
is_breach (a_breach kind holder set) = true
is_breach names = false

module _ (s : State) (h : IsSound s) (told : Separation) (holder set : Name) where
  -- the state after the command is broken, and tells by whom and what
  abbrev Names : Command → Separation → Type 0
  Names c kind = (is_violated kind (change c s) ≡ true) × (breach_of kind (change c s) ≡ a_breach told holder set)

  -- what a change gives the first that breaks a set, and the set
  breach_as : (c : Command) (kind : Separation) (first first_set : Name) → a_breach kind first first_set ≡ breach_of kind (change c s) → Names c kind
      → ((role : Name) → holds kind (change c s) first role ≡ (has name_cmp role (gained c s) || holds kind s first role))
      → find name_cmp first_set (sets_of kind (change c s)) ≡ changed_set c (find name_cmp first_set (sets_of kind s))
      → InOrder (sets_of kind (change c s)) → InOrder (change c s).sessions → IsBreach c s told holder set
  breach_as c kind first first_set is names gains makes sorted sessions =
      let broken = subst (OfBreach (λ k. IsBroken k (change c s))) (sym is) (breach_found kind (change c s) sorted sessions names.0) in
      subst (OfBreach (IsBreach c s)) (is ∙ names.1) (record { gains = gains; makes = makes; broken = broken })

  put_breach : (c : Command) (kind : Separation) (name : Name) → IsPut c s kind name → ((role : Name) → has name_cmp role (gained c s) ≡ false) → Names c kind
      → IsBreach c s told holder set
  put_breach c kind name is none names =
      let same = sets_put kind (put name_cmp name is.new (sets_of kind s)) s in
      let first = first_there kind s is.new (sym (put_violated kind name is.new s h) ∙ ap (is_violated kind) (sym is.puts) ∙ names.0) in
      breach_as c kind first.0 name ((put_named kind name is.new s h first.0 first.1).1 ∙ ap (breach_of kind) (sym is.puts)) names
      (λ role. ap (λ t. holds kind t first.0 role) is.puts ∙ same.2 first.0 role ∙ ap (λ b. b || holds kind s first.0 role) (sym (none role)))
      (new_there c s kind name is ∙ sym is.makes)
      (subst InOrder (sym (sets_are c s kind name is)) (sorted_put names_total name is.new (sets_of kind s) (sets_in_order kind s h)))
      (subst InOrder (sym (ap (λ (t : State). t.sessions) is.puts ∙ same.1)) h.in_order.sessions)

  kept : (o : Option RoleSet) → o ≡ option_map (λ x. x) o
  kept o = grind arith

  no_constraint : (b : Bool) (x y : Name) → is_breach (cond b (a_set Static x) (a_set Dynamic y)) ≡ false
  no_constraint b x y = grind arith

  pub told_breach : (c : Command) (d : Denial) → first_hindrance c s ≡ Some (record { denial = d; named = a_breach told holder set }) → IsBreach c s told holder set
  told_breach c d e = let parts = told_parts c s (record { denial = d; named = a_breach told holder set }) e in of c parts.0 parts.1
    where
      none : (c : Command) → list_any (λ p. is_breach (named c s p.denial)) (preconditions c s) ≡ false → first_denial c s ≡ Some d → named c s d ≡ a_breach told holder set → IsBreach c s told holder set
      none c others e names = absurd (refuted (λ x. is_breach (named c s x)) (preconditions c s) d others e (ap is_breach names))

      -- the precondition at this place is that separation is kept
      at : (c : Command) (kind : Separation) (n : ℕ) → first_denial c s ≡ Some d → named c s d ≡ a_breach told holder set
          → preconditions c s ≡ before n c s ++ (violation kind when is_violated kind (change c s)) ∷ beyond n c s
          → list_any (λ p. is_breach (named c s p.denial)) (before n c s ++ beyond n c s) ≡ false → named c s (violation kind) ≡ breach_of kind (change c s)
          → (list_any (λ p. p.fails) (before n c s) ≡ false) × Names c kind
      at c kind n e names is others is_named =
          let f = one_denied (λ d. is_breach (named c s d)) (before n c s) (beyond n c s) (violation kind when is_violated kind (change c s)) d others (ap leftmost (sym is) ∙ e) (ap is_breach names) in
          (f.0, (f.1, sym is_named ∙ ap (named c s) f.2 ∙ names))

      by_kind : (c : Separation → Command) → named (c Static) s denial.SsdViolated ≡ static_breach (change (c Static) s) → named (c Dynamic) s denial.DsdViolated ≡ dynamic_breach (change (c Dynamic) s)
          → (kind : Separation) → named (c kind) s (violation kind) ≡ breach_of kind (change (c kind) s)
      by_kind c static dynamic Static = static
      by_kind c static dynamic Dynamic = dynamic

      of : (c : Command) → first_denial c s ≡ Some d → named c s d ≡ a_breach told holder set → IsBreach c s told holder set
      of (AssignUser user role) e names =
          let f = at (AssignUser user role) Static 3 e names refl refl refl in
          let is : has name_cmp user s.users ≡ true = not_false _ (or_parts _ _ f.0).0 in
          breach_as (AssignUser user role) Static user (first_with s role user)
          (assignment_named user role s h is (sym (assigned_violated user role s h is) ∙ f.1.0)) f.1
          (λ r. user_gains user role s r ∙ ap (λ b. b || is_authorized s user r) (sym (has_junior s role r)))
          (kept _) h.separation.static_sets.in_order h.in_order.sessions
      of (AddInheritance a d) e names =
          let f = at (AddInheritance a d) Static 4 e names refl refl refl in
          let both = and_parts _ _ (not_false _ (or_parts _ _ f.0).0) in
          let breaks : Name → Bool = λ user. is_authorized s user a && breaks_with s d user in
          let user = any_first breaks s.users (sym (declared_violated a d s both.0 both.1 h) ∙ f.1.0) in
          let authorized = (and_parts _ _ (some_first breaks s.users user.0 user.1).0).0 in
          breach_as (AddInheritance a d) Static user.0 (first_with s d user.0) (pair_named a d s both.0 both.1 h user.0 user.1) f.1
          (λ r. pair_gains (is_authorized s user.0 a) _ _ _ _ (pair_gives a d s both.0 both.1 user.0 r) authorized (has_junior s d r))
          (kept _) h.separation.static_sets.in_order h.in_order.sessions
        where
          pair_gains : (a b i j now : Bool) → now ≡ (b || (a && i)) → a ≡ true → j ≡ i → now ≡ (j || b)
          pair_gains a b i j now gives is same = grind arith
      of (CreateSession user name roles) e names =
          let f = at (CreateSession user name roles) Dynamic 3 e names refl refl refl in
          let new : Session = record { owner = user; active = roles } in
          breach_as (CreateSession user name roles) Dynamic name (first_entry (is_broken roles) s.dynamic_sets)
          (session_named user name roles s h (sym (created_violated user name roles s h) ∙ f.1.0)) f.1
          (λ r. ap (λ o. has name_cmp r (active_in o)) (put_there name new s.sessions) ∙ unless r (find name_cmp name s.sessions) (or_parts _ _ (or_parts _ _ f.0).1).0)
          (kept _) h.separation.dynamic_sets.in_order (sorted_put names_total name new s.sessions h.in_order.sessions)
        where
          unless : (r : Name) (o : Option Session) → is_some o ≡ false → has name_cmp r roles ≡ (has name_cmp r roles || has name_cmp r (active_in o))
          unless r o e = grind arith
      of (AddActiveRole user name role) e names =
          let f = at (AddActiveRole user name role) Dynamic 6 e names refl refl refl in
          let x = some_of (find name_cmp name s.sessions) (or_parts _ _ (or_parts _ _ f.0).1).0 in
          let found = ap (find name_cmp name) (put_found name_cmp name (with_active role) s.sessions x.0 x.1) ∙ put_there name (with_active role x.0) s.sessions in
          let first = first_entry (is_broken (with_key name_cmp role x.0.active)) s.dynamic_sets in
          breach_as (AddActiveRole user name role) Dynamic name first
          (activation_named user name role x.0 s h x.1 (sym (activated_violated user name role x.0 s h x.1) ∙ f.1.0)) f.1
          (λ r. ap (λ o. has name_cmp r (active_in o)) found ∙ has-with_key names_total role x.0.active r ∙ more r x.0 (find name_cmp name s.sessions) x.1)
          (kept _) h.separation.dynamic_sets.in_order (sorted_updated names_total name (with_active role) s.sessions h.in_order.sessions)
        where
          more : (r : Name) (x : Session) (o : Option Session) → o ≡ Some x
              → (eq_by_cmp name_cmp r role || has name_cmp r x.active) ≡ ((eq_by_cmp name_cmp r role || false) || has name_cmp r (active_in o))
          more r x o is = grind arith
      of (CreateSet kind name roles n) e names =
          let f = at (CreateSet kind name roles n) kind 3 e names refl refl (by_kind (λ k. CreateSet k name roles n) refl refl kind) in
          put_breach (CreateSet kind name roles n) kind name (created kind name roles n s) (λ role. refl) f.1
      of (AddRoleMember kind name role) e names =
          let f = at (AddRoleMember kind name role) kind 3 e names refl refl (by_kind (λ k. AddRoleMember k name role) refl refl kind) in
          put_breach (AddRoleMember kind name role) kind name (put_changed (AddRoleMember kind name role) s kind name (or_parts _ _ f.0).0 refl refl) (λ role. refl) f.1
      of (SetCardinality kind name n) e names =
          let f = at (SetCardinality kind name n) kind 2 e names refl refl (by_kind (λ k. SetCardinality k name n) refl refl kind) in
          put_breach (SetCardinality kind name n) kind name (put_changed (SetCardinality kind name n) s kind name (or_parts _ _ f.0).0 refl refl) (λ role. refl) f.1
      of (DeleteRole role) e names = none (DeleteRole role) (ap (λ b. b || false) (no_constraint (is_constrained role s.static_sets) _ _)) e names
      of (ReviewCommand (AssignedUsers role)) e names = none (ReviewCommand (AssignedUsers role)) refl e names
      of (ReviewCommand review) e names = none (ReviewCommand review) refl e names
      of c e names = none c refl e names

-- ---- The commands that may size a set badly

abbrev is_size : Denial → Bool
is_size denial.BadCardinality = true
is_size d = false

pub record IsSized (c : Command) (s : State) (kind : Separation) (set : Name) : Type 0 where
  pub makes : find name_cmp set (sets_of kind (change c s)) ≡ changed_set c (find name_cmp set (sets_of kind s))
  pub role_set : RoleSet
  pub found : find name_cmp set (sets_of kind (change c s)) ≡ Some role_set
  pub bad : is_well_sized role_set ≡ false

module _ (s : State) (h : IsSound s) (told : Separation) (set : Name) where
  pub told_size : (c : Command) → first_hindrance c s ≡ Some (record { denial = denial.BadCardinality; named = a_set told set }) → IsSized c s told set
  told_size c e = let parts = told_parts c s (record { denial = denial.BadCardinality; named = a_set told set }) e in of c parts.0 parts.1
    where
      none : (c : Command) → list_any (λ p. is_size p.denial) (preconditions c s) ≡ false → first_denial c s ≡ Some denial.BadCardinality → IsSized c s told set
      none c others e = absurd (refuted is_size (preconditions c s) denial.BadCardinality others e refl)

      -- the precondition at this place is that the set is well sized, and the set that the command puts is the one that is named
      sized : (c : Command) (kind : Separation) (name : Name) (n : ℕ) → first_denial c s ≡ Some denial.BadCardinality → a_set kind name ≡ a_set told set
          → preconditions c s ≡ before n c s ++ (denial.BadCardinality when is_badly_sized kind (change c s)) ∷ beyond n c s
          → list_any (λ p. is_size p.denial) (before n c s ++ beyond n c s) ≡ false → (list_any (λ p. p.fails) (before n c s) ≡ false → IsPut c s kind name) → IsSized c s told set
      sized c kind name n e names place others puts =
          let f = one_denied is_size (before n c s) (beyond n c s) (denial.BadCardinality when is_badly_sized kind (change c s)) denial.BadCardinality others (ap leftmost (sym place) ∙ e) refl in
          let is = puts f.0 in
          let misfits : not (is_well_sized is.new) ≡ true = sym (put_sized kind name is.new s h) ∙ ap (is_badly_sized kind) (sym is.puts) ∙ f.1 in
          let there = new_there c s kind name is in
          subst (OfSet (IsSized c s)) names (record { makes = there ∙ sym is.makes; role_set = is.new; found = there; bad = grind arith })

      last : (kind : Separation) → (is_size (violation kind) || false) ≡ false
      last kind = grind arith

      of : (c : Command) → first_denial c s ≡ Some denial.BadCardinality → named c s denial.BadCardinality ≡ a_set told set → IsSized c s told set
      of (CreateSet kind name roles n) e names = sized (CreateSet kind name roles n) kind name 2 e names refl (last kind) (λ holds. created kind name roles n s)
      of (DeleteRoleMember kind name role) e names =
          sized (DeleteRoleMember kind name role) kind name 2 e names refl refl
          (λ holds. put_changed (DeleteRoleMember kind name role) s kind name (or_parts _ _ holds).0 refl refl)
      of (SetCardinality kind name n) e names =
          sized (SetCardinality kind name n) kind name 1 e names refl (last kind)
          (λ holds. put_changed (SetCardinality kind name n) s kind name (or_parts _ _ holds).0 refl refl)
      of (AddRoleMember kind name role) e names = none (AddRoleMember kind name role) (last kind) e
      of (ReviewCommand (AssignedUsers role)) e names = none (ReviewCommand (AssignedUsers role)) refl e
      of (ReviewCommand review) e names = none (ReviewCommand review) refl e
      of c e names = none c refl e

-- ---- The chain of a cycle

module _ (s : State) (h : IsSound s) (a d : Name) (inherited : inherits_in s d a ≡ true) where
  pub chain_leads : (chain : Chain) → LeadsTo s.declared (d ∷ []) (a ∷ []) chain → (chain.first ≡ d) × (chain.last ≡ a) × IsChain s.roles s.declared chain.first chain.rest.items chain.last
  chain_leads chain leads =
      let first : chain.first ≡ d = grind (arith, leads.first, names_exact chain.first d) in
      let last : chain.last ≡ a = grind (arith, leads.last, names_exact chain.last a) in
      let i = (inherits_iff s.roles s.declared d a).0 inherited in
      let is_first : has name_cmp chain.first s.roles ≡ true = subst (λ z. has name_cmp z s.roles ≡ true) (sym first) (chain_role s.roles s.declared d i.0 a i.1) in
      (first, last, chain_of_path s.roles s.declared h.references.declared chain.first chain.rest.items chain.last is_first leads.path)

  pub some_chain_leads : NoneLeads s.declared (d ∷ []) (a ∷ []) → ⊥
  some_chain_leads none =
      let i = (inherits_iff s.roles s.declared d a).0 inherited in
      false≢true (sym (none d i.0 a (or_left _ _ (ties_itself names_total d)) (path_of_chain s.roles s.declared d i.0 a i.1)) ∙ or_left _ _ (ties_itself names_total a))
