-- What a purge leaves.
use Rattle.std.proofs.Common.{List, [], ◌∷◌, Bool, true, false, cond, ◌≡◌, IsTrue, refl, ap}
use Rattle.std.specs.List.{list_all, filter}
use Rattle.std.proofs.lemmas.Bool.{and_parts}
use Rattle.rbac_terms.specs.Name.{Name}
use Rattle.rbac_terms.specs.State.{State, Session}
use Rattle.rbac_terms.specs.Authorization.{is_entitled, purge}

module _ {X : Type 0} (p : X → Bool) where
  all-filter : (xs : List X) → list_all p (filter p xs) ≡ true
  all-filter [] = refl
  all-filter (x ∷ xs) = go (p x) refl (all-filter xs)
    where
      go : (b : Bool) → p x ≡ b → list_all p (filter p xs) ≡ true → list_all p (cond b (x ∷ filter p xs) (filter p xs)) ≡ true
      go true e rest = rw e rest
      go false e rest = rest

  filter-kept : (xs : List X) → list_all p xs ≡ true → filter p xs ≡ xs
  filter-kept [] e = refl
  filter-kept (x ∷ xs) e = let both = and_parts (p x) (list_all p xs) e in rw both.0 (ap (λ l. x ∷ l) (filter-kept xs both.1))

pub purge-entitled : (s : State) → IsTrue (list_all (λ e. is_entitled (purge s) e.1) (purge s).sessions)
purge-entitled s = all-filter (λ (e : Name × Session). is_entitled s e.1) s.sessions

pub purge-unchanged : (s : State) → IsTrue (list_all (λ e. is_entitled s e.1) s.sessions) → purge s ≡ s
purge-unchanged s h = ap (λ (sessions : List (Name × Session)). let t : State = record s { sessions = sessions } in t) (filter-kept (λ (e : Name × Session). is_entitled s e.1) s.sessions h)
