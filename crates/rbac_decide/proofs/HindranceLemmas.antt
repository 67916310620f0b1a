-- What stands in the way of a command, and what denies it.
use Rattle.std.proofs.Common.{ℕ, ◌≡◌, Bool, true, false, not, List, [], ◌∷◌, Option, Some, None, Result, refl, arith}
use Rattle.rbac_decide.proofs.Common.{list_all, first_where, option_map, change, violation, Name, first_denial, State, Denial, Command, CreateSet}
use Rattle.rbac_decide.proofs.Common.{AddRoleMember, SetCardinality, Separation, Static, Dynamic, Named, told_by, named, hindrance_of, first_hindrance}
use Rattle.rbac_decide.proofs.Common.{breach_of, Denies}
use Rattle.rbac_decide.specs.declared.hindrance.Hindrance.{Hindrance as HindranceByReferences}

-- the denial of the first hindrance is the first denial
pub denial_of_hindrance : (c : Command) (s : State) (h : HindranceByReferences) → first_hindrance c s ≡ Some (told_by h) → first_denial c s ≡ Some h.denial
denial_of_hindrance c s h told = something (first_denial c s) told
  where
    something : (d : Option Denial) → option_map (hindrance_of c s) d ≡ Some (told_by h) → d ≡ Some h.denial
    something d e = grind arith

pub none_hinders : (c : Command) (s : State) → first_hindrance c s ≡ None → first_denial c s ≡ None
none_hinders c s told = nothing (first_denial c s) told
  where
    nothing : (d : Option Denial) → option_map (hindrance_of c s) d ≡ None → d ≡ None
    nothing d e = grind arith

-- a denial that is the same tells the same
pub denies_as : {A : Type 0} (fails : Bool) (d e : Denial) (names : Named) (r : Result A HindranceByReferences) → d ≡ e → Denies fails (record { denial = d; named = names }) r → Denies fails (record { denial = e; named = names }) r
denies_as fails d e names r same told = grind arith

-- ---- All of some names

pub all_where_none : (p : Name → Bool) (xs : List Name) → first_where (λ x. not (p x)) xs ≡ None → list_all p xs ≡ true
all_where_none p [] e = refl
all_where_none p (x ∷ xs) e = grind (arith, all_where_none p xs)

pub not_all_where_some : (p : Name → Bool) (xs : List Name) (y : Name) → first_where (λ x. not (p x)) xs ≡ Some y → list_all p xs ≡ false
not_all_where_some p [] y e = grind arith
not_all_where_some p (x ∷ xs) y e = grind (arith, not_all_where_some p xs y)

-- ---- What a set that is broken names, whatever its kind

pub creation_names : (kind : Separation) (set : Name) (roles : List Name) (n : ℕ) (s : State) → named (CreateSet kind set roles n) s (violation kind) ≡ breach_of kind (change (CreateSet kind set roles n) s)
creation_names Static set roles n s = refl
creation_names Dynamic set roles n s = refl

pub addition_names : (kind : Separation) (set role : Name) (s : State) → named (AddRoleMember kind set role) s (violation kind) ≡ breach_of kind (change (AddRoleMember kind set role) s)
addition_names Static set role s = refl
addition_names Dynamic set role s = refl

pub cardinality_names : (kind : Separation) (set : Name) (n : ℕ) (s : State) → named (SetCardinality kind set n) s (violation kind) ≡ breach_of kind (change (SetCardinality kind set n) s)
cardinality_names Static set n s = refl
cardinality_names Dynamic set n s = refl
