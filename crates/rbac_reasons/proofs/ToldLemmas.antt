-- What the first hindrance of a command tells of its preconditions.
use Rattle.std.proofs.Common.{◌≡◌, Bool, true, false, not, cond, ◌||◌, List, [], ◌∷◌, Option, Some, None, refl, arith}
use Rattle.std.proofs.lemmas.Bool.{false≢true}
use Rattle.std.specs.List.{list_any, find as first_where}
use Rattle.std.specs.Option.{option_map}
use Rattle.rbac_terms.specs.State.{State}
use Rattle.rbac_terms.specs.Rows.{Precondition, leftmost, first_denial}
use Rattle.rbac_terms.specs.declared.command.Command.{Command}
use Rattle.rbac_terms.specs.declared.answer.Denial.{Denial}
use Rattle.rbac_decide.specs.Hindrance.{Hindrance, named, hindrance_of, first_hindrance}

-- the first hindrance is the first denial, with what that names
pub told_parts : (c : Command) (s : State) (h : Hindrance) → first_hindrance c s ≡ Some h → (first_denial c s ≡ Some h.denial) × (named c s h.denial ≡ h.named)
told_parts c s h e = go (first_denial c s) e
  where
    go : (o : Option Denial) → option_map (hindrance_of c s) o ≡ Some h → (o ≡ Some h.denial) × (named c s h.denial ≡ h.named)
    go o e = (grind arith, grind arith)

-- ---- Preconditions one after the other

-- the first denial is that of a precondition
pub refuted : (q : Denial → Bool) (ps : List Precondition) (d : Denial) → list_any (λ p. q p.denial) ps ≡ false → leftmost ps ≡ Some d → q d ≡ true → ⊥
refuted q [] d none e one = grind arith
refuted q (p ∷ ps) d none e one = grind (arith, refuted q ps d)

-- a precondition whose denial is none of these holds
pub passed : (q : Denial → Bool) (b : Bool) (x : Denial) (rest : Option Denial) (d : Denial) → q x ≡ false → q d ≡ true → cond b (Some x) rest ≡ Some d → (b ≡ false) × (rest ≡ Some d)
passed q true x rest d other one e = absurd (let same : x ≡ d = cc in grind arith)
passed q false x rest d other one e = (refl, e)

-- the last one that is left fails
pub failed : (b : Bool) (x d : Denial) → cond b (Some x) None ≡ Some d → (b ≡ true) × (d ≡ x)
failed true x d e = (refl, (cc))
failed false x d e = absurd (cc)

pub not_false : (b : Bool) → not b ≡ false → b ≡ true
not_false b e = grind arith

-- ---- The first that passes

module _ {X : Type 0} (p : X → Bool) where
  pub any_first : (xs : List X) → list_any p xs ≡ true → (x : X) × (first_where p xs ≡ Some x)
  any_first [] e = absurd (false≢true e)
  any_first (x ∷ xs) e = elim (p x) as (λ b. (b || list_any p xs) ≡ true → (y : X) × (cond b (Some x) (first_where p xs) ≡ Some y)) [
    | true ↦ λ e. (x, refl)
    | false ↦ any_first xs
  ] e
