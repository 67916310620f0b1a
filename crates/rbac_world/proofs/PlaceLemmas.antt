-- The member at a place of a list, and of a list in two parts.
use Rattle.std.proofs.Common.{ℕ, zero, suc, Bool, true, ◌≡◌, ◌<◌, ◌-◌, List, [], ◌∷◌, ◌++◌, length, get_or, set, Result, refl, sym, ap, subst, ◌∙◌, arith}
use Rattle.std.specs.List.{list_all}
use Rattle.std.proofs.lemmas.List.{get_or_default, set-append_left, set-append_right, get_or_append_left, get_or-append_right}
use Rattle.rbac_words.specs.Keeping.Member.{Member}
use Rattle.rbac_words.specs.Keeping.Members.{no_member, member_at}
use Rattle.rbac_words.specs.declared.event.Outcome.{Outcome}
use Rattle.rbac_words.specs.declared.event.Refusal.{Refusal}
use Rattle.rbac_order.proofs.StepLemmas.{and_both}
use Rattle.rbac_world.specs.Moves.{Move, IsMoved, IsMovedAt, receipt_of}

-- ---- A list in two parts

in_front : {X : Type 0} (xs front back : List X) (i : ℕ) (u d : X) → xs ≡ front ++ back → i < length front → get_or front i u ≡ get_or xs i d
in_front xs front back i u d e h = get_or_default front i u d h ∙ sym (get_or_append_left front back d i h) ∙ ap (λ l. get_or l i d) (sym e)

in_back : {X : Type 0} (xs front back : List X) (i : ℕ) (u d : X) → xs ≡ front ++ back → length front ≡ i → 0 < length back → get_or back 0 u ≡ get_or xs i d
in_back xs front back i u d e h l =
    get_or_default back 0 u d l
    ∙ sym (get_or-append_right front back i i d h (omega arith) ∙ ap (λ n. get_or back n d) (let z : i - i ≡ 0 = omega arith in z)) ∙ ap (λ ys. get_or ys i d) (sym e)

set_front : {X : Type 0} (xs front back : List X) (i : ℕ) (v : X) → xs ≡ front ++ back → i < length front → set front i v ++ back ≡ set xs i v
set_front xs front back i v e h = sym (set-append_left front back i v h) ∙ ap (λ l. set l i v) (sym e)

set_back : {X : Type 0} (xs front back : List X) (i : ℕ) (v : X) → xs ≡ front ++ back → length front ≡ i → front ++ set back 0 v ≡ set xs i v
set_back xs front back i v e h =
    sym (set-append_right front back i i v h (omega arith) ∙ ap (λ n. front ++ set back n v) (let z : i - i ≡ 0 = omega arith in z)) ∙ ap (λ l. set l i v) (sym e)

-- ---- A move of the member at a place

pub moved_at : (m : Member → Move) (ms : List Member) (i : ℕ) (u : Member) (result : Result Outcome Refusal) (after : Member) → i < length ms
    → IsMoved (m (get_or ms i u)) (get_or ms i u) result after → IsMovedAt i (m (member_at ms i)) ms result (set ms i after)
moved_at m ms i u result after h moved = record { after = after; is_moved = subst (λ v. IsMoved (m v) v result after) (get_or_default ms i u no_member h) moved; changed = refl }

pub moved_in_front : (ms front back : List Member) (i j n : ℕ) (u v : Member) (result : Result Outcome Refusal) (after : Member) → ms ≡ front ++ back → i < length front → length front ≡ j → 0 < length back
    → IsMoved (receipt_of (get_or front i u) (get_or back 0 v) n) (get_or front i u) result after → IsMovedAt i (receipt_of (member_at ms i) (member_at ms j) n) ms result (set front i after ++ back)
moved_in_front ms front back i j n u v result after e h l k moved = record {
  after = after;
  is_moved = subst (λ z. IsMoved (receipt_of z (member_at ms j) n) z result after) (in_front ms front back i u no_member e h)
      (subst (λ z. IsMoved (receipt_of (get_or front i u) z n) (get_or front i u) result after) (in_back ms front back j v no_member e l k) moved);
  changed = set_front ms front back i after e h;
}

pub moved_in_back : (ms front back : List Member) (i j n : ℕ) (u v : Member) (result : Result Outcome Refusal) (after : Member) → ms ≡ front ++ back → j < length front → length front ≡ i → 0 < length back
    → IsMoved (receipt_of (get_or back 0 u) (get_or front j v) n) (get_or back 0 u) result after → IsMovedAt i (receipt_of (member_at ms i) (member_at ms j) n) ms result (front ++ set back 0 after)
moved_in_back ms front back i j n u v result after e h l k moved = record {
  after = after;
  is_moved = subst (λ z. IsMoved (receipt_of z (member_at ms j) n) z result after) (in_back ms front back i u no_member e l k)
      (subst (λ z. IsMoved (receipt_of (get_or back 0 u) z n) (get_or back 0 u) result after) (in_front ms front back j v no_member e h) moved);
  changed = set_back ms front back i after e l;
}

-- ---- A test of all

pub each_of_all : {X : Type 0} (p : X → Bool) (xs : List X) (d : X) → list_all p xs ≡ true → (i : ℕ) → i < length xs → p (get_or xs i d) ≡ true
each_of_all p [] d e i h = absurd (let no : ⊥ = omega arith in no)
each_of_all p (x ∷ xs) d e zero h = (and_both (p x) (list_all p xs) e).0
each_of_all p (x ∷ xs) d e (suc i) h = each_of_all p xs d (and_both (p x) (list_all p xs) e).1 i (omega arith)

pub all_of_each : {X : Type 0} (p : X → Bool) (xs : List X) (d : X) → ((i : ℕ) → i < length xs → p (get_or xs i d) ≡ true) → list_all p xs ≡ true
all_of_each p [] d f = refl
all_of_each p (x ∷ xs) d f = rw (f 0 (omega arith)) (all_of_each p xs d (λ i h. f (suc i) (omega arith)))
