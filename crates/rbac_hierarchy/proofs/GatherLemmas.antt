-- Names that are gathered in a loop over numbered roles.
use Rattle.std.proofs.Common.{ℕ, zero, suc, ◌≡◌, ◌<◌, ◌≤◌, ◌+◌, Bool, true, false, ◌||◌, ◌&&◌, List, [], ◌∷◌, length, take, refl, sym, ap, ◌∙◌, ⊎_elim, arith}
use Rattle.std.proofs.lemmas.Bool.{cases_lt}
use Rattle.std.specs.Ordering.{eq_by_cmp}
use Rattle.std.proofs.lemmas.List.{take_more, take_all}
use Rattle.sorted_keys.specs.Keys.{has, with_key}
use Rattle.sorted_keys.proofs.Members.{has-with_key}
use Rattle.rbac_terms.specs.Name.{Name, name_cmp}
use Rattle.sorted_keys.proofs.Ties.{one_key}
use Rattle.rbac_terms.proofs.NameLemmas.{names_total, names_exact}
use Rattle.rbac_hierarchy.specs.Numbers.{role_at}
use Rattle.rbac_hierarchy.proofs.Kept.{any-append}

pub gather_none : (a b : Bool) → a ≡ (a || (b && false))
gather_none true b = refl
gather_none false true = refl
gather_none false false = refl

module _ (names roles : List Name) (p : Name → Bool) (at : ℕ) (lt : at < length roles) where
  -- the roles up to one more
  one_more_role : (r : Name) → has name_cmp r (take (at + 1) roles) ≡ (has name_cmp r (take at roles) || (eq_by_cmp name_cmp r (role_at roles at) || false))
  one_more_role r = ap (has name_cmp r) (take_more roles at [] lt) ∙ any-append (eq_by_cmp name_cmp r) (take at roles) (role_at roles at ∷ [])

  same_test : (r : Name) → eq_by_cmp name_cmp r (role_at roles at) ≡ true → p r ≡ p (role_at roles at)
  same_test r e = ap p (one_key names_exact r (role_at roles at) e)

  pub gather_passed : p (role_at roles at) ≡ true → (more : List Name) (r : Name) → has name_cmp r more ≡ (has name_cmp r names || (p r && has name_cmp r (take at roles)))
      → has name_cmp r (with_key name_cmp (role_at roles at) more) ≡ (has name_cmp r names || (p r && has name_cmp r (take (at + 1) roles)))
  gather_passed passes more r so_far =
      has-with_key names_total (role_at roles at) more r
      ∙ ap (λ b. eq_by_cmp name_cmp r (role_at roles at) || b) so_far
      ∙ step (eq_by_cmp name_cmp r (role_at roles at)) (p r) (has name_cmp r names) (has name_cmp r (take at roles)) (λ e. same_test r e ∙ passes)
      ∙ ap (λ b. has name_cmp r names || (p r && b)) (sym (one_more_role r))
    where
      step : (e q n t : Bool) → (e ≡ true → q ≡ true) → (e || (n || (q && t))) ≡ (n || (q && (t || (e || false))))
      step true q n t passes = (λ i. true) ∙ sym (ap (λ q. n || (q && (t || true))) (passes refl) ∙ whole n t)
        where
          whole : (n t : Bool) → (n || (true && (t || true))) ≡ true
          whole true t = refl
          whole false true = refl
          whole false false = refl
      step false q n t passes = ap (λ b. n || (q && b)) (nothing t)
        where
          nothing : (t : Bool) → t ≡ (t || false)
          nothing true = refl
          nothing false = refl

  pub gather_failed : p (role_at roles at) ≡ false → (more : List Name) (r : Name) → has name_cmp r more ≡ (has name_cmp r names || (p r && has name_cmp r (take at roles)))
      → has name_cmp r more ≡ (has name_cmp r names || (p r && has name_cmp r (take (at + 1) roles)))
  gather_failed fails more r so_far =
      so_far ∙ step (eq_by_cmp name_cmp r (role_at roles at)) (p r) (has name_cmp r names) (has name_cmp r (take at roles)) (λ e. same_test r e ∙ fails)
      ∙ ap (λ b. has name_cmp r names || (p r && b)) (sym (one_more_role r))
    where
      step : (e q n t : Bool) → (e ≡ true → q ≡ false) → (n || (q && t)) ≡ (n || (q && (t || (e || false))))
      step true q n t fails = ap (λ q. n || (q && t)) (fails refl) ∙ sym (ap (λ q. n || (q && (t || true))) (fails refl))
      step false q n t fails = ap (λ b. n || (q && b)) (nothing t)
        where
          nothing : (t : Bool) → t ≡ (t || false)
          nothing true = refl
          nothing false = refl

-- so many roles from one on of which none passes
pub gather_failed_all : (names roles : List Name) (p : Name → Bool) (at k : ℕ) → ((i : ℕ) → at ≤ i → i < at + k → i < length roles → p (role_at roles i) ≡ false)
    → (more : List Name) (r : Name) → has name_cmp r more ≡ (has name_cmp r names || (p r && has name_cmp r (take at roles)))
    → has name_cmp r more ≡ (has name_cmp r names || (p r && has name_cmp r (take (at + k) roles)))
gather_failed_all names roles p at zero fail more r so_far =
    let same : at ≡ at + 0 = omega arith in
    so_far ∙ ap (λ (n : ℕ). has name_cmp r names || (p r && has name_cmp r (take n roles))) same
gather_failed_all names roles p at (suc k) fail more r so_far =
    let before : has name_cmp r more ≡ (has name_cmp r names || (p r && has name_cmp r (take (at + k) roles)))
    = gather_failed_all names roles p at k (λ i from below lt. fail i from (omega (arith, below)) lt) more r so_far in
    let one : at + k + 1 ≡ at + suc k = omega arith in
    ⊎_elim
    (λ (lt : at + k < length roles).
    gather_failed names roles p (at + k) lt (fail (at + k) (omega arith) (omega arith) lt) more r before
    ∙ ap (λ (n : ℕ). has name_cmp r names || (p r && has name_cmp r (take n roles))) one)
    (λ (past : length roles ≤ at + k). before ∙ ap (λ (l : List Name). has name_cmp r names || (p r && has name_cmp r l)) (take_all (at + k) roles past ∙ sym (take_all (at + suc k) roles (omega (arith, past)))))
    (cases_lt (at + k) (length roles))

pub gathered : (roles : List Name) (at : ℕ) (r : Name) → length roles ≤ at → has name_cmp r (take at roles) ≡ has name_cmp r roles
gathered roles at r past = ap (has name_cmp r) (take_all at roles past)
