-- What is found at places of rows after they change.
use Rattle.std.proofs.Common.{ℕ, ◌≡◌, ◌≢◌, ◌<◌, true, cond, ◌&&◌, ◌==◌, List, [], ◌∷◌, length, get_or, slice_set, Some, None, arith}
use Rattle.std.proofs.lemmas.Bool.{cases_eq}
use Rattle.std.proofs.lemmas.Bool.Decides.{nat_tests}
use Rattle.std.proofs.lemmas.Grind.{get_or-set_at}
use Rattle.std.proofs.lemmas.List.{get_or-set_other, get_or_past, get_or_default}
use Rattle.std.specs.Ordering.{eq_by_cmp}
use Rattle.std.specs.FinMap.Entries.{find}
use Rattle.sorted_keys.specs.Keys.{has}
use Rattle.sorted_keys.proofs.Ties.{ties_flip}
use Rattle.rbac_terms.specs.Name.{Name, name_cmp}
use Rattle.rbac_terms.proofs.NameLemmas.{names_total, names_exact}
use Rattle.rbac_separation.specs.Counts.{Counts, IsKept, IsPlaced, number_in, numbers_of, with_number, without_set, without_user}
use Rattle.rbac_separation.specs.Numbered.{IsMore}
use Rattle.rbac_separation.proofs.NumberLemmas.{one_name}

abbrev pub Numbers : Type 0
Numbers = Name → Name → ℕ

-- numbers that are the same for each set and user are the same
pub everywhere : {f g : Numbers} → ((s u : Name) → f s u ≡ g s u) → f ≡ g
everywhere same = λ t s u. same s u t

-- each number is one name's
abbrev pub AreOwn : List (Name × ℕ) → Type 0
AreOwn names = (a b : Name) (n : ℕ) → find name_cmp a names ≡ Some n → find name_cmp b names ≡ Some n → eq_by_cmp name_cmp a b ≡ true

-- ---- Rows

-- another number at a place of a row
pub number_set : (rows : List (List ℕ)) (j i n : ℕ) (row : List ℕ) → row ≡ get_or rows j row → i < length (get_or rows j [])
    → (k l : ℕ) → number_in (slice_set rows j (slice_set row i n)) k l ≡ cond (i == k && j == l) n (number_in rows k l)
number_set rows j i n row is within k l = grind (arith, nat_tests, get_or-set_at, get_or-set_other, get_or_past, get_or_default)

-- ---- A number of a set and a user

-- another number at the place of a set and a user
module _ (inside now : Counts) (is : inside ≡ now) (set user : Name × ℕ) (n : ℕ) (row new : List ℕ) (placed : IsPlaced set user now)
    (row_is : row ≡ get_or inside.rows user.1 row) (made : new ≡ slice_set row set.1 n) where
  changed : (k l : ℕ) → number_in (slice_set inside.rows user.1 new) k l ≡ cond (set.1 == k && user.1 == l) n (number_in inside.rows k l)
  changed k l = grind (arith, number_set inside.rows user.1 set.1 n row row_is)

  pub set_numbers : AreOwn inside.sets → AreOwn inside.users → numbers_of (record inside { rows = slice_set inside.rows user.1 new }) ≡ with_number set.0 user.0 n (numbers_of now)
  set_numbers own_sets own_users = everywhere (λ s u. grind (arith, nat_tests, one_name set.0 s, one_name user.0 u, own_sets set.0 s set.1, own_users user.0 u user.1, changed))

  pub set_kept : IsKept inside.sets inside.users inside.rows → IsKept inside.sets inside.users (slice_set inside.rows user.1 new)
  set_kept kept = record {
    of_sets = λ k free l. grind (arith, nat_tests, changed k l, kept.of_sets k free l, free set.0);
    of_users = λ l free k. grind (arith, nat_tests, changed k l, kept.of_users l free k, free user.0);
  }

-- 0 for a set and a user that have none
pub none_put : (numbers : Numbers) (set user : Name) (n : ℕ) → numbers set user ≡ 0 → n ≡ 0 → numbers ≡ with_number set user n numbers
none_put numbers set user n none is = everywhere (λ s u. grind (arith, one_name set s, one_name user u))

-- another number for each of one set and of one user is one for both
pub one_given : (set user : Name) (n : ℕ) (sets users : List Name) (first before after : Numbers) → sets ≡ set ∷ [] → users ≡ user ∷ [] → before ≡ first
    → ((s u : Name) → after s u ≡ cond (has name_cmp s sets && has name_cmp u users) n (before s u)) → after ≡ with_number set user n first
one_given set user n sets users first before after one_set one_user same given = everywhere (λ s u.
    let at : before s u ≡ first s u = λ t. same t s u in
    grind (arith, given s u, ties_flip names_total names_exact s set, ties_flip names_total names_exact u user))

-- ---- Names that have numbers that had none

module _ (sets users more_sets more_users : List (Name × ℕ)) (rows : List (List ℕ)) (a : IsMore sets more_sets) (b : IsMore users more_users) (kept : IsKept sets users rows) where
  pub more_kept : IsKept more_sets more_users rows
  more_kept = record {
    of_sets = λ i free. kept.of_sets i (λ x is. free x (a.kept x i is));
    of_users = λ j free. kept.of_users j (λ x is. free x (b.kept x j is));
  }

  -- names that have numbers now change no number of a set and a user
  pub more_numbers : numbers_of (record { sets = more_sets; users = more_users; rows = rows }) ≡ numbers_of (record { sets = sets; users = users; rows = rows })
  more_numbers = everywhere (λ s u. grind (arith, a.kept s, b.kept u, no_set s, no_user u))
    where
      no_set : (s : Name) (i : ℕ) → find name_cmp s sets ≡ None → find name_cmp s more_sets ≡ Some i → (j : ℕ) → number_in rows i j ≡ 0
      no_set s i none is = kept.of_sets i (a.fresh s i none is)

      no_user : (u : Name) (j : ℕ) → find name_cmp u users ≡ None → find name_cmp u more_users ≡ Some j → (i : ℕ) → number_in rows i j ≡ 0
      no_user u j none is = kept.of_users j (b.fresh u j none is)

-- ---- A name fewer

-- a set or a user without numbers has none to lose
pub no_set : (seen : Counts) (set : Name) → find name_cmp set seen.sets ≡ None → numbers_of seen ≡ without_set set (numbers_of seen)
no_set seen set none = everywhere (λ s u. grind (arith, one_name set s))

pub no_user : (seen : Counts) (user : Name) → find name_cmp user seen.users ≡ None → numbers_of seen ≡ without_user user (numbers_of seen)
no_user seen user none = everywhere (λ s u. grind (arith, one_name user u))

abbrev IsLeft : Name → List (Name × ℕ) → List (Name × ℕ) → Type 0
IsLeft name es left = (x : Name) → find name_cmp x left ≡ cond (eq_by_cmp name_cmp x name) None (find name_cmp x es)

-- a number that no name that is left has was the one that is given back, or no name's
free_left : (es left : List (Name × ℕ)) (name : Name) (n i : ℕ) → find name_cmp name es ≡ Some n → IsLeft name es left → n ≢ i
    → ((x : Name) → find name_cmp x left ≡ Some i → ⊥) → (x : Name) → find name_cmp x es ≡ Some i → ⊥
free_left es left name n i found gone other free x is = grind (arith, gone x, one_name x name, free x)

-- a name fewer among the sets, or the users, where 0 stands at its number
module _ (inside now : Counts) (is : inside ≡ now) (left : List (Name × ℕ)) (less : List (List ℕ)) (name : Name) (n : ℕ) where
  module _ (leaves : (i j : ℕ) → number_in less i j ≡ cond (n == i) 0 (number_in inside.rows i j))
      (found : find name_cmp name inside.sets ≡ Some n) (gone : IsLeft name inside.sets left) where
    pub set_gone : AreOwn inside.sets → numbers_of (record inside { sets = left; rows = less }) ≡ without_set name (numbers_of now)
    set_gone own = everywhere (λ s u. grind (arith, nat_tests, leaves, own name s n, gone s, one_name name s, ties_flip names_total names_exact s name))

    pub set_gone_kept : IsKept inside.sets inside.users inside.rows → IsKept left inside.users less
    set_gone_kept kept = record {
      of_sets = λ i free j. grind (arith, nat_tests, leaves i j, cases_eq n i, λ (other : n ≢ i). kept.of_sets i (free_left inside.sets left name n i found gone other free) j);
      of_users = λ j free i. grind (arith, leaves i j, kept.of_users j free i);
    }

  module _ (leaves : (i j : ℕ) → number_in less i j ≡ cond (n == j) 0 (number_in inside.rows i j))
      (found : find name_cmp name inside.users ≡ Some n) (gone : IsLeft name inside.users left) where
    pub user_gone : AreOwn inside.users → numbers_of (record inside { users = left; rows = less }) ≡ without_user name (numbers_of now)
    user_gone own = everywhere (λ s u. grind (arith, nat_tests, leaves, own name u n, gone u, one_name name u, ties_flip names_total names_exact u name))

    pub user_gone_kept : IsKept inside.sets inside.users inside.rows → IsKept inside.sets left less
    user_gone_kept kept = record {
      of_sets = λ i free j. grind (arith, leaves i j, kept.of_sets i free j);
      of_users = λ j free i. grind (arith, nat_tests, leaves i j, cases_eq n j, λ (other : n ≢ j). kept.of_users j (free_left inside.users left name n j found gone other free) i);
    }
