-- Numbers that are given at planned places, one after the other.
use Rattle.std.proofs.Common.{ℕ, zero, suc, ◌+◌, ◌<◌, ◌≤◌, List, [], ◌∷◌, ◌++◌, length, get_or, drop, All, min, true, cond, ◌&&◌, ◌≡◌, refl, sym, ap, subst, add-one, arith, ◌∙◌}
use Rattle.std.proofs.Math.Seq.{drop-cons}
use Rattle.std.proofs.lemmas.Bool.{or_left, or_right}
use Rattle.std.proofs.lemmas.List.{drop_all}
use Rattle.std.specs.FinMap.Entries.{find}
use Rattle.std.specs.List.{zip}
use Rattle.std.specs.Ordering.{eq_by_cmp}
use Rattle.sorted_keys.specs.Keys.{has}
use Rattle.rbac_terms.specs.Name.{Name, name_cmp}
use Rattle.sorted_keys.proofs.Ties.{ties_itself, ties_flip}
use Rattle.rbac_terms.proofs.NameLemmas.{names_total, names_exact}
use Rattle.rbac_separation.specs.Numbered.{names_of}
use Rattle.rbac_separation.proofs.NumberLemmas.{one_name}
use Rattle.rbac_separation.specs.Counts.{Counts, CountChange, with_number, with_numbers, row_changes, changes_of, IsPlaced, ArePlaced, HaveSamePlaces}

-- the next element, and the others
pub next_of : {X : Type 0} (xs : List X) (k : ℕ) (x : X) → k < length xs → x ≡ get_or xs k x → drop k xs ≡ x ∷ drop (k + 1) xs
next_of xs k x lt is = drop-cons xs k x lt ∙ (λ t. sym is t ∷ drop (sym (add-one k) t) xs)

-- ---- Places

-- the sets still have their places with one of the users
pub still_placed : (sets some users : List (Name × ℕ)) (before after : Counts) (k : ℕ) (user : Name × ℕ)
    → some ≡ sets → ArePlaced sets users before → HaveSamePlaces before after → k < length users → user ≡ get_or users k user → All (λ set. IsPlaced set user after) some
still_placed sets some users before after k user all placed same lt is = subst (All (λ set. IsPlaced set user after)) (sym all) (λ i d within.
    let was = subst (λ u. IsPlaced (get_or sets i d) u before) (sym is) (placed k user lt i d within) in
    record {
      of_set = ap (find name_cmp (get_or sets i d).0) same.sets ∙ was.of_set;
      of_user = ap (find name_cmp user.0) same.users ∙ was.of_user;
      within = omega (arith, same.widths user.1, was.within);
    })

-- ---- Numbers

-- numbers that are given one after the other
pub given_both : (xs ys : List CountChange) (n : Name → Name → ℕ) → with_numbers (xs ++ ys) n ≡ with_numbers ys (with_numbers xs n)
given_both [] ys n = refl
given_both (x ∷ xs) ys n = given_both xs ys (with_number x.set x.user x.number n)

none_left : {X Y : Type 0} (xs : List X) → ◌≡◌ {A = List (X × Y)} (zip xs []) []
none_left [] = refl
none_left (x ∷ xs) = refl

pub all_given : (sets : List (Name × ℕ)) (user : Name) (row : List ℕ) (k : ℕ) → min (length sets) (length row) ≤ k → row_changes (names_of (drop k sets)) user (drop k row) ≡ []
all_given sets user row k le = grind (arith, drop_all, none_left)

-- one row, and the others
pub one_row_given : (sets : List Name) (users : List (Name × ℕ)) (rows : List (List ℕ)) (k : ℕ) (user : Name × ℕ) (row : List ℕ) → k < length users → k < length rows → user ≡ get_or users k user → row ≡ get_or rows k row
    → (n : Name → Name → ℕ) → with_numbers (changes_of sets (names_of (drop k users)) (drop k rows)) n ≡ with_numbers (changes_of sets (names_of (drop (k + 1) users)) (drop (k + 1) rows)) (with_numbers (row_changes sets user.0 row) n)
one_row_given sets users rows k user row in_users in_rows is_user is_row n =
    (λ t. with_numbers (changes_of sets (names_of (next_of users k user in_users is_user t)) (next_of rows k row in_rows is_row t)) n)
    ∙ given_both (row_changes sets user.0 row) (changes_of sets (names_of (drop (k + 1) users)) (drop (k + 1) rows)) n

pub all_rows_given : (sets : List Name) (users : List (Name × ℕ)) (rows : List (List ℕ)) (k : ℕ) → min (length users) (length rows) ≤ k → changes_of sets (names_of (drop k users)) (drop k rows) ≡ []
all_rows_given sets users rows k le = grind (arith, drop_all, none_left)

-- ---- Numbers that are taken anew

-- the next of those that are left is one of them
pub has_next : (xs : List (Name × ℕ)) (k : ℕ) (x : Name × ℕ) → k < length xs → x ≡ get_or xs k x → has name_cmp x.0 (names_of xs) ≡ true
has_next [] k x lt is = absurd (omega arith)
has_next (y ∷ ys) zero x lt is = or_left _ _ (ap (λ z. eq_by_cmp name_cmp x.0 z.0) (sym is) ∙ ties_itself names_total x.0)
has_next (y ∷ ys) (suc k) x lt is = or_right _ _ (has_next ys k x (omega arith) is)

-- one of the sets that are left
pub one_renumbered : (count n m : Name → Name → ℕ) (set user : Name) (given : ℕ) (left rest : List Name)
    → m ≡ with_number set user given n → given ≡ count set user → left ≡ set ∷ rest → (s u : Name)
    → cond (has name_cmp s rest && eq_by_cmp name_cmp u user) (count s u) (m s u) ≡ cond (has name_cmp s left && eq_by_cmp name_cmp u user) (count s u) (n s u)
one_renumbered count n m set user given left rest made is next s u =
    let at : m s u ≡ with_number set user given n s u = λ t. made t s u in
    grind (arith, one_name s set, one_name u user, ties_flip names_total names_exact set s, ties_flip names_total names_exact user u)
