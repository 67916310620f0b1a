-- The loops that gather what users come to.
use Rattle.std.proofs.Common.{ℕ, zero, suc, ◌+◌, ◌<◌, List, [], ◌∷◌, ◌++◌, length, get_or, take, drop, append_assoc, map, All, count_by, nat_le, slice_get, Bool, true, false, not, cond, ◌||◌, ◌&&◌, ◌≡◌, ◌==◌, Option, Some, None, IfSome, IfNone, refl, sym, ap, ◌∙◌, arith, filter}
use Rattle.rbac_decide.proofs.Common.{find, list_any, filter_map, first_where, unwrap_or, is_eq, has, Name, name_cmp, RoleSet, Counts, numbers_of, at_place}
use Rattle.rbac_decide.proofs.Common.{changes_of, names_of, authorized_by, cut_to, touches, touched_sets, entry_of, number_with, reaches, count_with}
use Rattle.rbac_decide.proofs.Common.{counts_with, breaks_touched, Named, Tells, CountedSet, NamedByReferences, Tables, nil_from_length, sum_by-cons}
use Rattle.rbac_decide.proofs.Common.{slice_get-map, one_key, names_exact, one_more}
use Rattle.std.proofs.lemmas.Grind.{common_steps}
use Rattle.std.proofs.lemmas.List.{append-nil}
use Rattle.std.proofs.lemmas.List.Elements.{filter-append, filter_map-append}
use Rattle.std.specs.declared.cmp.Ordering.TheVariants.{Equal}
use Rattle.rbac_decide.proofs.CountingLemmas.{dropped}

-- ---- Places of names

-- a name that stands at a place
pub found_there : (xs : List Name) (i : ℕ) (x : Name) → i < length xs → ((d : Name) → name_cmp (get_or xs i d) x ≡ Equal) → slice_get xs i ≡ Some x
found_there [] i x lt same = absurd (omega arith)
found_there (y ∷ ys) zero x lt same = ap (λ z. Some z) (one_key names_exact y x (ap is_eq (same y)))
found_there (y ∷ ys) (suc i) x lt same = found_there ys i x (omega arith) same

-- one name more, where it is among the others, and where it is not
module _ (names among : List Name) (i : ℕ) (x : Name) (lt : i < length names) (is : x ≡ get_or names i x) (places : List ℕ)
    (so_far : filter_map (slice_get among) places ≡ filter (λ r. has name_cmp r among) (take i names)) where
  pub placed_more : (place : ℕ) → slice_get among place ≡ Some x → has name_cmp x among ≡ true → filter_map (slice_get among) (places ++ place ∷ []) ≡ filter (λ r. has name_cmp r among) (take (i + 1) names)
  placed_more place found there =
      let more = one_more names i x lt is in
      let kept = filter-append (λ r. has name_cmp r among) (take i names) (x ∷ []) in
      let placed = filter_map-append (slice_get among) places (place ∷ []) in
      grind arith

  pub placed_none : has name_cmp x among ≡ false → filter_map (slice_get among) places ≡ filter (λ r. has name_cmp r among) (take (i + 1) names)
  placed_none absent =
      let more = one_more names i x lt is in
      let kept = filter-append (λ r. has name_cmp r among) (take i names) (x ∷ []) in
      grind (arith, append-nil)

-- ---- The number of a set

-- how many of the roles at these places pass
count_at : (passes : Name → Bool) (roles : List Name) (places : List ℕ)
    → count_by (λ k. unwrap_or (slice_get (map passes roles) k) false) places ≡ count_by passes (filter_map (slice_get roles) places)
count_at passes roles [] = refl
count_at passes roles (k ∷ ks) =
    let at = slice_get-map passes roles k in
    let first = sum_by-cons (λ k. cond (unwrap_or (slice_get (map passes roles) k) false) 1 0) k ks in
    let one : (r : Name) → count_by passes (r ∷ filter_map (slice_get roles) ks) ≡ cond {A = ℕ} (passes r) 1 0 + count_by passes (filter_map (slice_get roles) ks) = λ r. sum_by-cons (λ x. cond (passes x) 1 0) r (filter_map (slice_get roles) ks) in
    grind (arith, count_at passes roles ks)

-- in a user's row with what is new to the user
module _ (t : Tables) (counts : Counts) (user : Name) (roles : List Name) (row : List ℕ) (fresh : List Bool)
    (in_row : (set : Name) → numbers_of counts set user ≡ at_place row (find name_cmp set counts.sets)) (are : fresh ≡ map (λ r. not (authorized_by t user r)) roles) where
  one_number : (set : CountedSet) → set.place ≡ find name_cmp set.set counts.sets → number_with row fresh set ≡ count_with t counts user (entry_of roles set)
  one_number set place =
      (λ i. (ap (at_place row) place ∙ sym (in_row set.set)) i + count_by (λ k. unwrap_or (slice_get (are i) k) false) set.roles.items)
      ∙ ap (λ n. numbers_of counts set.set user + n) (count_at (λ r. not (authorized_by t user r)) roles set.roles.items)

  pub row_is : (sets : List CountedSet) → All (λ set. set.place ≡ find name_cmp set.set counts.sets) sets → map (number_with row fresh) sets ≡ counts_with t counts (map (entry_of roles) sets) user
  row_is [] places = refl
  row_is (x ∷ xs) places = λ i. one_number x (places 0 x (omega arith)) i ∷ row_is xs (λ k d lt. places (suc k) d (omega arith)) i

  pub breaks_are : (sets : List CountedSet) → All (λ set. set.place ≡ find name_cmp set.set counts.sets) sets → list_any (reaches row fresh) sets ≡ breaks_touched t counts (map (entry_of roles) sets) user
  breaks_are [] places = refl
  breaks_are (x ∷ xs) places = λ i. nat_le x.cardinality (one_number x (places 0 x (omega arith)) i) || breaks_are xs (λ k d lt. places (suc k) d (omega arith)) i

-- a set that was cut to the roles has none of others
pub cut_twice : (roles : List Name) (sets : List (Name × RoleSet)) → map {B = Name × RoleSet} (λ e. (e.0, cut_to roles e.1)) (touched_sets roles sets) ≡ touched_sets roles sets
cut_twice roles sets = go (filter (λ e. touches roles (Some e.1)) sets)
  where
    kept : (xs : List Name) → filter (λ r. has name_cmp r roles) (filter (λ r. has name_cmp r roles) xs) ≡ filter (λ r. has name_cmp r roles) xs
    kept [] = refl
    kept (x ∷ xs) = grind (arith, kept xs)

    go : (es : List (Name × RoleSet)) → map {B = Name × RoleSet} (λ e. (e.0, cut_to roles e.1)) (map {B = Name × RoleSet} (λ e. (e.0, cut_to roles e.1)) es) ≡ map {B = Name × RoleSet} (λ e. (e.0, cut_to roles e.1)) es
    go [] = refl
    go (e ∷ es) = λ i. (e.0, record { roles = kept e.1.roles i; cardinality = e.1.cardinality }) ∷ go es i

-- ---- The users

-- one of those that pass more, and one that does not
module _ {X : Type 0} (p : Name → Bool) (f : Name → X) (users : List Name) (i : ℕ) (x : Name) (lt : i < length users) (is : x ≡ get_or users i x) (so_far all : List X)
    (told : so_far ++ map f (filter p (drop i users)) ≡ all) where
  pub user_told : p x ≡ true → (so_far ++ f x ∷ []) ++ map f (filter p (drop (i + 1) users)) ≡ all
  user_told some = let next = dropped users i x lt is in grind (arith, append_assoc)

  pub user_passed : p x ≡ false → so_far ++ map f (filter p (drop (i + 1) users)) ≡ all
  user_passed none = let next = dropped users i x lt is in grind arith

-- the first of the rest, where the next does not pass, and where it does
pub first_later : (p : Name → Bool) (users : List Name) (i : ℕ) (x : Name) → i < length users → x ≡ get_or users i x → p x ≡ false → first_where p (drop i users) ≡ first_where p (drop (i + 1) users)
first_later p users i x lt is none = ap (first_where p) (dropped users i x lt is) ∙ ap (λ b. cond b (Some x) (first_where p (drop (i + 1) users))) none

pub first_here : (p : Name → Bool) (users : List Name) (i : ℕ) (x : Name) → i < length users → x ≡ get_or users i x → p x ≡ true → first_where p (drop i users) ≡ Some x
first_here p users i x lt is some = ap (first_where p) (dropped users i x lt is) ∙ ap (λ b. cond b (Some x) (first_where p (drop (i + 1) users))) some

pub map_same : {X : Type 0} (xs : List X) → map (λ x. x) xs ≡ xs
map_same [] = refl
map_same (x ∷ xs) = ap (λ l. x ∷ l) (map_same xs)

pub names_entries : (roles : List Name) (sets : List CountedSet) → map (λ set. set.set) sets ≡ names_of (map (entry_of roles) sets)
names_entries roles [] = refl
names_entries roles (x ∷ xs) = ap (λ l. x.set ∷ l) (names_entries roles xs)

-- a list of no length has nothing
pub nothing_in : {X : Type 0} (xs : List X) → (length xs == 0) ≡ true → xs ≡ []
nothing_in xs e = let none : length xs ≡ 0 = grind (arith, common_steps) in nil_from_length xs none

-- of no sets there are no numbers, and none is broken
pub nothing_given : (users : List Name) (rows : List (List ℕ)) → changes_of [] users rows ≡ []
nothing_given [] rows = refl
nothing_given (x ∷ xs) [] = refl
nothing_given (x ∷ xs) (r ∷ rs) = nothing_given xs rs

pub none_first : (p : Name → Bool) (users : List Name) → first_where (λ user. p user && false) users ≡ None
none_first p [] = refl
none_first p (x ∷ xs) = grind (arith, none_first p xs)

-- where nothing is broken, what was gathered is so
pub gathered_so : (b : Bool) (x : Named) (found : Option NamedByReferences) (P : Type 0) → b ≡ false → Tells b x found → IfNone found P → P
gathered_so b x found P none told so = grind arith

-- where something is broken, it is named
pub named_so : (b : Bool) (x : Named) (found : Option NamedByReferences) (P : Type 0) → b ≡ true → Tells b x found → IfNone found P
named_so b x found P some told = grind arith

-- what holds of a value, where there is one, or of there being none
pub some_each : {A : Type 0} (o : Option A) (P Q : A → Type 0) → ((a : A) → P a → Q a) → IfSome o P → IfSome o Q
some_each o P Q f h = grind arith

pub none_each : {A : Type 0} (o : Option A) (P Q : Type 0) → (P → Q) → IfNone o P → IfNone o Q
none_each o P Q f h = grind arith
