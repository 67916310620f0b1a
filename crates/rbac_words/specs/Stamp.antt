-- Stamps and their total order (Lamport 1978, "Ordering the Events Totally").
use Rattle.std.specs.Prelude.{Bool, true, false, ◌≡◌, List, [], ◌∷◌, ⊤, not, if◌then◌else◌, Option, Some, None}
use Rattle.std.specs.List.{AllByRecursion, filter}
use Rattle.std.specs.declared.cmp.Ordering.{Ordering}
use Rattle.std.specs.Ordering.{nat_cmp, then_cmp, on, is_lt, is_eq}
use Rattle.rbac_words.specs.declared.stamp.Stamp.{Stamp}

-- the order: the smaller clock comes first; equal clocks are ordered by the smaller member number, and the commands of one
-- message by their places
abbrev pub stamp_cmp : Stamp → Stamp → Ordering
stamp_cmp = then_cmp (then_cmp (on (λ s. s.clock) nat_cmp) (on (λ s. s.member) nat_cmp)) (on (λ s. s.place) nat_cmp)

-- whether a stamp comes before another one
abbrev pub is_before : Stamp → Stamp → Bool
is_before s t = is_lt (stamp_cmp s t)

abbrev pub IsBefore : Stamp → Stamp → Type 0
IsBefore s t = is_before s t ≡ true

-- whether two stamps are the same
abbrev pub is_same_stamp : Stamp → Stamp → Bool
is_same_stamp s t = is_eq (stamp_cmp s t)

-- each stamp is below all later ones
abbrev pub IsRising : {X : Type 0} → (X → Stamp) → List X → Type 0
IsRising at [] = ⊤
IsRising at (x ∷ xs) = AllByRecursion (λ y. IsBefore (at x) (at y)) xs × IsRising at xs

-- no element is followed by one of a smaller stamp
abbrev pub IsInStampOrder : {X : Type 0} → (X → Stamp) → List X → Type 0
IsInStampOrder at [] = ⊤
IsInStampOrder at (x ∷ xs) = AllByRecursion (λ y. ¬ (IsBefore (at y) (at x))) xs × IsInStampOrder at xs

-- an element goes before the first one with a greater stamp
abbrev pub insert_by_stamp : {X : Type 0} → (X → Stamp) → X → List X → List X
insert_by_stamp at x [] = x ∷ []
insert_by_stamp at x (y ∷ ys) = if is_before (at x) (at y) then x ∷ y ∷ ys else y ∷ insert_by_stamp at x ys

-- the same elements in the order of their stamps
abbrev pub sort_by_stamp : {X : Type 0} → (X → Stamp) → List X → List X
sort_by_stamp at [] = []
sort_by_stamp at (x ∷ xs) = insert_by_stamp at x (sort_by_stamp at xs)

-- the stamp of the last element, if there is one
abbrev pub last_stamp : {X : Type 0} → (X → Stamp) → List X → Option Stamp
last_stamp at [] = None
last_stamp at (x ∷ []) = Some (at x)
last_stamp at (x ∷ y ∷ ys) = last_stamp at (y ∷ ys)

-- the elements whose stamp is at most this one; none where there is no stamp
abbrev pub up_to : {X : Type 0} → (X → Stamp) → Option Stamp → List X → List X
up_to at None xs = []
up_to at (Some t) xs = filter (λ x. not (is_before t (at x))) xs

-- some elements put among others, each before the first one with a greater stamp
abbrev pub insert_all : {X : Type 0} → (X → Stamp) → List X → List X → List X
insert_all at [] ys = ys
insert_all at (x ∷ xs) ys = insert_all at xs (insert_by_stamp at x ys)

-- a stamp after the last one, if there is a last one
abbrev pub IsAfter : Option Stamp → Stamp → Type 0
IsAfter None s = ⊤
IsAfter (Some last) s = IsBefore last s

-- the same as a test
abbrev pub is_after : Option Stamp → Stamp → Bool
is_after None s = true
is_after (Some last) s = is_before last s

-- whether the last stamp, if there is one, comes after this one
abbrev pub has_passed : Option Stamp → Stamp → Bool
has_passed None s = false
has_passed (Some last) s = is_before s last
