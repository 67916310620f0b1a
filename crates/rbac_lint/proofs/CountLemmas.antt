-- What a loop has counted once it has looked at one element more.
use Rattle.std.proofs.Common.{◌≡◌, ◌+◌, ◌<◌, ℕ, List, Bool, true, false, if◌then◌else◌, length, get_or, take, count_by, sum_by, arith, ap, sym}
use Rattle.std.proofs.lemmas.List.Sums.{count_by_more_yes, count_by_more_no, sum_by_more}

-- elements that pass a test
counted_more : {X : Type 0} (p : X → Bool) (xs : List X) (i : ℕ) (x : X) (b : Bool) → i < length xs → p (get_or xs i x) ≡ b
    → count_by p (take (i + 1) xs) ≡ count_by p (take i xs) + (if b then 1 else 0)
counted_more p xs i x true within passes = count_by_more_yes p xs i x within passes
counted_more p xs i x false within fails = omega (arith, count_by_more_no p xs i x within fails)

pub counted_next : {X : Type 0} (p : X → Bool) (xs : List X) (i : ℕ) (x : X) (start before now : ℕ) → i < length xs → x ≡ get_or xs i x
    → before ≡ start + count_by p (take i xs) → now ≡ before + (if p x then 1 else 0) → now ≡ start + count_by p (take (i + 1) xs)
counted_next p xs i x start before now within is had grown =
    let more = counted_more p xs i x (p x) within (ap p (sym is)) in omega (arith, more, had, grown)

-- a sum
pub summed_next : {X : Type 0} (f : X → ℕ) (xs : List X) (i : ℕ) (x : X) (before now : ℕ) → i < length xs → x ≡ get_or xs i x
    → before ≡ sum_by f (take i xs) → now ≡ before + f x → now ≡ sum_by f (take (i + 1) xs)
summed_next f xs i x before now within is had grown = omega (arith, sum_by_more f xs i x within, ap f is, had, grown)
