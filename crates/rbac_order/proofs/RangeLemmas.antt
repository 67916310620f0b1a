-- What tests of numbers say of members' numbers and of the numbers of messages.
use Rattle.std.proofs.Common.{ℕ, Bool, true, false, ◌≡◌, ◌≤◌, ◌<◌, ◌==◌, ◌||◌, ◌&&◌, nat_lt, nat_le, arith}
use Rattle.std.proofs.lemmas.Bool.Decides.{nat_tests}

-- a number of a group is 1 to the count of its members
pub in_range : (m n : ℕ) → (nat_le 1 m && nat_le m n) ≡ true → (1 ≤ m) × (m ≤ n)
in_range m n e = (grind (arith, nat_tests), grind (arith, nat_tests))

pub is_in_range : (m n : ℕ) → 1 ≤ m → m ≤ n → (nat_le 1 m && nat_le m n) ≡ true
is_in_range m n low high = grind (arith, nat_tests)

pub is_below_range : (m n : ℕ) → m < 1 → (nat_le 1 m && nat_le m n) ≡ false
is_below_range m n low = grind (arith, nat_tests)

pub is_above_range : (m n : ℕ) → n < m → (nat_le 1 m && nat_le m n) ≡ false
is_above_range m n high = grind (arith, nat_tests)

pub above_range : (m n : ℕ) → 1 ≤ m → (nat_le 1 m && nat_le m n) ≡ false → n < m
above_range m n low e = grind (arith, nat_tests)

-- a message that was sent has a number up to the count of messages
pub was_sent : (sent n : ℕ) → (n == 0 || nat_lt sent n) ≡ false → n ≤ sent
was_sent sent n e = grind (arith, nat_tests)

-- what is neither below nor above is equal
pub meets : (m n : ℕ) → nat_lt n m ≡ false → nat_lt m n ≡ false → n ≡ m
meets m n e f = grind (arith, nat_tests)

-- an equality turned round
pub turned : (m n : ℕ) (b : Bool) → (m == n) ≡ b → (n == m) ≡ b
turned m n true e = grind (arith, nat_tests)
turned m n false e = grind (arith, nat_tests)
