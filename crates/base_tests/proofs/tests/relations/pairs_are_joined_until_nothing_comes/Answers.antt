use Rattle.std.proofs.Common.{ℕ, zero, suc, ◌<◌, ◌≤◌, List, [], ◌∷◌, arith}
use Rattle.bit_rows.specs.Bits.{count, first_of, second_of}
use Rattle.base_tests.proofs.tests.relations.pairs_are_joined_until_nothing_comes.Goals as goal

-- the pairs that are joined
abbrev circle : List (ℕ × ℕ)
circle = (0, 1) ∷ (1, 2) ∷ (2, 0) ∷ []

below : (n : ℕ) → 4 ≤ n → (k : ℕ) → k < 3 → (first_of circle k < n) × (second_of circle k < n)
below n many zero lt = (omega arith, omega arith)
below n many (suc zero) lt = (omega arith, omega arith)
below n many (suc (suc zero)) lt = (omega arith, omega arith)
below n many (suc (suc (suc k))) lt = absurd (omega arith)

pub join_pairs-requires : goal.join_pairs-requires
join_pairs-requires g c = below (count c.numbers-relation.result) (omega arith)
