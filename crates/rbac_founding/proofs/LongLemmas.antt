-- What is too long: one byte more than is allowed shows it.
use Rattle.std.proofs.Common.{◌≡◌, ◌<◌, ℕ, ◌+◌, List, length, take, Bool, true, false, nat_lt, refl, sym, ap, ◌∙◌, arith}
use Rattle.std.proofs.lemmas.Bool.{ltb-true, ltb-false}
use Rattle.std.proofs.lemmas.List.{take_all, length-take}

take_longer : (n : ℕ) (bytes : List ℕ) → n < length bytes → n < length (take (n + 1) bytes)
take_longer n bytes h = omega (arith, length-take (n + 1) bytes)

by_length : {X : Type 0} (value : List ℕ → X) (long : X) (n : ℕ) → ((bytes : List ℕ) → n < length bytes → value bytes ≡ long)
    → (bytes : List ℕ) (b : Bool) → nat_lt n (length bytes) ≡ b → value (take (n + 1) bytes) ≡ value bytes
by_length value long n same bytes true is =
    same (take (n + 1) bytes) (take_longer n bytes (ltb-true n (length bytes) is)) ∙ sym (same bytes (ltb-true n (length bytes) is))
by_length value long n same bytes false is = ap value (take_all (n + 1) bytes (let short = ltb-false n (length bytes) is in omega arith))

-- what is the same for all that is longer than n bytes can be told from n + 1 of them
pub front_value : {X : Type 0} (value : List ℕ → X) (long : X) (n : ℕ) → ((bytes : List ℕ) → n < length bytes → value bytes ≡ long)
    → (bytes : List ℕ) → value (take (n + 1) bytes) ≡ value bytes
front_value value long n same bytes = by_length value long n same bytes (nat_lt n (length bytes)) refl
