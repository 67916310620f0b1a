-- Names are ordered by their first bytes as one number, and then by the others.
use Rattle.std.proofs.Common.{List, [], ◌∷◌, ◌≡◌, ◌<◌, ◌+◌, ◌*◌, ◌%◌, ◌&&◌, nat_le, ℕ, zero, suc, true, IsTrue, ◌≢◌, arith, get_or, drop, length, refl, sym, ◌∙◌, ap, subst}
use Rattle.std.specs.declared.cmp.Ordering.{Ordering}
use Rattle.std.specs.declared.cmp.Ordering.TheVariants.{Less, Equal, Greater}
use Rattle.std.specs.List.{list_all}
use Rattle.std.specs.Ordering.{MatchOrdering, nat_cmp, ordering_then}
use Rattle.std.specs.Cmp.{ranks, nat_cmp_is}
use Rattle.std.specs.Cmp.Lexicographic.{slice_cmp}
use Rattle.std.proofs.lemmas.Bool.{and_parts}
use Rattle.std.proofs.lemmas.List.{drop-drop, get_or-drop}
use Rattle.rbac_terms.specs.Name.{is_name_byte, is_name}
use Rattle.rbac_terms.specs.Keeping.Prefix.{first_bytes}

abbrev AreNameBytes : List ℕ → Type 0
AreNameBytes bytes = list_all is_name_byte bytes ≡ true

bytes_of : (bytes : List ℕ) → IsTrue (is_name bytes) → AreNameBytes bytes
bytes_of bytes is = (and_parts (nat_le 1 (length bytes) && nat_le (length bytes) 64) (list_all is_name_byte bytes) is).1

in_range : (b : ℕ) → is_name_byte b ≡ true → (0 < b) × (b < 256)
in_range b e = (above, below) where
  above : 0 < b
  above = grind arith

  below : b < 256
  below = grind arith

all_dropped : (n : ℕ) (bytes : List ℕ) → AreNameBytes bytes → AreNameBytes (drop n bytes)
all_dropped zero bytes all = all
all_dropped (suc n) [] all = refl
all_dropped (suc n) (b ∷ bytes) all = all_dropped n bytes (and_parts _ _ all).1

first_in_range : (bytes : List ℕ) → AreNameBytes bytes → get_or bytes 0 0 < 256
first_in_range [] all = omega arith
first_in_range (b ∷ bytes) all = (in_range b (and_parts _ _ all).0).1

first_dropped : (n : ℕ) (bytes : List ℕ) → get_or (drop n bytes) 0 0 ≡ get_or bytes n 0
first_dropped n bytes = let same : n + 0 ≡ n = omega arith in get_or-drop n bytes 0 0 ∙ ap (λ i. get_or bytes i 0) same

byte_in_range : (n : ℕ) (bytes : List ℕ) → AreNameBytes bytes → get_or bytes n 0 < 256
byte_in_range n bytes all = subst (λ b. b < 256) (first_dropped n bytes) (first_in_range (drop n bytes) (all_dropped n bytes all))

-- the first byte decides, where an end is a zero
first_then_others : (xs ys : List ℕ) → AreNameBytes xs → AreNameBytes ys →
    slice_cmp nat_cmp xs ys ≡ ordering_then (nat_cmp (get_or xs 0 0) (get_or ys 0 0)) (slice_cmp nat_cmp (drop 1 xs) (drop 1 ys))
first_then_others [] [] all others = refl
first_then_others [] (y ∷ ys) all others = ap (λ r. ordering_then r (slice_cmp nat_cmp [] ys)) (nat_cmp_is 0 y Less (in_range y (and_parts _ _ others).0).0)
first_then_others (x ∷ xs) [] all others = ap (λ r. ordering_then r (slice_cmp nat_cmp xs [])) (nat_cmp_is x 0 Greater (in_range x (and_parts _ _ all).0).0)
first_then_others (x ∷ xs) (y ∷ ys) all others = refl

-- one byte more
one_byte_more : (p q b c : ℕ) → b < 256 → c < 256 → nat_cmp (p * 256 + b) (q * 256 + c) ≡ ordering_then (nat_cmp p q) (nat_cmp b c)
one_byte_more p q b c in_b in_c = sym (nat_cmp_is (p * 256 + b) (q * 256 + c) (ordering_then (nat_cmp p q) (nat_cmp b c)) (by_prefix (nat_cmp p q) (ranks p q))) where
  Ranks : Ordering → Type 0
  Ranks r = MatchOrdering r (p * 256 + b < q * 256 + c) (p * 256 + b ≡ q * 256 + c) (q * 256 + c < p * 256 + b)

  by_byte : (s : Ordering) → p ≡ q → MatchOrdering s (b < c) (b ≡ c) (c < b) → Ranks s
  by_byte Less same less = omega arith
  by_byte Equal same equal = omega arith
  by_byte Greater same greater = omega arith

  by_prefix : (r : Ordering) → MatchOrdering r (p < q) (p ≡ q) (q < p) → Ranks (ordering_then r (nat_cmp b c))
  by_prefix Less less = omega arith
  by_prefix Equal same = by_byte (nat_cmp b c) same (ranks b c)
  by_prefix Greater greater = omega arith

then_then : (p q r : Ordering) → ordering_then (ordering_then p q) r ≡ ordering_then p (ordering_then q r)
then_then Less q r = refl
then_then Equal q r = refl
then_then Greater q r = refl

prefix_then_others : (n : ℕ) (xs ys : List ℕ) → AreNameBytes xs → AreNameBytes ys →
    slice_cmp nat_cmp xs ys ≡ ordering_then (nat_cmp (first_bytes n xs) (first_bytes n ys)) (slice_cmp nat_cmp (drop n xs) (drop n ys))
prefix_then_others zero xs ys all others = refl
prefix_then_others (suc n) xs ys all others = prefix_then_others n xs ys all others
    ∙ ap (ordering_then before) next
    ∙ sym (then_then before byte after)
    ∙ ap (λ r. ordering_then r after) (sym (one_byte_more _ _ _ _ (byte_in_range n xs all) (byte_in_range n ys others))) where
      before : Ordering
      before = nat_cmp (first_bytes n xs) (first_bytes n ys)

      byte : Ordering
      byte = nat_cmp (get_or xs n 0) (get_or ys n 0)

      after : Ordering
      after = slice_cmp nat_cmp (drop (suc n) xs) (drop (suc n) ys)

      at_drop : (zs : List ℕ) → drop 1 (drop n zs) ≡ drop (suc n) zs
      at_drop zs = let more : n + 1 ≡ suc n = omega arith in drop-drop 1 n zs ∙ ap (λ i. drop i zs) more

      next : slice_cmp nat_cmp (drop n xs) (drop n ys) ≡ ordering_then byte after
      next = first_then_others (drop n xs) (drop n ys) (all_dropped n xs all) (all_dropped n ys others)
          ∙ ap (λ b. ordering_then (nat_cmp b (get_or (drop n ys) 0 0)) (slice_cmp nat_cmp (drop 1 (drop n xs)) (drop 1 (drop n ys)))) (first_dropped n xs)
          ∙ ap (λ b. ordering_then (nat_cmp (get_or xs n 0) b) (slice_cmp nat_cmp (drop 1 (drop n xs)) (drop 1 (drop n ys)))) (first_dropped n ys)
          ∙ ap (λ us. ordering_then byte (slice_cmp nat_cmp us (drop 1 (drop n ys)))) (at_drop xs)
          ∙ ap (λ vs. ordering_then byte (slice_cmp nat_cmp (drop (suc n) xs) vs)) (at_drop ys)

-- where the first bytes of two names differ as a number, they decide
pub prefix_decides : (n : ℕ) (xs ys : List ℕ) → IsTrue (is_name xs) → IsTrue (is_name ys) → (p q : ℕ) → p ≡ first_bytes n xs → q ≡ first_bytes n ys → (r : Ordering) → r ≡ nat_cmp p q → r ≢ Equal →
    r ≡ slice_cmp nat_cmp xs ys
prefix_decides n xs ys name other p q of_xs of_ys r compared unequal =
    sym (prefix_then_others n xs ys (bytes_of xs name) (bytes_of ys other) ∙ ap (λ p. ordering_then p others) (sym by_prefix) ∙ decided r others unequal) where
      by_prefix : r ≡ nat_cmp (first_bytes n xs) (first_bytes n ys)
      by_prefix = compared ∙ ap (λ i. nat_cmp i q) of_xs ∙ ap (nat_cmp (first_bytes n xs)) of_ys

      others : Ordering
      others = slice_cmp nat_cmp (drop n xs) (drop n ys)

      decided : (p s : Ordering) → p ≢ Equal → ordering_then p s ≡ p
      decided Less s unlike = refl
      decided Equal s unlike = absurd (unlike refl)
      decided Greater s unlike = refl

-- where no byte is left after so many, nothing is left
nothing_left : (n : ℕ) (bytes : List ℕ) → AreNameBytes bytes → get_or bytes n 0 ≡ 0 → drop n bytes ≡ []
nothing_left n bytes all none = empty (drop n bytes) (all_dropped n bytes all) (first_dropped n bytes ∙ none) where
  empty : (rest : List ℕ) → AreNameBytes rest → get_or rest 0 0 ≡ 0 → rest ≡ []
  empty [] name last = refl
  empty (b ∷ rest) name last = absurd (omega (arith, last, (in_range b (and_parts _ _ name).0).0))

-- where the number of the first bytes of two names is the same and ends in no byte, they are one
pub prefix_is_all : (n : ℕ) (xs ys : List ℕ) → IsTrue (is_name xs) → IsTrue (is_name ys) → (p q : ℕ) → p ≡ first_bytes (suc n) xs → q ≡ first_bytes (suc n) ys → Equal ≡ nat_cmp p q → p % 256 ≡ 0 →
    Equal ≡ slice_cmp nat_cmp xs ys
prefix_is_all n xs ys name other p q of_xs of_ys compared ended =
    sym (prefix_then_others (suc n) xs ys (bytes_of xs name) (bytes_of ys other)
    ∙ ap (λ r. ordering_then r (slice_cmp nat_cmp (drop (suc n) xs) (drop (suc n) ys))) (sym by_prefix)
    ∙ ap (λ us. slice_cmp nat_cmp us (drop (suc n) ys)) (nothing_more xs (bytes_of xs name) p of_xs ended)
    ∙ ap (slice_cmp nat_cmp []) (nothing_more ys (bytes_of ys other) p (alike ∙ of_ys) ended)) where
      by_prefix : Equal ≡ nat_cmp (first_bytes (suc n) xs) (first_bytes (suc n) ys)
      by_prefix = compared ∙ ap (λ i. nat_cmp i q) of_xs ∙ ap (nat_cmp (first_bytes (suc n) xs)) of_ys

      alike : p ≡ q
      alike = subst (λ r. MatchOrdering r (p < q) (p ≡ q) (q < p)) (sym compared) (ranks p q)

      nothing_more : (zs : List ℕ) → AreNameBytes zs → (p : ℕ) → p ≡ first_bytes (suc n) zs → p % 256 ≡ 0 → drop (suc n) zs ≡ []
      nothing_more zs all p of_zs ended =
          let byte : get_or zs n 0 ≡ 0 = omega (arith, of_zs, ended, byte_in_range n zs all) in
          let more : n + 1 ≡ suc n = omega arith in
          ap (λ i. drop i zs) (sym more) ∙ sym (drop-drop 1 n zs) ∙ ap (drop 1) (nothing_left n zs all byte)
