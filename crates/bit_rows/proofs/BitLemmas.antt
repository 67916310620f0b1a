-- Bits of words that are written.
use Rattle.std.proofs.Common.{ℕ, suc, zero, ◌≡◌, ◌+◌, ◌-◌, ◌*◌, ◌/◌, ◌%◌, ◌^◌, ◌<◌, ◌≤◌, Bool, max, true, false, ◌||◌, cond, nat_eq, nat_lt, List, [], ◌∷◌, ◌++◌, length, get_or, replicate, slice_set, bit_and, bit_or, w64, refl, sym, ap, ◌∙◌, subst, ◌⊎◌, ⊎_elim, arith}
use Rattle.std.specs.Int.{bit_at, bit_not}
use Rattle.std.proofs.lemmas.Bool.{eq-eqb, ne_eqb, ltb-true, ltb-false, lt-ltb, le-ltb, cases_lt, true≢false, false≢true}
use Rattle.std.proofs.lemmas.Bool.Decides.{eqb_tells}
use Rattle.std.proofs.lemmas.List.{get_or-set_other, length-set}
use Rattle.std.proofs.lemmas.Grind.{get_or-set_at}
use Rattle.std.proofs.lemmas.Nat.{le_or_l}
use Rattle.std.proofs.lemmas.Nat.Bits.{shr_and_one, bit_at-lt, bit_at-zero, bit_at_or, bit_at_set_same, bit_at_set_other, bit_at_clear_same, bit_at_clear_other}
use Rattle.bit_rows.specs.Bits.{has_bit}
use Rattle.bit_rows.specs.Room.{unset}

-- past the end of a list
pub past_end : {X : Type 0} (xs : List X) (i : ℕ) (d : X) → length xs ≤ i → get_or xs i d ≡ d
past_end [] i d le = refl
past_end (x ∷ xs) zero d le = absurd (omega arith)
past_end (x ∷ xs) (suc i) d le = past_end xs i d (omega arith)

pub any_default : {X : Type 0} (xs : List X) (i : ℕ) (d e : X) → i < length xs → get_or xs i d ≡ get_or xs i e
any_default [] i d e lt = absurd (omega arith)
any_default (x ∷ xs) zero d e lt = refl
any_default (x ∷ xs) (suc i) d e lt = any_default xs i d e (omega arith)

-- a word of zero has no bit set
pub zero_word : (words : List ℕ) (j : ℕ) → get_or words (j / 64) 0 ≡ 0 → has_bit words j ≡ false
unfolding has_bit
zero_word words j is = ap (λ w. nat_eq (bit_at w (j % 64)) 1) is ∙ ap (λ n. nat_eq n 1) (bit_at-zero (j % 64))

-- past the last word no bit is set
pub has_bit-past : (words : List ℕ) (j : ℕ) → length words ≤ j / 64 → has_bit words j ≡ false
has_bit-past words j le = zero_word words j (past_end words (j / 64) 0 le)

pub no_words : (j : ℕ) → has_bit [] j ≡ false
no_words j = has_bit-past [] j (omega arith)

pub has_bit-tested : (words : List ℕ) (j : ℕ) → nat_eq (bit_and (get_or words (j / 64) 0 / 2 ^ (j % 64)) 1) 1 ≡ has_bit words j
unfolding has_bit
has_bit-tested words j = ap (λ n. nat_eq n 1) (shr_and_one (get_or words (j / 64) 0) (j % 64))

-- where all words are zero
pub has_bit-zeros : (words : List ℕ) (k j : ℕ) → ((n : ℕ) → n < k → get_or words n 0 ≡ 0) → length words ≤ k → has_bit words j ≡ false
has_bit-zeros words k j zeros all = ⊎_elim
    (λ lt. zero_word words j (zeros (j / 64) lt))
    (λ (le : k ≤ j / 64). has_bit-past words j (omega arith))
    (cases_lt (j / 64) k)

-- the same words, and some of zero more
pub has_bit-wider : (words : List ℕ) (more j : ℕ) → has_bit (words ++ replicate more 0) j ≡ has_bit words j
unfolding has_bit
has_bit-wider words more j = ap (λ w. nat_eq (bit_at w (j % 64)) 1) (go words (j / 64))
  where
    zeros : (n k : ℕ) → ◌≡◌ {A = ℕ} (get_or (replicate n 0) k 0) 0
    zeros zero k = refl
    zeros (suc n) zero = refl
    zeros (suc n) (suc k) = zeros n k

    go : (words : List ℕ) (k : ℕ) → get_or (words ++ replicate more 0) k 0 ≡ get_or words k 0
    go [] k = zeros more k
    go (w ∷ words) zero = refl
    go (w ∷ words) (suc k) = go words k

module _ (words : List ℕ) (b j : ℕ) (within : b / 64 < length words) where
  word_other : (v : ℕ) → (j / 64 ≡ b / 64 → ⊥) → has_bit (slice_set words (b / 64) v) j ≡ has_bit words j
  unfolding has_bit
  word_other v ne = ap (λ w. nat_eq (bit_at w (j % 64)) 1) (get_or-set_other words (b / 64) (j / 64) v 0 ne)

  word_same : (v : ℕ) → j / 64 ≡ b / 64 → has_bit (slice_set words (b / 64) v) j ≡ nat_eq (bit_at v (j % 64)) 1
  unfolding has_bit
  word_same v e = ap (λ w. nat_eq (bit_at w (j % 64)) 1) (get_or-set_at words (b / 64) (j / 64) v 0 e within)

  word_was : j / 64 ≡ b / 64 → nat_eq (bit_at (get_or words (b / 64) 0) (j % 64)) 1 ≡ has_bit words j
  unfolding has_bit
  word_was e = ap (λ n. nat_eq (bit_at (get_or words n 0) (j % 64)) 1) (sym e)

  abbrev mask : ℕ
  mask = 1 * 2 ^ (b % 64) % 2 ^ 64

  same_bit : j / 64 ≡ b / 64 → j % 64 ≡ b % 64 → j ≡ b
  same_bit e f = omega arith

  below : b % 64 < 64
  below = omega arith

  -- what is written keeps all bits but one
  written : (v : ℕ) (value : Bool) → nat_eq (bit_at v (b % 64)) 1 ≡ value → ((i : ℕ) → i < 64 → (i ≡ b % 64 → ⊥) → bit_at v i ≡ bit_at (get_or words (b / 64) 0) i)
      → has_bit (slice_set words (b / 64) v) j ≡ cond (nat_eq j b) value (has_bit words j)
  written v value here there = ⊎_elim
      (λ same. word_same v same.1 ∙ ⊎_elim
      (λ at. ap (λ n. nat_eq (bit_at v n) 1) at.1 ∙ here ∙ sym (ap (λ t. cond t value (has_bit words j)) (eq-eqb j b (same_bit same.1 at.1))))
      (λ off. ap (λ n. nat_eq n 1) (there (j % 64) (omega arith) off.1) ∙ word_was same.1 ∙ sym (ap (λ t. cond t value (has_bit words j)) (ne_eqb j b (λ e. off.1 (ap (λ n. n % 64) e)))))
      (eqb_tells (j % 64) (b % 64)))
      (λ other. word_other v other.1 ∙ sym (ap (λ t. cond t value (has_bit words j)) (ne_eqb j b (λ e. other.1 (ap (λ n. n / 64) e)))))
      (eqb_tells (j / 64) (b / 64))

  pub has_bit-set : has_bit (slice_set words (b / 64) (bit_or (get_or words (b / 64) 0) (1 * 2 ^ (b % 64) % 2 ^ 64))) j ≡ cond (nat_eq j b) true (has_bit words j)
  has_bit-set = written _ true
      (ap (λ n. nat_eq n 1) (bit_at_set_same w64 (get_or words (b / 64) 0) (b % 64) below))
      (λ i small off. bit_at_set_other w64 (get_or words (b / 64) 0) (b % 64) below i off)

  pub has_bit-cleared : has_bit (slice_set words (b / 64) (bit_and (get_or words (b / 64) 0) (2 ^ 64 - 1 - 1 * 2 ^ (b % 64) % 2 ^ 64))) j ≡ cond (nat_eq j b) false (has_bit words j)
  has_bit-cleared = written (bit_and (get_or words (b / 64) 0) (bit_not w64 mask)) false
      (ap (λ n. nat_eq n 1) (bit_at_clear_same w64 (get_or words (b / 64) 0) (b % 64) below))
      (λ i small off. bit_at_clear_other w64 (get_or words (b / 64) 0) (b % 64) below i small off)

one_of : (x y : ℕ) → x < 2 → y < 2 → nat_eq (max x y) 1 ≡ (nat_eq x 1 || nat_eq y 1)
one_of zero zero lx ly = refl
one_of zero (suc zero) lx ly = refl
one_of (suc zero) zero lx ly = refl
one_of (suc zero) (suc zero) lx ly = refl
one_of (suc (suc x)) y lx ly = absurd (omega arith)
one_of zero (suc (suc y)) lx ly = absurd (omega arith)
one_of (suc zero) (suc (suc y)) lx ly = absurd (omega arith)

-- a number other than b is below b where it is below the next one
pub same_below : (a b : ℕ) → (a ≡ b → ⊥) → nat_lt a b ≡ nat_lt a (b + 1)
same_below a b ne = elim (nat_lt a b) as (λ t. nat_lt a b ≡ t → t ≡ nat_lt a (b + 1)) [
  | true ↦ λ e. let h : a < b = ltb-true a b e in sym (lt-ltb a (b + 1) (omega arith))
  | false ↦ λ e. let h : b ≤ a = ltb-false a b e in sym (le-ltb a (b + 1) (omega (arith, ne)))
] refl

-- the words before a place are joined with those of another row
abbrev pub joined_word : List ℕ → List ℕ → ℕ → ℕ → ℕ
joined_word old other k n = cond (nat_lt n k) (bit_or (get_or old n 0) (get_or other n 0)) (get_or old n 0)

-- a row that is joined with another, up to a place
pub record IsJoined (old other : List ℕ) (k : ℕ) (grown : Bool) (new : List ℕ) : Type 0 where
  pub length : length new ≡ length old
  pub words : (n : ℕ) → get_or new n 0 ≡ joined_word old other k n
  pub same : grown ≡ false → new ≡ old
  pub fewer : grown ≡ true → unset new < unset old
  pub not_more : unset new ≤ unset old

pub none_joined : (old other : List ℕ) → IsJoined old other 0 false old
none_joined old other = record {
  length = refl;
  words = λ n. sym (ap (λ b. cond b (bit_or (get_or old n 0) (get_or other n 0)) (get_or old n 0)) (le-ltb n 0 (omega arith)));
  same = λ e. refl;
  fewer = λ e. absurd (false≢true e);
  not_more = omega arith;
}

-- one word written
pub unset-set : (words : List ℕ) (k v : ℕ) → k < length words → unset (slice_set words k v) + (2 ^ 64 - get_or words k 0) ≡ unset words + (2 ^ 64 - v)
unset-set [] k v lt = absurd (omega arith)
unset-set (w ∷ words) zero v lt = omega arith
unset-set (w ∷ words) (suc k) v lt = omega (arith, unset-set words k v (omega arith))

module _ (old other new : List ℕ) (k : ℕ) (grown : Bool) (so_far : IsJoined old other k grown new) where
  was : get_or new k 0 ≡ get_or old k 0
  was = so_far.words k ∙ ap (λ b. cond b (bit_or (get_or old k 0) (get_or other k 0)) (get_or old k 0)) (le-ltb k k (omega arith))

  now : joined_word old other (k + 1) k ≡ bit_or (get_or new k 0) (get_or other k 0)
  now = ap (λ b. cond b (bit_or (get_or old k 0) (get_or other k 0)) (get_or old k 0)) (lt-ltb k (k + 1) (omega arith)) ∙ ap (λ w. bit_or w (get_or other k 0)) (sym was)

  elsewhere : (n : ℕ) → (n ≡ k → ⊥) → get_or new n 0 ≡ joined_word old other (k + 1) n
  elsewhere n off = so_far.words n ∙ ap (λ b. cond b (bit_or (get_or old n 0) (get_or other n 0)) (get_or old n 0)) (same_below n k off)

  pub joined_kept : bit_or (get_or new k 0) (get_or other k 0) ≡ get_or new k 0 → IsJoined old other (k + 1) grown new
  joined_kept is = record {
    length = so_far.length;
    words = λ n. ⊎_elim (λ here. ap (λ m. get_or new m 0) here.1 ∙ sym is ∙ sym now ∙ ap (joined_word old other (k + 1)) (sym here.1)) (λ there. elsewhere n there.1) (eqb_tells n k);
    same = so_far.same;
    fewer = so_far.fewer;
    not_more = so_far.not_more;
  }

  pub joined_more : (v : ℕ) → v ≡ bit_or (get_or new k 0) (get_or other k 0) → (v ≡ get_or new k 0 → ⊥) → v < 2 ^ 64 → k < length new → IsJoined old other (k + 1) true (slice_set new k v)
  joined_more v is more fits lt = record {
    length = length-set new k v ∙ so_far.length;
    words = λ n. ⊎_elim (λ here. get_or-set_at new k n v 0 here.1 lt ∙ is ∙ sym now ∙ ap (joined_word old other (k + 1)) (sym here.1)) (λ there. get_or-set_other new k n v 0 there.1 ∙ elsewhere n there.1) (eqb_tells n k);
    same = λ e. absurd (true≢false e);
    fewer = λ e. less;
    not_more = omega (arith, less);
  }
    where
      at_least : get_or new k 0 ≤ v
      at_least = subst (λ n. get_or new k 0 ≤ n) (sym is) (le_or_l (get_or new k 0) (get_or other k 0))

      less : unset (slice_set new k v) < unset old
      less = omega (arith, unset-set new k v lt, so_far.not_more, at_least, more, fits)

pub or_alone : (b : Bool) → cond b true false ≡ b
or_alone true = refl
or_alone false = refl

or_false : (b : Bool) → b ≡ (b || false)
or_false true = refl
or_false false = refl

pub has_bit-joined : (old other new : List ℕ) (k : ℕ) (grown : Bool) → IsJoined old other k grown new → (length old ≤ k) ⊎ (length other ≤ k) → (j : ℕ) → j / 64 < length old → has_bit new j ≡ (has_bit old j || has_bit other j)
unfolding has_bit
has_bit-joined old other new k grown all past j within = ⊎_elim before after (cases_lt (j / 64) k)
  where
    before : j / 64 < k → has_bit new j ≡ (has_bit old j || has_bit other j)
    before lt =
        let a = get_or old (j / 64) 0 in
        let b = get_or other (j / 64) 0 in
        ap (λ w. nat_eq (bit_at w (j % 64)) 1) (all.words (j / 64) ∙ ap (λ t. cond t (bit_or a b) a) (lt-ltb (j / 64) k lt))
        ∙ ap (λ n. nat_eq n 1) (bit_at_or a b (j % 64)) ∙ one_of (bit_at a (j % 64)) (bit_at b (j % 64)) (bit_at-lt a (j % 64)) (bit_at-lt b (j % 64))

    no_other : k ≤ j / 64 → has_bit other j ≡ false
    no_other le = has_bit-past other j (⊎_elim (λ (p : length old ≤ k). absurd (omega arith)) (λ (p : length other ≤ k). omega arith) past)

    same_word : k ≤ j / 64 → has_bit new j ≡ has_bit old j
    same_word le = ap (λ w. nat_eq (bit_at w (j % 64)) 1) (all.words (j / 64) ∙ ap (λ t. cond t (bit_or (get_or old (j / 64) 0) (get_or other (j / 64) 0)) (get_or old (j / 64) 0)) (le-ltb (j / 64) k le))

    after : k ≤ j / 64 → has_bit new j ≡ (has_bit old j || has_bit other j)
    after le = same_word le ∙ or_false (has_bit old j) ∙ sym (ap (λ t. has_bit old j || t) (no_other le))
