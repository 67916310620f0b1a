-- What a mark knows after it learned of another one, and what follows where two lists agree.
use Rattle.std.proofs.Common.{ℕ, zero, suc, Bool, true, false, nat_le, ◌≡◌, ◌≤◌, ◌<◌, List, [], ◌∷◌, ◌++◌, length, take, drop, slice_get, refl, sym, ap, subst, ◌∙◌, arith, append-nil, length-append}
use Rattle.std.proofs.lemmas.Bool.Decides.{nat_tests}
use Rattle.std.proofs.lemmas.List.{take_all, take-take, take-append-drop, length-take-le, drop_all}
use Rattle.rbac_words.specs.Play.{IsPrefixOf}
use Rattle.rbac_board.specs.Known.{Agree}
use Rattle.rbac_board.proofs.AgreementLemmas.{begins_where_shorter}

module _ {X : Type 0} where
  -- ---- Beginnings

  -- a beginning that is as long is the whole
  pub whole_beginning : (xs ys : List X) → IsPrefixOf xs ys → length ys ≤ length xs → ys ≡ xs
  whole_beginning xs ys begins long =
      go begins.0 begins.1 (let l : length (xs ++ begins.0) ≡ length ys = ap length begins.1 in let m : length more_of ≤ 0 = omega (arith, length-append xs begins.0) in m)
    where
      more_of : List X
      more_of = begins.0

      go : (more : List X) → xs ++ more ≡ ys → length more ≤ 0 → ys ≡ xs
      go [] e l = sym e ∙ append-nil xs
      go (m ∷ more) e l = absurd (omega arith)

  -- what stands in a beginning stands in the whole
  pub stands_in_whole : (xs ys : List X) (i : ℕ) → IsPrefixOf xs ys → i < length xs → slice_get ys i ≡ slice_get xs i
  stands_in_whole xs ys i begins l = ap (λ zs. slice_get zs i) (sym begins.1) ∙ left xs i l
    where
      left : (zs : List X) (j : ℕ) → j < length zs → slice_get (zs ++ begins.0) j ≡ slice_get zs j
      left [] j l = absurd (omega arith)
      left (z ∷ zs) zero l = refl
      left (z ∷ zs) (suc j) l = left zs j (omega arith)

  -- what stands in a list stands in a first part that has the place
  stands_in_first : (n : ℕ) (xs : List X) (i : ℕ) → i < n → slice_get (take n xs) i ≡ slice_get xs i
  stands_in_first zero xs i l = absurd (omega arith)
  stands_in_first (suc n) [] i l = refl
  stands_in_first (suc n) (x ∷ xs) zero l = refl
  stands_in_first (suc n) (x ∷ xs) (suc i) l = stands_in_first n xs i (omega arith)

  -- lists that agree have the same at a place of both
  pub agree_at : (xs ys : List X) (i : ℕ) → Agree xs ys → i < length xs → i < length ys → slice_get xs i ≡ slice_get ys i
  agree_at xs ys i agree l m = sym (stands_in_first (length ys) xs i m) ∙ ap (λ zs. slice_get zs i) agree ∙ stands_in_first (length xs) ys i l

  -- ---- So many of the first items of a list that agrees are learned

  abbrev pub learned : List X → List X → ℕ → List X
  learned xs ys count = xs ++ drop (length xs) (take count ys)

  -- no more than are known: nothing is new
  learned_less : (xs ys : List X) (count : ℕ) → count ≤ length ys → count ≤ length xs → learned xs ys count ≡ xs
  learned_less xs ys count h l =
      ap (λ zs. xs ++ zs) (drop_all (length xs) (take count ys) (let t : length (take count ys) ≡ count = length-take-le count ys h in omega arith)) ∙ append-nil xs

  -- as many as are known or more: they are a first part of the other
  learned_more : (xs ys : List X) (count : ℕ) → Agree xs ys → count ≤ length ys → length xs ≤ count → learned xs ys count ≡ take count ys
  learned_more xs ys count agree h l =
      ap (λ zs. zs ++ drop (length xs) (take count ys)) (begins_where_shorter xs ys agree (omega arith) ∙ sym (take-take (length xs) count ys l))
      ∙ take-append-drop (length xs) (take count ys)

  pub learned_all : (xs ys : List X) → Agree xs ys → length xs ≤ length ys → learned xs ys (length ys) ≡ ys
  learned_all xs ys agree l = learned_more xs ys (length ys) agree (omega arith) l ∙ take_all (length ys) ys (omega arith)

  -- what is known still agrees
  pub learned_agree : (xs ys : List X) (count : ℕ) → Agree xs ys → count ≤ length ys → Agree (learned xs ys count) ys
  learned_agree xs ys count agree h = go (nat_le count (length xs)) refl
    where
      first : Agree (take count ys) ys
      first =
          let long : length (take count ys) ≡ count = length-take-le count ys h in
          take_all (length ys) (take count ys) (omega arith) ∙ ap (λ n. take n ys) (sym long)

      go : (b : Bool) → nat_le count (length xs) ≡ b → Agree (learned xs ys count) ys
      go true e = subst (λ zs. Agree zs ys) (sym (learned_less xs ys count h (grind (arith, nat_tests)))) agree
      go false e = subst (λ zs. Agree zs ys) (sym (learned_more xs ys count agree h (grind (arith, nat_tests)))) first
