-- Putting a text piece by piece, and fields one after the other.
use Rattle.std.proofs.Common.{◌≡◌, ◌++◌, ℕ, List, [], ◌∷◌, Result, OnOk, Ok, Err, is_ok, if◌then◌else◌, append_assoc, append-nil, ap, sym, ◌∙◌}
use Rattle.std.specs.List.{flat_map}

-- one more piece
pub then_piece : (old mid new a b : List ℕ) → mid ≡ old ++ a → new ≡ mid ++ b → new ≡ old ++ (a ++ b)
then_piece old mid new a b before piece = piece ∙ ap (λ l. l ++ b) before ∙ append_assoc old a b

-- the last piece, for which there may be no memory
pub last_piece : {T E : Type 0} (r : Result T E) (old mid new a b : List ℕ) → mid ≡ old ++ a → new ≡ (if is_ok r then mid ++ b else mid) → OnOk r (new ≡ old ++ (a ++ b))
last_piece (Ok x) old mid new a b before piece = then_piece old mid new a b before piece
last_piece (Err e) old mid new a b before piece = tt

-- one more piece, before what is put behind it
pub put_before : {T E : Type 0} (r : Result T E) (old mid new a b : List ℕ) → mid ≡ old ++ a → OnOk r (new ≡ mid ++ b) → OnOk r (new ≡ old ++ (a ++ b))
put_before (Ok x) old mid new a b before behind = then_piece old mid new a b before behind
put_before (Err e) old mid new a b before behind = tt

module _ {X : Type 0} (f : X → List ℕ) where
  -- one more
  one_more : (old mid new : List ℕ) (xs : List X) (x : X) → mid ≡ old ++ flat_map f xs → new ≡ mid ++ f x → new ≡ old ++ (flat_map f xs ++ f x)
  one_more old mid new xs x before more = more ∙ ap (λ l. l ++ f x) before ∙ append_assoc old (flat_map f xs) (f x)

  pub two_fields : {T E : Type 0} (r : Result T E) (old mid new : List ℕ) (a b : X) → mid ≡ old ++ f a → OnOk r (new ≡ mid ++ f b) → OnOk r (new ≡ old ++ flat_map f (a ∷ b ∷ []))
  two_fields (Ok v) old mid new a b first second = second ∙ ap (λ l. l ++ f b) first ∙ append_assoc old (f a) (f b) ∙ ap (λ l. old ++ (f a ++ l)) (sym (append-nil (f b)))
  two_fields (Err e) old mid new a b first second = tt

  pub third_field : {T E : Type 0} (r : Result T E) (old mid new : List ℕ) (a b c : X) → mid ≡ old ++ flat_map f (a ∷ b ∷ []) → OnOk r (new ≡ mid ++ f c) → OnOk r (new ≡ old ++ flat_map f (a ∷ b ∷ c ∷ []))
  third_field (Ok v) old mid new a b c first second =
      second ∙ ap (λ l. l ++ f c) first ∙ append_assoc old (f a ++ (f b ++ [])) (f c)
      ∙ ap (λ l. old ++ l) (append_assoc (f a) (f b ++ []) (f c) ∙ ap (λ l. f a ++ l) (append_assoc (f b) [] (f c) ∙ ap (λ l. f b ++ l) (sym (append-nil (f c)))))
  third_field (Err e) old mid new a b c first second = tt
