-- Lists of which an image is asked or compared, place by place.
use Rattle.std.proofs.Common.{◌≡◌, ℕ, zero, suc, ◌<◌, List, [], ◌∷◌, length, take, map, get_or, slice_get, Some, IsSomeAnd, refl, arith}
use Rattle.rbac_board.specs.Known.{Agree}

-- lists that agree have the same at one place
pub same_at : {A B : Type 0} (f : A → B) (xs ys : List A) (i : ℕ) (x y : A) → Agree (map f xs) (map f ys) → i < length xs → i < length ys → f (get_or ys i y) ≡ f (get_or xs i x)
same_at f [] ys i x y same l m = absurd (omega arith)
same_at f (a ∷ xs) [] i x y same l m = absurd (omega arith)
same_at f (a ∷ xs) (b ∷ ys) zero x y same l m = cc same
same_at f (a ∷ xs) (b ∷ ys) (suc i) x y same l m = same_at f xs ys i x y (cc same) (omega arith) (omega arith)

-- lists that have the same at one place agree there too
pub same_more : {A B : Type 0} (f : A → B) (xs ys : List A) (i : ℕ) (x y : A) → i < length xs → i < length ys → take i (map f xs) ≡ take i (map f ys) → f (get_or ys i y) ≡ f (get_or xs i x) → take (suc i) (map f xs) ≡ take (suc i) (map f ys)
same_more f [] ys i x y l m same here = absurd (omega arith)
same_more f (a ∷ xs) [] i x y l m same here = absurd (omega arith)
same_more f (a ∷ xs) (b ∷ ys) zero x y l m same here = cc here
same_more f (a ∷ xs) (b ∷ ys) (suc i) x y l m same here =
    let first : f a ≡ f b = cc same in
    let rest : take (suc i) (map f xs) ≡ take (suc i) (map f ys) = same_more f xs ys i x y (omega arith) (omega arith) (cc same) here in cc (first, rest)

-- what holds of an image at a place
pub image_at : {A B : Type 0} (f : A → B) (P : B → Type 0) (xs : List A) (i : ℕ) (d : A) → IsSomeAnd (slice_get (map f xs) i) P → P (f (get_or xs i d))
image_at f P [] i d here = absurd here
image_at f P (x ∷ xs) zero d here = here
image_at f P (x ∷ xs) (suc i) d here = image_at f P xs i d here

-- an item at a place, by its image
pub at_image : {A B : Type 0} (f : A → B) (xs : List A) (i : ℕ) (d : A) → i < length xs → slice_get (map f xs) i ≡ Some (f (get_or xs i d))
at_image f [] i d within = absurd (omega arith)
at_image f (x ∷ xs) zero d within = refl
at_image f (x ∷ xs) (suc i) d within = at_image f xs i d (omega arith)
