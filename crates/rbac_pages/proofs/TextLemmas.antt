-- Putting texts one after the other.
use Rattle.std.proofs.Common.{◌≡◌, ◌<◌, ◌+◌, ℕ, List, [], ◌∷◌, ◌++◌, length, take, get_or, Result, Ok, Err, sym, ap, ◌∙◌, append_assoc, append-nil}
use Rattle.std.specs.List.{flat_map}
use Rattle.std.specs.Prelude.{if◌then◌else◌}
use Rattle.std.specs.Result.{IfOk, OnOk, is_ok}
use Rattle.std.proofs.lemmas.List.{take_more}
use Rattle.std.proofs.lemmas.List.Concat.{flat_map-append}

-- one more
pub one_more : {X : Type 0} (f : X → List ℕ) (old so_far new : List ℕ) (xs : List X) (i : ℕ) (x : X) → i < length xs → x ≡ get_or xs i x
    → so_far ≡ old ++ flat_map f (take i xs) → new ≡ so_far ++ f x → new ≡ old ++ flat_map f (take (i + 1) xs)
one_more f old so_far new xs i x within is before put =
    let front = take_more xs i x within ∙ ap (λ y. take i xs ++ y ∷ []) (sym is) in
    let told = flat_map-append f (take i xs) (x ∷ []) ∙ ap (λ l. flat_map f (take i xs) ++ l) (append-nil (f x)) in
    put ∙ ap (λ l. l ++ f x) before ∙ append_assoc old (flat_map f (take i xs)) (f x) ∙ ap (λ l. old ++ l) (sym told ∙ ap (flat_map f) (sym front))

-- a text of what was found
pub told_of : {T E X : Type 0} (r : Result T E) (items : T → List ℕ) (text_of : X → List ℕ) (P : X → Type 0) (found : X) → P found
    → IfOk r (λ text. items text ≡ text_of found) → IfOk r (λ text. (x : X) × P x × (items text ≡ text_of x))
told_of (Ok text) items text_of P found is h = (found, is, h)
told_of (Err e) items text_of P found is h = tt

-- ---- Pieces that were put one after the other are put as one

pub two_pieces : (old a b first second : List ℕ) → first ≡ old ++ a → second ≡ first ++ b → second ≡ old ++ (a ++ b)
two_pieces old a b first second one two = two ∙ ap (λ l. l ++ b) one ∙ append_assoc old a b

pub three_pieces : (old a b c first second third : List ℕ) → first ≡ old ++ a → second ≡ first ++ b → third ≡ second ++ c → third ≡ old ++ (a ++ b ++ c)
three_pieces old a b c first second third one two three = two_pieces old (a ++ b) c second third (two_pieces old a b first second one two) three

-- where the last piece may want memory
pub ok_two_pieces : {T E : Type 0} (r : Result T E) (old a b first second : List ℕ) → first ≡ old ++ a → OnOk r (second ≡ first ++ b) → OnOk r (second ≡ old ++ (a ++ b))
ok_two_pieces (Ok value) old a b first second one two = two_pieces old a b first second one two
ok_two_pieces (Err refusal) old a b first second one two = tt

pub ok_three_pieces : {T E : Type 0} (r : Result T E) (old a b c first second third : List ℕ) → first ≡ old ++ a → second ≡ first ++ b → OnOk r (third ≡ second ++ c) → OnOk r (third ≡ old ++ (a ++ b ++ c))
ok_three_pieces (Ok value) old a b c first second third one two three = three_pieces old a b c first second third one two three
ok_three_pieces (Err refusal) old a b c first second third one two three = tt

-- where the last piece tells of things
pub ok_all_of : {T E X : Type 0} (r : Result T E) (f : X → List ℕ) (xs ys : List X) (old a first second : List ℕ) → first ≡ old ++ a → ys ≡ xs → OnOk r (second ≡ first ++ flat_map f ys) → OnOk r (second ≡ old ++ (a ++ flat_map f xs))
ok_all_of (Ok value) f xs ys old a first second one are two = two_pieces old a (flat_map f xs) first second one (two ∙ ap (λ l. first ++ flat_map f l) are)
ok_all_of (Err refusal) f xs ys old a first second one are two = tt

pub ok_then : {T E : Type 0} (r : Result T E) (x y z : List ℕ) → OnOk r (x ≡ y) → y ≡ z → OnOk r (x ≡ z)
ok_then (Ok value) x y z one two = one ∙ two
ok_then (Err refusal) x y z one two = tt

-- what a text has where it could grow
pub ok_put : {T E : Type 0} (r : Result T E) (x y z : List ℕ) → x ≡ (if is_ok r then y else z) → OnOk r (x ≡ y)
ok_put (Ok value) x y z put = put
ok_put (Err refusal) x y z put = tt
