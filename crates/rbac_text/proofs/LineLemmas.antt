-- Commands told as lines, one after the other.
use Rattle.std.proofs.Common.{◌≡◌, ◌<◌, ◌+◌, ℕ, List, [], ◌∷◌, ◌++◌, take, get_or, length, sym, ap, ◌∙◌, subst, append_assoc, append-nil}
use Rattle.std.specs.List.{flat_map, AllByRecursion as Each}
use Rattle.std.proofs.lemmas.List.{take_more}
use Rattle.std.proofs.lemmas.List.Concat.{flat_map-append}

-- one more of what is known of each
each_more : {X : Type 0} (P : X → Type 0) (xs : List X) (x : X) → Each P xs → P x → Each P (xs ++ x ∷ [])
each_more P [] x h p = (p, tt)
each_more P (y ∷ xs) x h p = (h.0, each_more P xs x h.1 p)

-- one more line
pub line_more : {X : Type 0} (line : X → List ℕ) (P : X → Type 0) (old so_far new : List ℕ) (xs : List X) (i : ℕ) (x : X) → i < length xs → x ≡ get_or xs i x
    → so_far ≡ old ++ flat_map line (take i xs) → Each P (take i xs) → new ≡ so_far ++ line x → P x
    → (new ≡ old ++ flat_map line (take (i + 1) xs)) × Each P (take (i + 1) xs)
line_more line P old so_far new xs i x within is before told put this =
    let front = take_more xs i x within ∙ ap (λ y. take i xs ++ y ∷ []) (sym is) in
    let texts = flat_map-append line (take i xs) (x ∷ []) ∙ ap (λ l. flat_map line (take i xs) ++ l) (append-nil (line x)) in (
      put ∙ ap (λ l. l ++ line x) before ∙ append_assoc old (flat_map line (take i xs)) (line x) ∙ ap (λ l. old ++ l) (sym texts ∙ ap (flat_map line) (sym front)),
      subst (Each P) (sym front) (each_more P (take i xs) x told this),
    )
