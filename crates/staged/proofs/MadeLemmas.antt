-- What changes make, taken apart.
use Rattle.std.proofs.Common.{ℕ, ◌≡◌, ◌+◌, ◌<◌, List, [], ◌∷◌, ◌++◌, length, get_or, take, refl, sym, ap, ◌∙◌}
use Rattle.std.proofs.lemmas.List.{take_more}
use Rattle.staged.specs.Made.{made_all}

module _ {Change Content : Type 0} (made : Change → Content → Content) where
  pub made-append : (xs ys : List Change) (content : Content) → made_all made (xs ++ ys) content ≡ made_all made ys (made_all made xs content)
  made-append [] ys content = refl
  made-append (x ∷ xs) ys content = made-append xs ys (made x content)

  -- one change more
  pub made_more : (xs : List Change) (i : ℕ) (x : Change) (content : Content) → i < length xs → x ≡ get_or xs i x → made_all made (take (i + 1) xs) content ≡ made x (made_all made (take i xs) content)
  made_more xs i x content lt is = ap (λ t. made_all made t content) (take_more xs i x lt ∙ ap (λ t. take i xs ++ t ∷ []) (sym is)) ∙ made-append (take i xs) (x ∷ []) content

-- changes that make the same
module _ {Change Content : Type 0} (f g : Change → Content → Content) where
  pub made-alike : ((x : Change) (content : Content) → f x content ≡ g x content) → (xs : List Change) (content : Content) → made_all f xs content ≡ made_all g xs content
  made-alike alike [] content = refl
  made-alike alike (x ∷ xs) content = ap (made_all f xs) (alike x content) ∙ made-alike alike xs (g x content)
