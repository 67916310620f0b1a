-- Lists that go on where another one ends.
use Rattle.std.proofs.Common.{List, [], ◌++◌, sym, ap, subst, ◌∙◌, append_assoc, append-nil}
use Rattle.rbac_words.specs.Play.{IsPrefixOf}

module _ {X : Type 0} where
  pub prefix_self : (xs : List X) → IsPrefixOf xs xs
  prefix_self xs = ([], append-nil xs)

  -- a list that grows still goes on there
  pub prefix_more : (xs ys more : List X) → IsPrefixOf xs ys → IsPrefixOf xs (ys ++ more)
  prefix_more xs ys more h = (h.0 ++ more, sym (append_assoc xs h.0 more) ∙ ap (λ l. l ++ more) h.1)

  pub prefix_trans : (xs ys zs : List X) → IsPrefixOf xs ys → IsPrefixOf ys zs → IsPrefixOf xs zs
  prefix_trans xs ys zs h k = subst (IsPrefixOf xs) k.1 (prefix_more xs ys k.0 h)
