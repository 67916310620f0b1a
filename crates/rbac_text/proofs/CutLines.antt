-- Lines that are put one after the other are cut into just these.
use Rattle.std.proofs.Common.{◌≡◌, ℕ, List, [], ◌∷◌, ◌++◌, Bool, true, false, not, if◌then◌else◌, map, codes, refl, sym, ap, ◌∙◌, append_assoc, append-nil}
use Rattle.std.specs.List.{flat_map, list_all, AllByRecursion as Each}
use Rattle.std.proofs.lemmas.Bool.{and_parts}
use Rattle.line_engine.specs.Lines.{is_line_feed, ended_lines, open_line, last_line, lines}
use Rattle.rbac_text.specs.Lines.{is_no_feed}

feed_none : (x : ℕ) → is_no_feed x ≡ true → is_line_feed x ≡ false
feed_none x h = go (is_line_feed x) h
  where
    go : (b : Bool) → not b ≡ true → b ≡ false
    go true k = absurd (cc k)
    go false k = refl

ended_one : (begun xs rest : List ℕ) → list_all is_no_feed xs ≡ true → ended_lines begun (xs ++ 10 ∷ rest) ≡ (begun ++ xs) ∷ ended_lines [] rest
ended_one begun [] rest h = ap (λ l. l ∷ ended_lines [] rest) (sym (append-nil begun))
ended_one begun (x ∷ xs) rest h =
    let both = and_parts (is_no_feed x) _ h in
    ap (λ b. if b then begun ∷ ended_lines [] (xs ++ 10 ∷ rest) else ended_lines (begun ++ x ∷ []) (xs ++ 10 ∷ rest)) (feed_none x both.0)
    ∙ ended_one (begun ++ x ∷ []) xs rest both.1
    ∙ ap (λ l. l ∷ ended_lines [] rest) (append_assoc begun (x ∷ []) xs)

open_one : (begun xs rest : List ℕ) → list_all is_no_feed xs ≡ true → open_line begun (xs ++ 10 ∷ rest) ≡ open_line [] rest
open_one begun [] rest h = refl
open_one begun (x ∷ xs) rest h =
    let both = and_parts (is_no_feed x) _ h in
    ap (λ b. if b then open_line [] (xs ++ 10 ∷ rest) else open_line (begun ++ x ∷ []) (xs ++ 10 ∷ rest)) (feed_none x both.0)
    ∙ open_one (begun ++ x ∷ []) xs rest both.1

module _ {X : Type 0} (line : X → List ℕ) where
  -- the lines, each with its line feed
  abbrev with_feeds : List X → List ℕ
  with_feeds xs = flat_map (λ x. line x ++ codes "\n") xs

  ended_all : (xs : List X) → Each (λ x. list_all is_no_feed (line x) ≡ true) xs → ended_lines [] (with_feeds xs) ≡ map line xs
  ended_all [] h = refl
  ended_all (x ∷ xs) h =
      ap (ended_lines []) (append_assoc (line x) (codes "\n") (with_feeds xs))
      ∙ ended_one [] (line x) (with_feeds xs) h.0
      ∙ ap (λ l. line x ∷ l) (ended_all xs h.1)

  open_all : (xs : List X) → Each (λ x. list_all is_no_feed (line x) ≡ true) xs → open_line [] (with_feeds xs) ≡ []
  open_all [] h = refl
  open_all (x ∷ xs) h =
      ap (open_line []) (append_assoc (line x) (codes "\n") (with_feeds xs))
      ∙ open_one [] (line x) (with_feeds xs) h.0
      ∙ open_all xs h.1

  pub lines_cut : (xs : List X) → Each (λ x. list_all is_no_feed (line x) ≡ true) xs → lines (flat_map (λ x. line x ++ codes "\n") xs) ≡ map line xs
  lines_cut xs h =
      ap (λ l. l ++ last_line (open_line [] (with_feeds xs))) (ended_all xs h)
      ∙ ap (λ l. map line xs ++ last_line l) (open_all xs h)
      ∙ append-nil (map line xs)
