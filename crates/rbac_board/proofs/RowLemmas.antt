-- What is known of the first cells of a row, where more is learned.
use Rattle.std.proofs.Common.{◌≡◌, ◌≤◌, ◌<◌, ◌+◌, ◌⊎◌, inl, inr, ℕ, List, [], ◌∷◌, ◌++◌, length, map, take, take-suc, drop, slice_get, Some, Result, Ok, Err, OnOk, OnErr, ap, sym, subst, ◌∙◌, arith, add-one, length-append}
use Rattle.std.proofs.lemmas.List.{map-append, take-map, drop-map, take-take, take-append-drop, length-map, length-take-le}
use Rattle.std.proofs.lemmas.Option.{slice_get_within, get_or_from_slice_get}
use Rattle.rbac_board.specs.Address.{Address}
use Rattle.rbac_board.specs.Seen.{Seen}
use Rattle.rbac_board.specs.Known.{Known, IsOf, known_of}

-- the first items of a list and those from there on, as far as another place
pub take_more : {A : Type 0} (xs : List A) (m n : ℕ) → m ≤ n → take m xs ++ drop m (take n xs) ≡ take n xs
take_more xs m n le = ap (λ l. l ++ drop m (take n xs)) (sym (take-take m n xs le)) ∙ take-append-drop m (take n xs)

-- what two marks of a row know, the second from where the first ends, as far as some place
pub of_more : {T : Type 0} (row : List Address) (xs ys : List (Seen T)) (count : ℕ) → length xs ≤ count → count ≤ length ys → IsOf row (known_of xs) → IsOf row (known_of ys)
    → IsOf row (known_of (xs ++ drop (length xs) (take count ys)))
of_more {T} row xs ys count low high of also =
    let all = xs ++ drop (length xs) (take count ys) in
    let cut : length (take count ys) ≡ count = length-take-le count ys high in
    let long : length (map (λ (s : Seen T). s.value) all) ≡ count = length-map all (λ (s : Seen T). s.value) ∙ long_more in
    let within : length ys ≤ length row = subst_within in record {
      within = omega (arith, long, within, high);
      cells =
          map-append (λ (s : Seen T). s.cell) xs (drop (length xs) (take count ys))
          ∙ ap (λ l. l ++ map (λ (s : Seen T). s.cell) (drop (length xs) (take count ys))) (of.cells ∙ ap (λ n. take n row) (length-map xs (λ (s : Seen T). s.value)))
          ∙ ap (λ l. take (length xs) row ++ l)
          (sym (drop-map (λ (s : Seen T). s.cell) (length xs) (take count ys))
          ∙ ap (drop (length xs)) (sym (take-map (λ (s : Seen T). s.cell) count ys) ∙ ap (take count) (also.cells ∙ ap (λ n. take n row) (length-map ys (λ (s : Seen T). s.value))) ∙ take-take count (length ys) row high))
          ∙ take_more row (length xs) count low
          ∙ ap (λ n. take n row) (sym long);
    }
  where
    long_more : length (xs ++ drop (length xs) (take count ys)) ≡ count
    long_more =
        let a : length (take (length xs) (take count ys) ++ drop (length xs) (take count ys)) ≡ length (take count ys) = ap length (take-append-drop (length xs) (take count ys)) in
        let b : length (take count ys) ≡ count = length-take-le count ys high in
        let c : length (take (length xs) (take count ys)) ≡ length xs = length-take-le (length xs) (take count ys) (omega arith) in
        let d : length (take (length xs) (take count ys) ++ drop (length xs) (take count ys)) ≡ length (take (length xs) (take count ys)) + length (drop (length xs) (take count ys)) =
        length-append (take (length xs) (take count ys)) (drop (length xs) (take count ys)) in
        let e : length (xs ++ drop (length xs) (take count ys)) ≡ length xs + length (drop (length xs) (take count ys)) = length-append xs (drop (length xs) (take count ys)) in omega arith

    subst_within : length ys ≤ length row
    subst_within = let a : length (map (λ (s : Seen T). s.value) ys) ≤ length row = also.within in let b : length (map (λ (s : Seen T). s.value) ys) ≡ length ys = length-map ys (λ (s : Seen T). s.value) in omega arith

-- what is known of a row, and the next cell
pub of_next : {T : Type 0} (row : List Address) (k more : Known T) (cell : Address) (value : T) → IsOf row k → slice_get row (length k.values) ≡ Some cell → more.cells ≡ k.cells ++ cell ∷ [] → more.values ≡ k.values ++ value ∷ [] → IsOf row more
of_next row k more cell value of next cells values =
    let n = length k.values in
    let long : length more.values ≡ n + 1 = ap length values ∙ length-append k.values (value ∷ []) in
    let within : n < length row = slice_get_within row n cell next in record {
      within = omega (arith, long, within);
      cells =
          cells
          ∙ ap (λ l. l ++ cell ∷ []) of.cells
          ∙ ap (λ c. take n row ++ c ∷ []) (sym (get_or_from_slice_get row n cell cell next))
          ∙ sym (take-suc row n cell within)
          ∙ ap (λ m. take m row) (sym (long ∙ add-one n));
    }

-- the same where a cell may be set
pub of_set : {T E : Type 0} (result : Result (Unit {0}) E) (row : List Address) (k more : Known T) (place : ℕ) (cell : Address) (value : T) → IsOf row k → (place ≡ length k.values) ⊎ (length row ≤ place) → slice_get row place ≡ Some cell
    → OnOk result (more.cells ≡ k.cells ++ cell ∷ []) → OnOk result (more.values ≡ k.values ++ value ∷ []) → OnErr result (more ≡ k) → IsOf row more
of_set (Ok done) row k more place cell value of (inl next) here cells values same =
    of_next row k more cell value of (ap (slice_get row) (sym next) ∙ here) cells values
of_set (Ok done) row k more place cell value of (inr beyond) here cells values same =
    absurd (omega (arith, slice_get_within row place cell here, beyond))
of_set (Err refusal) row k more place cell value of next here cells values same = subst (IsOf row) (sym same) of
