-- What follows where two lists agree.
use Rattle.std.proofs.Common.{◌≡◌, ◌≤◌, List, ◌++◌, length, take, drop, ap, sym, ◌∙◌, arith}
use Rattle.std.proofs.lemmas.List.{take_all, take-append-drop}
use Rattle.rbac_board.specs.Known.{Agree}

-- the shorter is the beginning of the longer
pub begins_where_shorter : {A : Type 0} (xs ys : List A) → Agree xs ys → length xs ≤ length ys → xs ≡ take (length xs) ys
begins_where_shorter xs ys agree shorter = sym (take_all (length ys) xs shorter) ∙ agree

-- and the longer goes on from there
pub goes_on_where_longer : {A : Type 0} (xs ys : List A) → Agree xs ys → length xs ≤ length ys → (more : List A) × (xs ++ more ≡ ys)
goes_on_where_longer xs ys agree shorter =
    (drop (length xs) ys, ap (λ begin. begin ++ drop (length xs) ys) (begins_where_shorter xs ys agree shorter) ∙ take-append-drop (length xs) ys)

-- lists of one length are one
pub same_where_as_long : {A : Type 0} (xs ys : List A) → Agree xs ys → length xs ≡ length ys → xs ≡ ys
same_where_as_long xs ys agree long =
    begins_where_shorter xs ys agree (omega arith) ∙ take_all (length xs) ys (omega arith)
