-- The text of a record in two halves.
use Rattle.std.proofs.Common.{◌≡◌, ℕ, List, ◌++◌, Result, OnOk, append_assoc, subst}
use Rattle.rbac_text.proofs.TextLemmas.{put_before}

in_a_row : (a b c d e f g h i j k : List ℕ) → (a ++ b ++ c ++ d ++ e ++ f) ++ (g ++ h ++ i ++ j ++ k) ≡ a ++ b ++ c ++ d ++ e ++ f ++ g ++ h ++ i ++ j ++ k
in_a_row a b c d e f g h i j k = simp append_assoc

-- the one half is put behind the other
pub put_halves : {T E : Type 0} (r : Result T E) (old mid new a b c d e f g h i j k : List ℕ) → mid ≡ old ++ (a ++ b ++ c ++ d ++ e ++ f) → OnOk r (new ≡ mid ++ (g ++ h ++ i ++ j ++ k))
    → OnOk r (new ≡ old ++ (a ++ b ++ c ++ d ++ e ++ f ++ g ++ h ++ i ++ j ++ k))
put_halves r old mid new a b c d e f g h i j k before behind =
    subst (λ whole. OnOk r (new ≡ old ++ whole)) (in_a_row a b c d e f g h i j k)
    (put_before r old mid new (a ++ b ++ c ++ d ++ e ++ f) (g ++ h ++ i ++ j ++ k) before behind)
