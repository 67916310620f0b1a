-- The two elements of an array.
use Rattle.std.proofs.Common.{◌≡◌, List, [], ◌∷◌, length, None, refl}
use Rattle.lent_json.specs.Data.{items}
use Rattle.lent_json.specs.Data.{Lent}
use Rattle.rbac_message_text.specs.Message.{two_of}

-- an array that has not two has none
pub not_two : (array : List Lent) → (length array ≡ 2 → ⊥) → two_of (items array) ≡ None
not_two [] other = refl
not_two (a ∷ []) other = refl
not_two (a ∷ b ∷ []) other = absurd (other refl)
not_two (a ∷ b ∷ c ∷ rest) other = refl
