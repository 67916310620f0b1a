-- What bytes stand for, by their value in the grammar.
use Rattle.std.proofs.Common.{◌≡◌, ℕ, Bool, true, false, List, Some, None, if◌then◌else◌, option_and_then, IsUtf8, refl, ap, ◌∙◌}
use Rattle.std.specs.Str.{is_utf8}
use Rattle.std.proofs.lemmas.Str.{is_utf8-from_IsUtf8, IsUtf8-from_is_utf8}
use Rattle.json.specs.Json.{Json}
use Rattle.serde_json.specs.Read.{of_json, read}
use Rattle.lent_json.specs.Data.{data_of, document, is_in_range, json_of}
use Rattle.lent_json.proofs.InRange.{if_so, in_range}

read_is : (text : List ℕ) (j : Json) → document text ≡ Some j → read text ≡ if_so (is_in_range j) (data_of j)
read_is text j is = ap (option_and_then of_json) is ∙ in_range j

pub not_utf8 : (text : List ℕ) → (IsUtf8 text → ⊥) → json_of text ≡ None
not_utf8 text never = go (is_utf8 text) refl
  where
    go : (b : Bool) → is_utf8 text ≡ b → (if b then read text else None) ≡ None
    go true is = absurd (never (IsUtf8-from_is_utf8 text is))
    go false is = refl

pub read_in_range : (text : List ℕ) (j : Json) → IsUtf8 text → document text ≡ Some j → is_in_range j ≡ true → json_of text ≡ Some (data_of j)
read_in_range text j utf8 is within = rw (is_utf8-from_IsUtf8 text utf8) (read_is text j is ∙ ap (λ b. if_so b (data_of j)) within)

pub read_out_of_range : (text : List ℕ) (j : Json) → IsUtf8 text → document text ≡ Some j → is_in_range j ≡ false → json_of text ≡ None
read_out_of_range text j utf8 is within = rw (is_utf8-from_IsUtf8 text utf8) (read_is text j is ∙ ap (λ b. if_so b (data_of j)) within)

pub no_document : (text : List ℕ) → IsUtf8 text → document text ≡ None → json_of text ≡ None
no_document text utf8 is = rw (is_utf8-from_IsUtf8 text utf8) (ap (option_and_then of_json) is)
