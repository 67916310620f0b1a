-- The value of a text.
use Rattle.std.proofs.Common.{◌≡◌, ◌<◌, ◌≤◌, ℕ, List, length, Some, None, Ok, Err, refl, IsUtf8}
use Rattle.std.specs.Option.{ok_or}
use Rattle.std.proofs.lemmas.Bool.{lt-ltb, le-ltb}
use Rattle.serde_json.specs.Data.{Data}
use Rattle.serde_json.specs.Read.{read}
use Rattle.rbac_text.specs.declared.refusal.LineRefusal.TheVariants.{TooLong, NotJson}
use Rattle.rbac_text.specs.Value.{json_of, value_within}
use Rattle.rbac_text.proofs.Utf8Lemmas.{parsed}

module _ (longest : ℕ) (text : List ℕ) where
  -- a text that is short enough has the value of its JSON
  pub value_of_short : length text ≤ longest → value_within longest text ≡ ok_or (json_of text) NotJson
  value_of_short short = rw (le-ltb longest (length text) short) refl

  -- a text of JSON has its value
  pub value_of_json : (d : Data) → length text ≤ longest → IsUtf8 text → read text ≡ Some d → value_within longest text ≡ Ok d
  value_of_json d short utf8 is = rw (value_of_short short, parsed read text d utf8 is) refl

  -- and one that is too long has none
  pub value_of_long : longest < length text → value_within longest text ≡ Err TooLong
  value_of_long long = rw (lt-ltb longest (length text) long) refl
