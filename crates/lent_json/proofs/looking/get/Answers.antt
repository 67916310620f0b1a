use Rattle.std.proofs.Common.{◌≡◌, Option, Some, None, option_map, refl, ap, ◌∙◌, List, ℕ}
use Rattle.json.specs.Json as json
use Rattle.json.specs.Find as lent
use Rattle.json.specs.Value.{value_view}
use Rattle.json.specs.declared.value.Value.{Value}
use Rattle.std.specs.declared.alloc.Global.{Global}
use Rattle.std.specs.Borrow.{Bor}
use Rattle.serde_json.specs.Data.{Num}
use Rattle.serde_json.specs.Find as find
use Rattle.serde_json.specs.Read.{number_of}
use Rattle.lent_json.specs.Data.{data_of, meaning, members_in, number_or_null}
use Rattle.lent_json.proofs.Found.{found_last}
use Rattle.lent_json.proofs.looking.get.Goals as goal

no_number : (name : List ℕ) (o : Option Num) → None ≡ find.get_member name (members_in (number_or_null o))
no_number name None = refl
no_number name (Some n) = refl

in_data : (name : List ℕ) (j : json.Json) → option_map data_of (lent.get name j) ≡ find.get_member name (members_in (data_of j))
in_data name json.null = refl
in_data name (json.boolean b) = refl
in_data name (json.number s) = no_number name (number_of s)
in_data name (json.string s) = refl
in_data name (json.array js) = refl
in_data name (json.object ms) = found_last name ms

mapped : (o : Option (Bor (Value Global))) → option_map (λ v. meaning v.now) o ≡ option_map data_of (option_map (λ v. value_view v.now) o)
mapped None = refl
mapped (Some v) = refl

pub returns : goal.returns
returns c = mapped c.get.result ∙ ap (option_map data_of) c.get.ensures ∙ in_data c.args.key.now (value_view c.args.object.now)
