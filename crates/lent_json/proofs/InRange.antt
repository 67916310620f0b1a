-- What is in range is what `serde_json` reads.
use Rattle.std.proofs.Common.{◌≡◌, Bool, true, false, ◌&&◌, Option, Some, None, is_some, option_map, option_and_then, refl, ap, ◌∙◌}
use Rattle.json.specs.Json as json
use Rattle.serde_json.specs.Data.{Num, number, array, object, item, Members, no_members, put}
use Rattle.serde_json.specs.Read.{number_of, of_json, of_items, of_members}
use Rattle.lent_json.specs.Data.{number_or_null, data_of, items_of, members_of, is_in_range, are_in_range, members_in_range}

-- what is read of a value: what it stands for where it is in range, and else nothing
abbrev pub if_so : {A : Type 0} → Bool → A → Option A
if_so true x = Some x
if_so false x = None

number_read : (o : Option Num) → option_map number o ≡ if_so (is_some o) (number_or_null o)
number_read None = refl
number_read (Some n) = refl

map_if : {A B : Type 0} → (f : A → B) (b : Bool) (x : A) → option_map f (if_so b x) ≡ if_so b (f x)
map_if f true x = refl
map_if f false x = refl

both_if : {A B C : Type 0} → (f : A → B → C) (b c : Bool) (x : A) (y : B) → option_and_then (λ a. option_map (f a) (if_so c y)) (if_so b x) ≡ if_so (b && c) (f x y)
both_if f true c x y = map_if (f x) c y
both_if f false c x y = refl

then_if : {A B : Type 0} → (f : A → Option B) (b c : Bool) (x : A) (y : B) → f x ≡ if_so c y → option_and_then f (if_so b x) ≡ if_so (b && c) y
then_if f true c x y is = is
then_if f false c x y is = refl

mutual
  pub in_range : (j : json.Json) → of_json j ≡ if_so (is_in_range j) (data_of j)
  in_range json.null = refl
  in_range (json.boolean b) = refl
  in_range (json.number s) = number_read (number_of s)
  in_range (json.string s) = refl
  in_range (json.array js) = ap (option_map array) (all_in_range js) ∙ map_if array (are_in_range js) (items_of js)
  in_range (json.object ms) = ap (option_map object) (each_in_range ms no_members) ∙ map_if object (members_in_range ms) (members_of ms no_members)

  all_in_range : (js : json.Items) → of_items js ≡ if_so (are_in_range js) (items_of js)
  all_in_range json.no_items = refl
  all_in_range (json.item j js) =
      ap (λ o. option_and_then (λ d. option_map (item d) (of_items js)) o) (in_range j)
      ∙ ap (λ o. option_and_then (λ d. option_map (item d) o) (if_so (is_in_range j) (data_of j))) (all_in_range js)
      ∙ both_if item (is_in_range j) (are_in_range js) (data_of j) (items_of js)

  each_in_range : (ms : json.Members) (found : Members) → of_members ms found ≡ if_so (members_in_range ms) (members_of ms found)
  each_in_range json.no_members found = refl
  each_in_range (json.member k j ms) found =
      ap (λ o. option_and_then (λ d. of_members ms (put k d found)) o) (in_range j)
      ∙ then_if (λ d. of_members ms (put k d found)) (is_in_range j) (members_in_range ms) (data_of j) (members_of ms (put k (data_of j) found)) (each_in_range ms (put k (data_of j) found))
