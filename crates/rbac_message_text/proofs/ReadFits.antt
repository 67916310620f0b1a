-- What is read as a command, or as a message, is such that a reader takes what is written of it: names, sets of names, numbers of 32 bits.
use Rattle.std.proofs.Common.{ℕ, Bool, true, false, ◌≡◌, ◌<◌, ◌^◌, cond, nat_lt, List, [], ◌∷◌, refl, sym, ap, subst, ◌∙◌, arith, Option, Some, None, option_and_then, is_some, ok_or, Result, Ok, Err, IsTrue, codes}
use Rattle.std.specs.List.{list_all, AllByRecursion as Each}
use Rattle.std.specs.Str.{bytes_eq}
use Rattle.std.proofs.lemmas.Bool.Decides.{nat_tests}
use Rattle.serde_json.specs.Data.{Data, Items, no_items, item, Members}
use Rattle.serde_json.specs.Find.{get_member, as_array, as_number, as_object, as_u64}
use Rattle.sorted_keys.specs.Keys.{set_of}
use Rattle.sorted_keys.proofs.Gathered.{list_all-set_of, sorted_set_of}
use Rattle.rbac_terms.specs.Name.{Name, is_name, name_cmp}
use Rattle.rbac_terms.proofs.NameLemmas.{names_total, names_exact}
use Rattle.rbac_terms.specs.declared.review.Review.{Review}
use Rattle.rbac_terms.specs.declared.command.Command.{Command}
use Rattle.rbac_terms.specs.declared.command.Command.TheVariants.{Review as ReviewCommand}
use Rattle.rbac_text.specs.declared.refusal.LineRefusal.{LineRefusal}
use Rattle.rbac_text.specs.declared.refusal.LineRefusal.TheVariants.{BadName, WrongKind}
use Rattle.rbac_text.specs.Steps.{◌>>=◌, ◌>>◌}
use Rattle.rbac_text.specs.Fields.{Reading, value_in, if_small, as_whole, whole_in, objects_in, text_in, name_of, name_in, texts_of, names_of, names_in, only_keys, unknown}
use Rattle.rbac_text.specs.Command.{Kind, a_name, a_set, a_whole, Value, Shape, Values, made_of, Row, value_at, values_in, whole_of, of_row, by_row, some_names, field_of, fields_of, review_fields, set_review_rows, review_rows, separation_rows, session_rows, hierarchy_rows, role_rows, set_review, review_command, separation_command, session_command, hierarchy_command, command_of, keys_of}
use Rattle.rbac_text.specs.CommandArray.{command_in, commands_of}
use Rattle.rbac_text.specs.CommandText.{IsField, AreFields}
use Rattle.rbac_words.specs.declared.message.Message.{Message}
use Rattle.rbac_words.specs.declared.message.Message.TheVariants.{Batch, Ack}
use Rattle.rbac_message_text.specs.Message.{stamp_in, batch_of, acknowledgement_of, message_of}
use Rattle.rbac_message_text.proofs.CommandsBack.{Fits}
use Rattle.rbac_message_text.proofs.MessageBack.{IsAsked}

-- ---- Steps of a reading

-- what the first step read, where the reading ended well
pub read_first : {T U E : Type 0} (r : Result T E) (next : T → Result U E) (u : U) → (r >>= next) ≡ Ok u → (t : T) × (r ≡ Ok t) × (next t ≡ Ok u)
read_first (Ok t) next u e = (t, refl, e)
read_first (Err refusal) next u e = let no : ⊥ = cc in absurd no

pub read_behind : {T U E : Type 0} (r : Result T E) (next : Result U E) (u : U) → (r >> next) ≡ Ok u → next ≡ Ok u
read_behind (Ok t) next u e = e
read_behind (Err refusal) next u e = let no : ⊥ = cc in absurd no

pub same : {T E : Type 0} (t u : T) → ◌≡◌ {A = Result T E} (Ok t) (Ok u) → t ≡ u
same t u e = cc

one : {T : Type 0} (t u : T) → Some t ≡ Some u → t ≡ u
one t u e = cc

found : {T : Type 0} (o : Option T) (refusal : LineRefusal) (t : T) → ok_or o refusal ≡ Ok t → o ≡ Some t
found (Some u) refusal t e = ap Some (same {E = LineRefusal} u t e)
found None refusal t e = let no : ⊥ = cc in absurd no

-- ---- One value

name_fits : (text name : List ℕ) → name_of text ≡ Ok name → IsTrue (is_name name)
name_fits text name e = go (is_name text) refl
  where
    go : (b : Bool) → is_name text ≡ b → IsTrue (is_name name)
    go true is = let read : ◌≡◌ {A = Reading Name} (Ok text) (Ok name) = sym (ap (λ b. cond {A = Reading Name} b (Ok text) (Err BadName)) is) ∙ e in subst (λ n. is_name n ≡ true) (same {E = LineRefusal} text name read) is
    go false is = let read : ◌≡◌ {A = Reading Name} (Err BadName) (Ok name) = sym (ap (λ b. cond {A = Reading Name} b (Ok text) (Err BadName)) is) ∙ e in let no : ⊥ = cc in absurd no

small_fits : (m n : ℕ) → if_small m ≡ Some n → n < 2 ^ 32
small_fits m n e = go (nat_lt m (2 ^ 32)) refl
  where
    go : (b : Bool) → nat_lt m (2 ^ 32) ≡ b → n < 2 ^ 32
    go true is = let small : m < 2 ^ 32 = grind (arith, nat_tests) in let read : ◌≡◌ {A = Option ℕ} (Some m) (Some n) = sym (ap (λ b. cond {A = Option ℕ} b (Some m) None) is) ∙ e in subst (λ k. k < 2 ^ 32) (one m n read) small
    go false is = let read : ◌≡◌ {A = Option ℕ} None (Some n) = sym (ap (λ b. cond {A = Option ℕ} b (Some m) None) is) ∙ e in let no : ⊥ = cc in absurd no

some_first : {T U : Type 0} (o : Option T) (next : T → Option U) (u : U) → option_and_then next o ≡ Some u → (t : T) × (o ≡ Some t) × (next t ≡ Some u)
some_first (Some t) next u e = (t, refl, e)
some_first None next u e = let no : ⊥ = cc in absurd no

pub whole_fits : (value : Data) (n : ℕ) → as_whole value ≡ Some n → n < 2 ^ 32
whole_fits value n e = let r = some_first (option_and_then as_u64 (as_number value)) if_small n e in small_fits r.0 n r.2

pub whole_in_fits : (key : List ℕ) (fields : Members) (n : ℕ) → whole_in key fields ≡ Ok n → n < 2 ^ 32
whole_in_fits key fields n e =
    let r = read_first (value_in key fields) (λ value. ok_or (as_whole value) WrongKind) n e in whole_fits r.0 n (found (as_whole r.0) WrongKind n r.2)

names_fit : (array : Items) (names : List Name) → names_of array ≡ Ok names → IsField ([], some_names names)
names_fit array names e =
    let r = read_first (ok_or (texts_of array) WrongKind) (λ texts. cond {A = Reading (List Name)} (list_all is_name texts) (Ok (set_of name_cmp texts)) (Err BadName)) names e in go r.0 r.2 (list_all is_name r.0) refl
  where
    go : (texts : List (List ℕ)) → cond {A = Reading (List Name)} (list_all is_name texts) (Ok (set_of name_cmp texts)) (Err BadName) ≡ Ok names → (b : Bool) → list_all is_name texts ≡ b → IsField ([], some_names names)
    go texts f true is =
        let read : ◌≡◌ {A = Reading (List Name)} (Ok (set_of name_cmp texts)) (Ok names) = sym (ap (λ b. cond {A = Reading (List Name)} b (Ok (set_of name_cmp texts)) (Err BadName)) is) ∙ f in
        subst (λ ns. IsField ([], some_names ns)) (same {E = LineRefusal} (set_of name_cmp texts) names read)
        (list_all-set_of names_exact is_name texts ∙ is, sorted_set_of names_total texts)
    go texts f false is = let read : ◌≡◌ {A = Reading (List Name)} (Err BadName) (Ok names) = sym (ap (λ b. cond {A = Reading (List Name)} b (Ok (set_of name_cmp texts)) (Err BadName)) is) ∙ f in let no : ⊥ = cc in absurd no

value_fits : (kind : Kind) (key : List ℕ) (fields : Members) (value : Value kind) → value_at kind key fields ≡ Ok value → IsField (key, field_of kind value)
value_fits a_name key fields name e = let r = read_first (text_in key fields) name_of name e in name_fits r.0 name r.2
value_fits a_set key fields names e =
    let r = read_first (value_in key fields) (λ value. ok_or (as_array value) WrongKind >>= names_of) names e in
    let s = read_first (ok_or (as_array r.0) WrongKind) names_of names r.2 in names_fit s.0 names s.2
value_fits a_whole key fields n e = whole_in_fits key fields n e

-- ---- A row of the table

values_fit : (shape : Shape) (fields : Members) (values : Values shape) → values_in shape fields ≡ Ok values → AreFields (fields_of shape values)
values_fit [] fields values e = tt
values_fit (place ∷ shape) fields values e =
    let r = read_first (value_at place.1 place.0 fields) (λ value. values_in shape fields >>= λ rest. Ok (value, rest)) values e in
    let s = read_first (values_in shape fields) (λ rest. Ok (r.0, rest)) values r.2 in
    subst (λ (vs : Values (place ∷ shape)). AreFields (fields_of (place ∷ shape) vs)) (same {E = LineRefusal} (r.0, s.0) values s.2)
    (value_fits place.1 place.0 fields r.0 r.1, values_fit shape fields s.0 s.1)

-- whatever fields a row's values are, this holds of what it makes of them
abbrev Makes : {T : Type 0} → (T → Type 0) → Row T → Type 0
Makes P told = (values : Values told.shape) → AreFields (fields_of told.shape values) → P (made_of told.shape told.made values)

row_fits : {T : Type 0} (P : T → Type 0) (told : Row T) (fields : Members) (t : T) → Makes P told → of_row told fields ≡ Ok t → P t
row_fits P told fields t makes e =
    let r = read_first (whole_of told.shape fields) (λ values. Ok (made_of told.shape told.made values)) t e in
    let s = read_first (values_in told.shape fields) (λ values. only_keys (codes "name" ∷ keys_of told.shape) fields >> Ok values) r.0 r.1 in
    let whole = read_behind (only_keys (codes "name" ∷ keys_of told.shape) fields) (Ok s.0) r.0 s.2 in
    subst P (same {E = LineRefusal} (made_of told.shape told.made r.0) t r.2)
    (makes r.0 (subst (λ vs. AreFields (fields_of told.shape vs)) (same {E = LineRefusal} s.0 r.0 whole) (values_fit told.shape fields s.0 s.1)))

pub either : {T : Type 0} {P : Type 0} (b : Bool) (first second : Reading T) (t : T) → (first ≡ Ok t → P) → (second ≡ Ok t → P) → cond b first second ≡ Ok t → P
either true first second t f g e = f e
either false first second t f g e = g e

rows_fit : {T : Type 0} (P : T → Type 0) (rows : List (Row T)) (other : List ℕ → Members → Reading T) (word : List ℕ) (fields : Members) (t : T)
    → Each (Makes P) rows → (other word fields ≡ Ok t → P t) → by_row rows other word fields ≡ Ok t → P t
rows_fit P [] other word fields t makes others e = others e
rows_fit P (told ∷ rows) other word fields t makes others e =
    either (bytes_eq word told.word) (of_row told fields) (by_row rows other word fields) t (row_fits P told fields t makes.0) (rows_fit P rows other word fields t makes.1 others) e

-- ---- A command

FitsReview : Review → Type 0
FitsReview review = AreFields (review_fields review)

none_known : {T : Type 0} (P : T → Type 0) (word : List ℕ) (fields : Members) (t : T) → unknown word fields ≡ Ok t → P t
none_known P word fields t e = let no : ⊥ = cc in absurd no

set_reviews_fit : (word : List ℕ) (fields : Members) (review : Review) → set_review word fields ≡ Ok review → FitsReview review
unfolding set_review FitsReview
set_reviews_fit word fields review e = rows_fit FitsReview set_review_rows unknown word fields review ((λ vs h. h), ((λ vs h. h), ((λ vs h. h), ((λ vs h. h), ((λ vs h. h), ((λ vs h. h), tt)))))) (none_known FitsReview word fields review) e

reviews_fit : (word : List ℕ) (fields : Members) (c : Command) → review_command word fields ≡ Ok c → Fits c
unfolding review_command FitsReview
reviews_fit word fields c e =
    let r = read_first (by_row review_rows set_review word fields) (λ review. Ok (ReviewCommand review)) c e in
    subst Fits (same {E = LineRefusal} (ReviewCommand r.0) c r.2)
    (rows_fit FitsReview review_rows set_review word fields r.0
    ((λ vs h. h), ((λ vs h. h), ((λ vs h. h), ((λ vs h. h), ((λ vs h. h), ((λ vs h. h), ((λ vs h. h), ((λ vs h. h), ((λ vs h. h), ((λ vs h. h), tt))))))))))
    (set_reviews_fit word fields r.0) r.1)

separation_fits : (word : List ℕ) (fields : Members) (c : Command) → separation_command word fields ≡ Ok c → Fits c
unfolding separation_command
separation_fits word fields c e =
    rows_fit Fits separation_rows review_command word fields c
    ((λ vs h. h), ((λ vs h. h), ((λ vs h. h), ((λ vs h. h), ((λ vs h. h), ((λ vs h. h), ((λ vs h. h), ((λ vs h. h), ((λ vs h. h), ((λ vs h. h), tt))))))))))
    (reviews_fit word fields c) e

sessions_fit : (word : List ℕ) (fields : Members) (c : Command) → session_command word fields ≡ Ok c → Fits c
unfolding session_command
sessions_fit word fields c e = rows_fit Fits session_rows separation_command word fields c ((λ vs h. h), ((λ vs h. h), ((λ vs h. h), ((λ vs h. h), ((λ vs h. h), tt))))) (separation_fits word fields c) e

hierarchy_fits : (word : List ℕ) (fields : Members) (c : Command) → hierarchy_command word fields ≡ Ok c → Fits c
unfolding hierarchy_command
hierarchy_fits word fields c e = rows_fit Fits hierarchy_rows session_command word fields c ((λ vs h. h), ((λ vs h. h), ((λ vs h. h), ((λ vs h. h), tt)))) (sessions_fit word fields c) e

pub command_fits : (fields : Members) (c : Command) → command_of fields ≡ Ok c → Fits c
command_fits fields c e =
    let r = read_first (text_in (codes "name") fields) (λ name. by_row role_rows hierarchy_command name fields) c e in
    rows_fit Fits role_rows hierarchy_command r.0 fields c
    ((λ vs h. h), ((λ vs h. h), ((λ vs h. h), ((λ vs h. h), ((λ vs h. h), ((λ vs h. h), ((λ vs h. h), ((λ vs h. h), tt)))))))) (hierarchy_fits r.0 fields c) r.2

pub commands_fit : (array : Items) (cs : List Command) → commands_of array ≡ Ok cs → Each Fits cs
commands_fit no_items cs e = subst (Each Fits) (same {E = LineRefusal} [] cs e) tt
commands_fit (item value rest) cs e =
    let r = read_first (command_in value) (λ c. commands_of rest >>= λ others. Ok (c ∷ others)) cs e in
    let s = read_first (commands_of rest) (λ others. Ok (r.0 ∷ others)) cs r.2 in
    let t = read_first (ok_or (as_object value) WrongKind) command_of r.0 r.1 in
    subst (Each Fits) (same {E = LineRefusal} (r.0 ∷ s.0) cs s.2) (command_fits t.0 r.0 t.2, commands_fit rest s.0 s.1)

-- ---- A message

batch_asked : (object : Members) (m : Message) → batch_of object ≡ Ok m → IsAsked m
batch_asked object m e =
    let caller = read_first (whole_in (codes "caller") object) _ m e in
    let array = read_first (objects_in (codes "commands") object) _ m caller.2 in
    let serial = read_first (whole_in (codes "serial") object) _ m array.2 in
    let stamp = read_first (stamp_in (codes "stamp") object) _ m serial.2 in
    let whole = read_behind (only_keys (codes "caller" ∷ codes "commands" ∷ codes "serial" ∷ codes "stamp" ∷ []) object) _ m stamp.2 in
    let commands = read_first (commands_of array.0) (λ cs. Ok (Batch stamp.0 caller.0 serial.0 cs)) m whole in
    subst IsAsked (same {E = LineRefusal} (Batch stamp.0 caller.0 serial.0 commands.0) m commands.2)
    (whole_in_fits (codes "caller") object caller.0 caller.1, (whole_in_fits (codes "serial") object serial.0 serial.1, commands_fit array.0 commands.0 commands.1))

acknowledgement_asked : (object : Members) (m : Message) → acknowledgement_of object ≡ Ok m → IsAsked m
acknowledgement_asked object m e =
    let stamp = read_first (stamp_in (codes "stamp") object) _ m e in
    let whole = read_behind (only_keys (codes "stamp" ∷ []) object) (Ok (Ack stamp.0)) m stamp.2 in
    subst IsAsked (same {E = LineRefusal} (Ack stamp.0) m whole) tt

pub message_asked : (object : Members) (m : Message) → message_of object ≡ Ok m → IsAsked m
message_asked object m e = either (is_some (get_member (codes "commands") object)) (batch_of object) (acknowledgement_of object) m (batch_asked object m) (acknowledgement_asked object m) e
