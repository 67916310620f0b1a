-- What the text of a command reads as.
use Rattle.std.proofs.Common.{◌≡◌, ◌≤◌, ◌<◌, ◌⊎◌, inl, inr, ℕ, List, [], ◌∷◌, ◌++◌, true, false, Some, option_map, option_and_then, IsTrue, Result, Ok, Err, OnOk, codes, decimal, refl, sym, ap, ◌∙◌, arith, append_assoc, append-nil}
use Rattle.std.proofs.lemmas.Bool.{cases_lt, lt-leb, ne_eqb, and_parts}
use Rattle.std.specs.List.{flat_map, join_by, list_all, AllByRecursion as Each}
use Rattle.json.specs.Json as json
use Rattle.json.specs.Tree as tree
use Rattle.json.specs.Token.{Token}
use Rattle.json.specs.Print.{print, print_from, quoted, escape, escape_byte}
use Rattle.json.proofs.Printed.Strings.{escape_byte_plain}
use Rattle.json.proofs.Printed.Tokens.{tokens-print}
use Rattle.json.proofs.Printed.Trees.{value-json_tokens, ArePrintable-json_tokens}
use Rattle.json.proofs.Printed.Decimals.{IsNumber-decimal}
use Rattle.serde_json.specs.Data.{item, Members, no_members, object, number, string, array, put}
use Rattle.serde_json.specs.Read.{read, of_json, of_items, of_members, max_depth}
use Rattle.serde_json.proofs.Numbers.{number_of-decimal}
use Rattle.rbac_terms.specs.Name.{Name, is_name, is_name_byte}
use Rattle.rbac_terms.specs.declared.separation.Separation.{Separation}
use Rattle.rbac_terms.specs.declared.separation.Separation.TheVariants.{Static, Dynamic}
use Rattle.rbac_terms.specs.declared.review.Review.{Review}
use Rattle.rbac_terms.specs.declared.review.Review.TheVariants.{AssignedUsers, AssignedRoles, AuthorizedUsers, AuthorizedRoles, RolePermissions, UserPermissions, SessionRoles, SessionPermissions, RoleOperationsOnObject, UserOperationsOnObject, RoleSets, RoleSetRoles, RoleSetCardinality}
use Rattle.rbac_terms.specs.declared.command.Command.{Command}
use Rattle.rbac_terms.specs.declared.command.Command.TheVariants.{AddUser, DeleteUser, AddRole, DeleteRole, AssignUser, DeassignUser, GrantPermission, RevokePermission, AddInheritance, DeleteInheritance, AddAscendant, AddDescendant, CreateSet, DeleteSet, AddRoleMember, DeleteRoleMember, SetCardinality, CreateSession, DeleteSession, AddActiveRole, DropActiveRole, CheckAccess, Review as ReviewCommand}
use Rattle.rbac_text.specs.Command.{Field, Fields, one_name, some_names, whole, by_kind, command_word, review_word, command_fields, review_fields}
use Rattle.rbac_text.specs.CommandText.{value_text, field_text, object_text, command_text, IsField, AreFields}
use Rattle.rbac_text.specs.Pieces.{in_quotes}
use Rattle.rbac_text.specs.CommandObject.{items_of, value_of, with_fields, command_object}

-- ---- The JSON that the text is

abbrev pub json_items : List Name → json.Items
json_items [] = json.no_items
json_items (name ∷ names) = json.item (json.string name) (json_items names)

abbrev pub json_value : Field → json.Json
json_value (one_name name) = json.string name
json_value (some_names names) = json.array (json_items names)
json_value (whole n) = json.number (decimal n)

abbrev pub json_members : Fields → json.Members
json_members [] = json.no_members
json_members (field ∷ fields) = json.member field.0 (json_value field.1) (json_members fields)

abbrev pub json_object : List ℕ → Fields → json.Json
json_object word fields = json.object (json.member (codes "name") (json.string word) (json_members fields))

-- ---- Names have nothing to escape

no_control : (x : ℕ) → x < 32 → is_name_byte x ≡ false
no_control x low = rw (lt-leb 65 x (omega arith), lt-leb 97 x (omega arith), lt-leb 48 x (omega arith), ne_eqb x 95 (λ e. omega arith), ne_eqb x 45 (λ e. omega arith), ne_eqb x 46 (λ e. omega arith))

plain_byte : (x : ℕ) → is_name_byte x ≡ true → escape_byte x ≡ x ∷ []
plain_byte x h = escape_byte_plain x (λ e. absurd (cc h)) (λ e. absurd (cc h)) (go (cases_lt x 32))
  where
    go : (x < 32) ⊎ (32 ≤ x) → 32 ≤ x
    go (inl low) = absurd (cc (no_control x low, h))
    go (inr high) = high

pub escape_plain : (s : List ℕ) → list_all is_name_byte s ≡ true → escape s ≡ s
escape_plain [] h = refl
escape_plain (x ∷ s) h = let both = and_parts (is_name_byte x) _ h in λ i. plain_byte x both.0 i ++ escape_plain s both.1 i

pub quoted_name : (name : Name) → is_name name ≡ true → quoted name ≡ in_quotes name
quoted_name name h = ap (λ s. 34 ∷ (s ++ 34 ∷ [])) (escape_plain name (and_parts _ _ h).1)

-- ---- The text of that JSON

print_others : (names : List Name) (ts : List Token) → list_all is_name names ≡ true
    → print_from true (tree.items_tokens (json_items names) ++ ts) ≡ flat_map (λ name. codes "," ++ in_quotes name) names ++ (93 ∷ print_from true ts)
unfolding print_from
print_others [] ts h = refl
print_others (name ∷ names) ts h =
    let both = and_parts (is_name name) _ h in
    ap (λ s. 44 ∷ (s ++ print_from true (tree.items_tokens (json_items names) ++ ts))) (quoted_name name both.0)
    ∙ ap (λ s. 44 ∷ (in_quotes name ++ s)) (print_others names ts both.1)
    ∙ sym (append_assoc (codes "," ++ in_quotes name) (flat_map (λ name. codes "," ++ in_quotes name) names) (93 ∷ print_from true ts))

print_listed : (names : List Name) (ts : List Token) → list_all is_name names ≡ true
    → print_from false (tree.items_tokens (json_items names) ++ ts) ≡ join_by in_quotes (codes ",") names ++ (93 ∷ print_from true ts)
unfolding print_from
print_listed [] ts h = refl
print_listed (name ∷ names) ts h =
    let both = and_parts (is_name name) _ h in
    ap (λ s. s ++ print_from true (tree.items_tokens (json_items names) ++ ts)) (quoted_name name both.0)
    ∙ ap (λ s. in_quotes name ++ s) (print_others names ts both.1)
    ∙ sym (append_assoc (in_quotes name) (flat_map (λ name. codes "," ++ in_quotes name) names) (93 ∷ print_from true ts))

print_value : (key : List ℕ) (field : Field) (ts : List Token) → IsField (key, field) → print_from false (tree.json_tokens (json_value field) ++ ts) ≡ value_text field ++ print_from true ts
unfolding print_from
print_value key (one_name name) ts h = ap (λ s. s ++ print_from true ts) (quoted_name name h)
print_value key (some_names names) ts h =
    ap (λ s. 91 ∷ s) (print_listed names ts h.0)
    ∙ ap (λ s. 91 ∷ s) (sym (append_assoc (join_by in_quotes (codes ",") names) (93 ∷ []) (print_from true ts)))
print_value key (whole n) ts h = refl

-- the keys of the fields are such that nothing in them has to be escaped
abbrev pub AreKeyed : Fields → Type 0
AreKeyed fields = Each (λ field. IsTrue (is_name field.0)) fields

print_fields : (fields : Fields) (ts : List Token) → AreKeyed fields → AreFields fields
    → print_from true (tree.members_tokens (json_members fields) ++ ts) ≡ flat_map field_text fields ++ (125 ∷ print_from true ts)
unfolding print_from
print_fields [] ts keyed h = refl
print_fields (field ∷ fields) ts keyed h =
    let rest = tree.members_tokens (json_members fields) in
    let others = flat_map field_text fields in
    ap (λ s. 44 ∷ ((s ++ 58 ∷ []) ++ print_from false ((tree.json_tokens (json_value field.1) ++ rest) ++ ts))) (quoted_name field.0 keyed.0)
    ∙ ap (λ l. 44 ∷ ((in_quotes field.0 ++ 58 ∷ []) ++ print_from false l)) (append_assoc (tree.json_tokens (json_value field.1)) rest ts)
    ∙ ap (λ s. 44 ∷ ((in_quotes field.0 ++ 58 ∷ []) ++ s)) (print_value field.0 field.1 (rest ++ ts) h.0 ∙ ap (λ s. value_text field.1 ++ s) (print_fields fields ts keyed.1 h.1))
    ∙ grouped field.0 (value_text field.1) others (125 ∷ print_from true ts)
  where
    grouped : (key value others end : List ℕ) → 44 ∷ ((in_quotes key ++ 58 ∷ []) ++ (value ++ (others ++ end))) ≡ ((codes ",\"" ++ key ++ codes "\":" ++ value) ++ others) ++ end
    grouped key value others end = simp append_assoc

pub object_printed : (word : List ℕ) (fields : Fields) (ts : List Token) → is_name word ≡ true → AreKeyed fields → AreFields fields
    → print_from false (tree.json_tokens (json_object word fields) ++ ts) ≡ object_text word fields ++ print_from true ts
unfolding print_from escape_byte
object_printed word fields ts named keyed h =
    let rest = tree.members_tokens (json_members fields) in
    ap (λ s. codes "{\"name\":" ++ (s ++ print_from true (rest ++ ts))) (quoted_name word named)
    ∙ ap (λ s. codes "{\"name\":" ++ (in_quotes word ++ s)) (print_fields fields ts keyed h)
    ∙ grouped word (flat_map field_text fields) (print_from true ts)
  where
    grouped : (word others end : List ℕ) → codes "{\"name\":" ++ (in_quotes word ++ (others ++ 125 ∷ end)) ≡ (codes "{\"name\":\"" ++ word ++ codes "\"" ++ others ++ codes "}") ++ end
    grouped word others end = simp append_assoc

-- ---- What that JSON reads as

items_read : (names : List Name) → of_items (json_items names) ≡ Some (items_of names)
items_read [] = refl
items_read (name ∷ names) = ap (option_map (item (string name))) (items_read names)

value_read : (key : List ℕ) (field : Field) → IsField (key, field) → of_json (json_value field) ≡ Some (value_of field)
value_read key (one_name name) h = refl
value_read key (some_names names) h = ap (option_map array) (items_read names)
value_read key (whole n) h = ap (option_map number) (number_of-decimal n (omega (arith, h)))

fields_read : (fields : Fields) (found : Members) → AreFields fields → of_members (json_members fields) found ≡ Some (with_fields fields found)
fields_read [] found h = refl
fields_read (field ∷ fields) found h =
    ap (option_and_then (λ d. of_members (json_members fields) (put field.0 d found))) (value_read field.0 field.1 h.0)
    ∙ fields_read fields (put field.0 (value_of field.1) found) h.1

object_read : (word : List ℕ) (fields : Fields) → AreFields fields → of_json (json_object word fields) ≡ Some (object (with_fields fields (put (codes "name") (string word) no_members)))
object_read word fields h = ap (option_map object) (fields_read fields (put (codes "name") (string word) no_members) h)

-- ---- It can be printed, and is not deep

items_numbered : (names : List Name) → tree.ItemsHaveNumbers (json_items names)
items_numbered [] = tt
items_numbered (name ∷ names) = (tt, items_numbered names)

value_numbered : (key : List ℕ) (field : Field) → IsField (key, field) → tree.HasNumbers (json_value field)
value_numbered key (one_name name) h = tt
value_numbered key (some_names names) h = items_numbered names
value_numbered key (whole n) h = IsNumber-decimal n (omega (arith, h))

fields_numbered : (fields : Fields) → AreFields fields → tree.MembersHaveNumbers (json_members fields)
fields_numbered [] h = tt
fields_numbered (field ∷ fields) h = (value_numbered field.0 field.1 h.0, fields_numbered fields h.1)

items_flat : (names : List Name) → tree.items_depth (json_items names) ≤ 0
items_flat [] = omega arith
items_flat (name ∷ names) = omega (arith, items_flat names)

value_flat : (field : Field) → tree.depth (json_value field) ≤ 1
value_flat (one_name name) = omega arith
value_flat (some_names names) = omega (arith, items_flat names)
value_flat (whole n) = omega arith

fields_flat : (fields : Fields) → tree.members_depth (json_members fields) ≤ 1
fields_flat [] = omega arith
fields_flat (field ∷ fields) = omega (arith, value_flat field.1, fields_flat fields)

-- ---- A command

kind_named : (kind : Separation) (one other : List ℕ) → is_name one ≡ true → is_name other ≡ true → is_name (by_kind kind one other) ≡ true
kind_named Static one other h k = h
kind_named Dynamic one other h k = k

review_named : (x : Review) → is_name (review_word x) ≡ true
review_named (AssignedUsers role) = refl
review_named (AssignedRoles user) = refl
review_named (AuthorizedUsers role) = refl
review_named (AuthorizedRoles user) = refl
review_named (RolePermissions role) = refl
review_named (UserPermissions user) = refl
review_named (SessionRoles session) = refl
review_named (SessionPermissions session) = refl
review_named (RoleOperationsOnObject role thing) = refl
review_named (UserOperationsOnObject user thing) = refl
review_named (RoleSets kind) = kind_named kind _ _ refl refl
review_named (RoleSetRoles kind set) = kind_named kind _ _ refl refl
review_named (RoleSetCardinality kind set) = kind_named kind _ _ refl refl

pub command_named : (x : Command) → is_name (command_word x) ≡ true
command_named (AddUser user) = refl
command_named (DeleteUser user) = refl
command_named (AddRole role) = refl
command_named (DeleteRole role) = refl
command_named (AssignUser user role) = refl
command_named (DeassignUser user role) = refl
command_named (GrantPermission operation thing role) = refl
command_named (RevokePermission operation thing role) = refl
command_named (AddInheritance ascendant descendant) = refl
command_named (DeleteInheritance ascendant descendant) = refl
command_named (AddAscendant ascendant descendant) = refl
command_named (AddDescendant ascendant descendant) = refl
command_named (CreateSet kind set roles n) = kind_named kind _ _ refl refl
command_named (DeleteSet kind set) = kind_named kind _ _ refl refl
command_named (AddRoleMember kind set role) = kind_named kind _ _ refl refl
command_named (DeleteRoleMember kind set role) = kind_named kind _ _ refl refl
command_named (SetCardinality kind set n) = kind_named kind _ _ refl refl
command_named (CreateSession user session roles) = refl
command_named (DeleteSession user session) = refl
command_named (AddActiveRole user session role) = refl
command_named (DropActiveRole user session role) = refl
command_named (CheckAccess session operation thing) = refl
command_named (ReviewCommand review) = review_named review

review_keyed : (x : Review) → AreKeyed (review_fields x)
review_keyed (AssignedUsers role) = (refl, tt)
review_keyed (AssignedRoles user) = (refl, tt)
review_keyed (AuthorizedUsers role) = (refl, tt)
review_keyed (AuthorizedRoles user) = (refl, tt)
review_keyed (RolePermissions role) = (refl, tt)
review_keyed (UserPermissions user) = (refl, tt)
review_keyed (SessionRoles session) = (refl, tt)
review_keyed (SessionPermissions session) = (refl, tt)
review_keyed (RoleOperationsOnObject role thing) = (refl, (refl, tt))
review_keyed (UserOperationsOnObject user thing) = (refl, (refl, tt))
review_keyed (RoleSets kind) = tt
review_keyed (RoleSetRoles kind set) = (refl, tt)
review_keyed (RoleSetCardinality kind set) = (refl, tt)

pub command_keyed : (x : Command) → AreKeyed (command_fields x)
command_keyed (AddUser user) = (refl, tt)
command_keyed (DeleteUser user) = (refl, tt)
command_keyed (AddRole role) = (refl, tt)
command_keyed (DeleteRole role) = (refl, tt)
command_keyed (AssignUser user role) = (refl, (refl, tt))
command_keyed (DeassignUser user role) = (refl, (refl, tt))
command_keyed (GrantPermission operation thing role) = (refl, (refl, (refl, tt)))
command_keyed (RevokePermission operation thing role) = (refl, (refl, (refl, tt)))
command_keyed (AddInheritance ascendant descendant) = (refl, (refl, tt))
command_keyed (DeleteInheritance ascendant descendant) = (refl, (refl, tt))
command_keyed (AddAscendant ascendant descendant) = (refl, (refl, tt))
command_keyed (AddDescendant ascendant descendant) = (refl, (refl, tt))
command_keyed (CreateSet kind set roles n) = (refl, (refl, (refl, tt)))
command_keyed (DeleteSet kind set) = (refl, tt)
command_keyed (AddRoleMember kind set role) = (refl, (refl, tt))
command_keyed (DeleteRoleMember kind set role) = (refl, (refl, tt))
command_keyed (SetCardinality kind set n) = (refl, (refl, tt))
command_keyed (CreateSession user session roles) = (refl, (refl, (refl, tt)))
command_keyed (DeleteSession user session) = (refl, (refl, tt))
command_keyed (AddActiveRole user session role) = (refl, (refl, (refl, tt)))
command_keyed (DropActiveRole user session role) = (refl, (refl, (refl, tt)))
command_keyed (CheckAccess session operation thing) = (refl, (refl, (refl, tt)))
command_keyed (ReviewCommand review) = review_keyed review

-- the JSON of a command
abbrev pub command_json : Command → json.Json
command_json c = json_object (command_word c) (command_fields c)

pub command_printed : (c : Command) (ts : List Token) → AreFields (command_fields c) → print_from false (tree.json_tokens (command_json c) ++ ts) ≡ command_text c ++ print_from true ts
command_printed c ts h = object_printed (command_word c) (command_fields c) ts (command_named c) (command_keyed c) h

pub command_numbered : (c : Command) → AreFields (command_fields c) → tree.HasNumbers (command_json c)
command_numbered c h = (tt, fields_numbered (command_fields c) h)

pub command_flat : (c : Command) → tree.depth (command_json c) ≤ 2
command_flat c = omega (arith, fields_flat (command_fields c))

pub command_data : (c : Command) → AreFields (command_fields c) → of_json (command_json c) ≡ Some (object (command_object c))
command_data c h = object_read (command_word c) (command_fields c) h

-- what is printed for some JSON reads as that JSON
pub json_read : (j : json.Json) → tree.HasNumbers j → tree.depth j ≤ max_depth → read (print (tree.json_tokens j)) ≡ of_json j
json_read j numbers shallow =
    ap (λ o. option_and_then of_json (option_and_then (λ p. json.if_last p.0 p.1) o))
    (ap (json.value max_depth) (tokens-print (tree.json_tokens j) (ArePrintable-json_tokens j numbers) ∙ sym (append-nil (tree.json_tokens j))) ∙ value-json_tokens j max_depth [] shallow)

-- the text of a command reads as its object
pub command_reads : (c : Command) → AreFields (command_fields c) → read (command_text c) ≡ Some (object (command_object c))
unfolding print_from
command_reads c h =
    let j = command_json c in
    let printed : print (tree.json_tokens j) ≡ command_text c = ap print (sym (append-nil (tree.json_tokens j))) ∙ command_printed c [] h ∙ append-nil (command_text c) in
    ap read (sym printed) ∙ json_read j (command_numbered c h) (omega (arith, command_flat c)) ∙ command_data c h

pub command_reads_if : {T E : Type 0} (r : Result T E) (c : Command) → AreFields (command_fields c) → OnOk r (read (command_text c) ≡ Some (object (command_object c)))
command_reads_if (Ok v) c h = command_reads c h
command_reads_if (Err e) c h = tt
