-- Each command of a dump has a text for which there is room.
use Rattle.std.proofs.Common.{ℕ, ◌≡◌, ◌≤◌, ◌+◌, ◌*◌, List, [], ◌∷◌, ◌++◌, Bool, true, false, cond, codes, length, map, take, drop, refl, arith, length-append}
use Rattle.std.proofs.lemmas.Bool.{and_parts, leb-true, ltb-false}
use Rattle.std.proofs.lemmas.Fmt.{length-decimal-le}
use Rattle.std.specs.List.{flat_map, join_by, list_all, AllByRecursion as Each}
use Rattle.sorted_keys.proofs.Lists.{Each-append}
use Rattle.rbac_terms.specs.Name.{Name, is_name}
use Rattle.rbac_terms.specs.Separation.{RoleSet}
use Rattle.rbac_terms.specs.State.{State, Session}
use Rattle.rbac_terms.specs.declared.separation.Separation.{Separation}
use Rattle.rbac_terms.specs.declared.separation.Separation.TheVariants.{Static, Dynamic}
use Rattle.rbac_terms.specs.declared.command.Command.{Command}
use Rattle.rbac_terms.specs.declared.command.Command.TheVariants.{CreateSet, SetCardinality, CreateSession}
use Rattle.rbac_text.specs.Command.{Field, Fields, one_name, some_names, whole, command_word, command_fields}
use Rattle.rbac_text.specs.CommandText.{value_text, field_text, command_text, IsField, AreFields}
use Rattle.rbac_text.specs.Pieces.{in_quotes}
use Rattle.rbac_text.proofs.ObjectLemmas.{command_named}
use Rattle.rbac_dump.specs.Dump.{user_command, role_command, assignment_command, declaration_command, grant_command, set_command, session_command, member_command, activation_command, is_long, set_parts, session_parts, early_set, late_set, session_commands, dump_of, least_room}

-- ---- The most bytes that the text of a command can have, told by how many names it brings

abbrev most_of_value : Field → ℕ
most_of_value (one_name name) = 66
most_of_value (some_names names) = 2 + 67 * length names
most_of_value (whole n) = 10

abbrev most_of_fields : Fields → ℕ
most_of_fields [] = 0
most_of_fields (field ∷ fields) = 4 + length field.0 + most_of_value field.1 + most_of_fields fields

name_size : (name : Name) → is_name name ≡ true → length name ≤ 64
name_size name h = leb-true (length name) 64 (and_parts _ _ (and_parts _ _ h).0).1

quoted_size : (name : Name) → is_name name ≡ true → length (in_quotes name) ≤ 66
quoted_size name h = let most = name_size name h in let parts = length-append name (codes "\"") in omega arith

others_size : (names : List Name) → list_all is_name names ≡ true → length (flat_map (λ name. codes "," ++ in_quotes name) names) ≤ 67 * length names
others_size [] h = omega arith
others_size (name ∷ names) h =
    let both = and_parts (is_name name) _ h in
    let first = quoted_size name both.0 in
    let rest = others_size names both.1 in
    let parts = length-append (codes "," ++ in_quotes name) (flat_map (λ name. codes "," ++ in_quotes name) names) in
    omega arith

listed_size : (names : List Name) → list_all is_name names ≡ true → length (join_by in_quotes (codes ",") names) ≤ 67 * length names
listed_size [] h = omega arith
listed_size (name ∷ names) h =
    let both = and_parts (is_name name) _ h in
    let first = quoted_size name both.0 in
    let rest = others_size names both.1 in
    let parts = length-append (in_quotes name) (flat_map (λ name. codes "," ++ in_quotes name) names) in
    omega arith

value_size : (key : List ℕ) (field : Field) → IsField (key, field) → length (value_text field) ≤ most_of_value field
value_size key (one_name name) h = quoted_size name h
value_size key (some_names names) h =
    let inside = listed_size names h.0 in
    let parts = length-append (join_by in_quotes (codes ",") names) (codes "]") in
    omega arith
value_size key (whole n) h = length-decimal-le 10 n (omega arith) (omega arith) (omega arith)

fields_size : (fields : Fields) → AreFields fields → length (flat_map field_text fields) ≤ most_of_fields fields
fields_size [] h = omega arith
fields_size (field ∷ fields) h =
    let value = value_size field.0 field.1 h.0 in
    let rest = fields_size fields h.1 in
    let all = length-append (field_text field) (flat_map field_text fields) in
    let behind_key = length-append (codes ",\"" ++ field.0 ++ codes "\":") (value_text field.1) in
    let key = length-append field.0 (codes "\":") in
    omega arith

-- where so few names fit, the text does
pub command_size : (command : Command) (room : ℕ) → 80 + most_of_fields (command_fields command) ≤ room → AreFields (command_fields command) → length (command_text command) ≤ room
command_size command room few h =
    let word = name_size (command_word command) (command_named command) in
    let fields = fields_size (command_fields command) h in
    let begin = codes "{\"name\":\"" ++ command_word command ++ codes "\"" in
    let all = length-append (begin ++ flat_map field_text (command_fields command)) (codes "}") in
    let front = length-append begin (flat_map field_text (command_fields command)) in
    let name = length-append (codes "{\"name\":\"" ++ command_word command) (codes "\"") in
    let first = length-append (codes "{\"name\":\"") (command_word command) in
    omega arith

-- ---- Each command of a dump

module _ (room : ℕ) (least : least_room ≤ room) where
  abbrev Fits : Command → Type 0
  Fits command = AreFields (command_fields command) → length (command_text command) ≤ room

  each_of : {X : Type 0} (command : X → Command) (xs : List X) → ((x : X) → Fits (command x)) → Each Fits (map command xs)
  each_of command [] each = tt
  each_of command (x ∷ xs) each = (each x, each_of command xs each)

  each_of_all : {X : Type 0} (commands : X → List Command) (xs : List X) → ((x : X) → Each Fits (commands x)) → Each Fits (flat_map commands xs)
  each_of_all commands [] each = tt
  each_of_all commands (x ∷ xs) each = Each-append Fits (commands x) (flat_map commands xs) (each x) (each_of_all commands xs each)

  and_these : (cs ds : List Command) → Each Fits cs → Each Fits ds → Each Fits (cs ++ ds)
  and_these = Each-append Fits

  at_most_two : (names : List Name) → length (take 2 names) ≤ 2
  at_most_two [] = omega arith
  at_most_two (a ∷ []) = omega arith
  at_most_two (a ∷ b ∷ names) = omega arith

  set_parts_fit : (kind : Separation) (e : Name × RoleSet) → Each Fits (set_parts kind e)
  set_parts_fit kind e =
      let two = at_most_two e.1.roles in
      let first : Command = CreateSet kind e.0 (take 2 e.1.roles) 2 in
      let last : Command = SetCardinality kind e.0 e.1.cardinality in
      and_these (first ∷ map (member_command kind e.0) (drop 2 e.1.roles)) (last ∷ [])
      (command_size first room (omega arith), each_of (member_command kind e.0) (drop 2 e.1.roles) (λ role. command_size (member_command kind e.0 role) room (omega arith)))
      (command_size last room (omega arith), tt)

  session_parts_fit : (e : Name × Session) → Each Fits (session_parts e)
  session_parts_fit e =
      let two = at_most_two e.1.active in
      let first : Command = CreateSession e.1.owner e.0 (take 2 e.1.active) in
      (command_size first room (omega arith), each_of (activation_command e.1.owner e.0) (drop 2 e.1.active) (λ role. command_size (activation_command e.1.owner e.0 role) room (omega arith)))

  -- what is not too long has room
  has_room : (command : Command) → is_long room command ≡ false → Fits command
  has_room command short fields = ltb-false room (length (command_text command)) short

  early_fits : (kind : Separation) (e : Name × RoleSet) → Each Fits (early_set room kind e)
  early_fits kind e = elim (is_long room (set_command kind e)) as (λ b. Each Fits (cond b (set_parts kind e) [])) [ true ↦ set_parts_fit kind e | false ↦ tt ]

  late_fits : (kind : Separation) (e : Name × RoleSet) → Each Fits (late_set room kind e)
  late_fits kind e = go (is_long room (set_command kind e)) refl
    where
      go : (b : Bool) → is_long room (set_command kind e) ≡ b → Each Fits (cond b [] (set_command kind e ∷ []))
      go true long = tt
      go false short = (has_room (set_command kind e) short, tt)

  session_fits : (e : Name × Session) → Each Fits (session_commands room e)
  session_fits e = go (is_long room (session_command e)) refl
    where
      go : (b : Bool) → is_long room (session_command e) ≡ b → Each Fits (cond b (session_parts e) (session_command e ∷ []))
      go true long = session_parts_fit e
      go false short = (has_room (session_command e) short, tt)

pub dump_fits : (room : ℕ) (s : State) → least_room ≤ room → Each (λ command. AreFields (command_fields command) → length (command_text command) ≤ room) (dump_of room s)
dump_fits room s least =
    let users = each_of room least user_command s.users (λ user. command_size (user_command user) room (omega arith)) in
    let roles = and_these room least _ _ users (each_of room least role_command s.roles (λ role. command_size (role_command role) room (omega arith))) in
    let early_static = and_these room least _ _ roles (each_of_all room least (early_set room Static) s.static_sets (early_fits room least Static)) in
    let early_dynamic = and_these room least _ _ early_static (each_of_all room least (early_set room Dynamic) s.dynamic_sets (early_fits room least Dynamic)) in
    let assigned = and_these room least _ _ early_dynamic (each_of room least assignment_command s.assigned (λ pair. command_size (assignment_command pair) room (omega arith))) in
    let declared = and_these room least _ _ assigned (each_of room least declaration_command s.declared (λ pair. command_size (declaration_command pair) room (omega arith))) in
    let granted = and_these room least _ _ declared (each_of room least grant_command s.granted (λ grant. command_size (grant_command grant) room (omega arith))) in
    let static_sets = and_these room least _ _ granted (each_of_all room least (late_set room Static) s.static_sets (late_fits room least Static)) in
    let sessions = and_these room least _ _ static_sets (each_of_all room least (session_commands room) s.sessions (session_fits room least)) in
    and_these room least _ _ sessions (each_of_all room least (late_set room Dynamic) s.dynamic_sets (late_fits room least Dynamic))
