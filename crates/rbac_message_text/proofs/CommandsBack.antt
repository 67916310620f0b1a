-- What the text of an array of commands reads as: just these commands.
use Rattle.std.proofs.Common.{◌≡◌, ◌≤◌, ℕ, List, [], ◌∷◌, ◌++◌, true, false, Some, option_map, option_and_then, Ok, IsUtf8, codes, refl, sym, ap, ◌∙◌, arith, append_assoc}
use Rattle.std.specs.List.{flat_map, join_by, AllByRecursion as Each}
use Rattle.std.proofs.lemmas.Str.{IsUtf8-append, IsUtf8-nil}
use Rattle.json.specs.Json as json
use Rattle.json.specs.Tree as tree
use Rattle.json.specs.Token as token
use Rattle.json.specs.Print.{print_from}
use Rattle.json.proofs.Printed.Utf8.{IsUtf8-are_ascii}
use Rattle.serde_json.specs.Data.{Items, no_items, item, object}
use Rattle.serde_json.specs.Read.{of_items}
use Rattle.rbac_terms.specs.declared.command.Command.{Command}
use Rattle.rbac_text.specs.Steps.{◌>>=◌}
use Rattle.rbac_text.specs.Fields.{are_objects}
use Rattle.rbac_text.specs.Command.{command_fields}
use Rattle.rbac_text.specs.CommandArray.{commands_of}
use Rattle.rbac_text.specs.CommandText.{command_text, commands_text, AreFields}
use Rattle.rbac_text.specs.CommandObject.{command_object}
use Rattle.rbac_text.proofs.ObjectLemmas.{command_json, command_printed, command_numbered, command_flat, command_data}
use Rattle.rbac_text.proofs.OneLine.{one_line-command}
use Rattle.rbac_text.proofs.CommandBack.{command_back}

-- a reader takes its fields
abbrev pub Fits : Command → Type 0
Fits command = AreFields (command_fields command)

abbrev behind_comma : Command → List ℕ
behind_comma command = codes "," ++ command_text command

-- ---- It is UTF-8

utf8-others : (cs : List Command) → Each Fits cs → IsUtf8 (flat_map behind_comma cs)
utf8-others [] h = IsUtf8-nil
utf8-others (c ∷ cs) h = IsUtf8-append (behind_comma c) _ (IsUtf8-append (codes ",") (command_text c) (IsUtf8-are_ascii (codes ",") refl) (one_line-command c h.0).0) (utf8-others cs h.1)

utf8-listed : (cs : List Command) → Each Fits cs → IsUtf8 (join_by command_text (codes ",") cs)
utf8-listed [] h = IsUtf8-nil
utf8-listed (c ∷ cs) h = IsUtf8-append (command_text c) _ (one_line-command c h.0).0 (utf8-others cs h.1)

pub utf8-commands : (cs : List Command) → Each Fits cs → IsUtf8 (commands_text cs)
utf8-commands cs h =
    IsUtf8-append (codes "[" ++ join_by command_text (codes ",") cs) (codes "]") (IsUtf8-append (codes "[") _ (IsUtf8-are_ascii (codes "[") refl) (utf8-listed cs h)) (IsUtf8-are_ascii (codes "]") refl)

-- ---- The JSON that it is

abbrev pub commands_json : List Command → json.Items
commands_json [] = json.no_items
commands_json (c ∷ cs) = json.item (command_json c) (commands_json cs)

others_printed : (cs : List Command) (ts : List token.Token) → Each Fits cs → print_from true (tree.items_tokens (commands_json cs) ++ ts) ≡ flat_map behind_comma cs ++ (93 ∷ print_from true ts)
unfolding print_from
others_printed [] ts h = refl
others_printed (c ∷ cs) ts h =
    let rest = tree.items_tokens (commands_json cs) in
    ap (λ l. 44 ∷ print_from false l) (append_assoc (tree.json_tokens (command_json c)) rest ts)
    ∙ ap (λ s. 44 ∷ s) (command_printed c (rest ++ ts) h.0)
    ∙ ap (λ s. 44 ∷ (command_text c ++ s)) (others_printed cs ts h.1)
    ∙ sym (append_assoc (behind_comma c) (flat_map behind_comma cs) (93 ∷ print_from true ts))

pub listed_printed : (cs : List Command) (ts : List token.Token) → Each Fits cs → print_from false (tree.items_tokens (commands_json cs) ++ ts) ≡ join_by command_text (codes ",") cs ++ (93 ∷ print_from true ts)
unfolding print_from
listed_printed [] ts h = refl
listed_printed (c ∷ cs) ts h =
    let rest = tree.items_tokens (commands_json cs) in
    ap (print_from false) (append_assoc (tree.json_tokens (command_json c)) rest ts)
    ∙ command_printed c (rest ++ ts) h.0
    ∙ ap (λ s. command_text c ++ s) (others_printed cs ts h.1)
    ∙ sym (append_assoc (command_text c) (flat_map behind_comma cs) (93 ∷ print_from true ts))

pub commands_numbered : (cs : List Command) → Each Fits cs → tree.ItemsHaveNumbers (commands_json cs)
commands_numbered [] h = tt
commands_numbered (c ∷ cs) h = (command_numbered c h.0, commands_numbered cs h.1)

pub commands_flat : (cs : List Command) → tree.items_depth (commands_json cs) ≤ 2
commands_flat [] = omega arith
commands_flat (c ∷ cs) = omega (arith, command_flat c, commands_flat cs)

-- ---- What it reads as

abbrev pub commands_items : List Command → Items
commands_items [] = no_items
commands_items (c ∷ cs) = item (object (command_object c)) (commands_items cs)

pub commands_data : (cs : List Command) → Each Fits cs → of_items (commands_json cs) ≡ Some (commands_items cs)
commands_data [] h = refl
commands_data (c ∷ cs) h =
    ap (λ o. option_and_then (λ d. option_map (item d) (of_items (commands_json cs))) o) (command_data c h.0) ∙ ap (λ o. option_map (item (object (command_object c))) o) (commands_data cs h.1)

pub commands_are_objects : (cs : List Command) → are_objects (commands_items cs) ≡ true
commands_are_objects [] = refl
commands_are_objects (c ∷ cs) = commands_are_objects cs

pub commands_back : (cs : List Command) → Each Fits cs → commands_of (commands_items cs) ≡ Ok cs
commands_back [] h = refl
commands_back (c ∷ cs) h = ap (λ r. r >>= λ command. commands_of (commands_items cs) >>= λ commands. Ok (command ∷ commands)) (command_back c h.0) ∙ ap (λ r. r >>= λ commands. Ok (c ∷ commands)) (commands_back cs h.1)
