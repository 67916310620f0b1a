-- The line by which member 1 is asked a command asks for that.
use Rattle.std.proofs.Common.{◌≡◌, ◌≤◌, ℕ, [], ◌∷◌, ◌++◌, length, Some, option_map, option_and_then, Ok, ok_or, codes, decimal, refl, sym, ap, ◌∙◌, arith, append_assoc}
use Rattle.std.specs.Fmt.{digits}
use Rattle.json.specs.Json as json
use Rattle.json.specs.Tree as tree
use Rattle.json.specs.Token as token
use Rattle.json.specs.Print.{print, print_from, escape_byte}
use Rattle.json.proofs.Printed.Decimals.{IsNumber-decimal}
use Rattle.serde_json.specs.Data.{Members, no_members, object, number, unsigned, put}
use Rattle.serde_json.specs.Read.{read, of_json, of_members}
use Rattle.serde_json.specs.Find.{as_object}
use Rattle.serde_json.proofs.Numbers.{number_of-decimal}
use Rattle.line_engine.specs.Lines.{longest_line}
use Rattle.rbac_terms.specs.declared.command.Command.{Command}
use Rattle.rbac_text.specs.Steps.{◌>>=◌}
use Rattle.rbac_text.specs.declared.refusal.LineRefusal.TheVariants.{NotObject}
use Rattle.rbac_text.specs.Fields.{Reading}
use Rattle.rbac_text.proofs.ValueLemmas.{value_of_json}
use Rattle.rbac_text.specs.Client.{client, client_of}
use Rattle.rbac_text.specs.Command.{command_fields}
use Rattle.rbac_text.specs.CommandText.{command_text, AreFields}
use Rattle.rbac_text.specs.CommandObject.{command_object}
use Rattle.rbac_text.proofs.ObjectLemmas.{command_json, command_printed, command_numbered, command_flat, command_data, json_read}
use Rattle.rbac_text.proofs.OneLine.{IsOneLine, one_line-append, one_line-known, one_line-command}
use Rattle.rbac_text.specs.Lines.{asking, IsAsked}
use Rattle.rbac_text.proofs.CommandBack.{command_back}

-- ---- It is one line

pub one_line-asking : (c : Command) → AreFields (command_fields c) → IsOneLine (asking c)
one_line-asking c h =
    let begin = codes "{\"at\":1,\"command\":" in
    one_line-append (begin ++ command_text c) (codes "}") (one_line-append begin (command_text c) (one_line-known begin refl refl) (one_line-command c h)) (one_line-known (codes "}") refl refl)

-- ---- What the line reads as

line_json : Command → json.Json
line_json c = json.object (json.member (codes "at") (json.number (decimal 1)) (json.member (codes "command") (command_json c) json.no_members))

abbrev line_members : Command → Members
line_members c = put (codes "command") (object (command_object c)) (put (codes "at") (number (unsigned 1)) no_members)

line_printed : (c : Command) → AreFields (command_fields c) → print (tree.json_tokens (line_json c)) ≡ asking c
unfolding line_json print_from escape_byte digits
line_printed c h =
    let begin = codes "{\"at\":1,\"command\":" in
    ap (λ s. begin ++ s) (command_printed c (token.end_object ∷ []) h) ∙ sym (append_assoc begin (command_text c) (codes "}"))

line_data : (c : Command) → AreFields (command_fields c) → of_json (line_json c) ≡ Some (object (line_members c))
unfolding line_json
line_data c h =
    ap (λ o. option_map object (option_and_then (λ d. of_members (json.member (codes "command") (command_json c) json.no_members) (put (codes "at") d no_members)) (option_map number o))) (number_of-decimal 1 (omega arith))
    ∙ ap (λ o. option_map object (option_and_then (λ d. Some (put (codes "command") d (put (codes "at") (number (unsigned 1)) no_members))) o)) (command_data c h)

line_reads : (c : Command) → AreFields (command_fields c) → read (asking c) ≡ Some (object (line_members c))
unfolding line_json
line_reads c h =
    ap read (sym (line_printed c h))
    ∙ json_read (line_json c) (IsNumber-decimal 1 (omega arith), (command_numbered c h, tt)) (omega (arith, command_flat c))
    ∙ line_data c h

-- ---- What it asks for

abbrev of_member_1 : Reading Command → Reading (ℕ × Command)
of_member_1 v = v >>= (λ command. Ok (1, command))

pub line_asks : (c : Command) → AreFields (command_fields c) → length (asking c) ≤ longest_line → client (asking c) ≡ Ok (1, c)
unfolding client
line_asks c h short =
    ap (λ v. v >>= (λ value. ok_or (as_object value) NotObject >>= (λ fields. client_of fields))) (value_of_json longest_line (asking c) (object (line_members c)) short (one_line-asking c h).0 (line_reads c h))
    ∙ ap of_member_1 (command_back c h)

pub line_is_asked : (c : Command) → AreFields (command_fields c) → length (asking c) ≤ longest_line → IsAsked c
line_is_asked c h short = (line_asks c h short, (one_line-asking c h).1)
