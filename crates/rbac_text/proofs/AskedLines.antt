-- The lines of commands are read as just these commands, by whoever reads client lines alone and by whoever has one policy.
use Rattle.std.proofs.Common.{◌≡◌, ◌≤◌, ℕ, List, [], ◌∷◌, ◌++◌, true, map, length, Option, None, Some, is_some, if◌then◌else◌, Ok, Err, ok_or, codes, refl, ap, ap₂, ◌∙◌, arith, length-append}
use Rattle.std.specs.List.{list_all, AllByRecursion as Each}
use Rattle.serde_json.specs.Data.{Data, Members}
use Rattle.serde_json.specs.Find.{as_object, get_member}
use Rattle.line_engine.specs.Lines.{lines}
use Rattle.rbac_terms.specs.declared.command.Command.{Command}
use Rattle.rbac_text.specs.declared.refusal.LineRefusal.TheVariants.{MissingField, NotObject, WrongKind}
use Rattle.rbac_text.specs.Steps.{◌>>=◌, ◌>>◌, seen}
use Rattle.rbac_text.specs.Fields.{Reading, whole_in, only_keys}
use Rattle.rbac_text.specs.Value.{value_of}
use Rattle.rbac_text.specs.Command.{command_of, command_fields}
use Rattle.rbac_text.specs.CommandText.{command_text, AreFields}
use Rattle.rbac_text.specs.Lines.{asking, begin, end, is_no_feed, lines_text, room, IsAsked}
use Rattle.rbac_text.specs.Client.{client, client_of}
use Rattle.rbac_text.specs.Asked.{asked, asked_of}
use Rattle.rbac_text.proofs.AskingLemmas.{line_is_asked}
use Rattle.rbac_text.proofs.CutLines.{lines_cut}

-- ---- A client line asks for its command

-- what is read of an object's number and of what it has at the key command
abbrev line_parts : Reading ℕ → Option Data → Members → Reading (ℕ × Command)
line_parts whole found o = do
  at ← whole
  fields ← (ok_or found MissingField >>= (λ value. ok_or (as_object value) WrongKind))
  only_keys (codes "at" ∷ codes "command" ∷ []) o
  command ← command_of fields
  Ok (at, command)

asked_parts : (whole : Reading ℕ) (found : Option Data) (o : Members) (at : ℕ) (c : Command) → line_parts whole found o ≡ Ok (at, c)
    → (if is_some found then seen (λ line. line.1) (line_parts whole found o) else command_of o) ≡ Ok c
asked_parts whole (Some value) o at c read = ap (seen (λ line. line.1)) read
asked_parts (Ok n) None o at c read = absurd (cc read)
asked_parts (Err e) None o at c read = absurd (cc read)

asked_object : (found : Option Members) (at : ℕ) (c : Command) → (ok_or found NotObject >>= (λ o. client_of o)) ≡ Ok (at, c) → (ok_or found NotObject >>= (λ o. asked_of o)) ≡ Ok c
asked_object None at c read = absurd (cc read)
asked_object (Some o) at c read = asked_parts (whole_in (codes "at") o) (get_member (codes "command") o) o at c read

asked_value : (value : Reading Data) (at : ℕ) (c : Command) → (value >>= (λ v. ok_or (as_object v) NotObject >>= (λ o. client_of o))) ≡ Ok (at, c)
    → (value >>= (λ v. ok_or (as_object v) NotObject >>= (λ o. asked_of o))) ≡ Ok c
asked_value (Err e) at c read = absurd (cc read)
asked_value (Ok v) at c read = asked_object (as_object v) at c read

pub client_is_asked : (text : List ℕ) (at : ℕ) (c : Command) → client text ≡ Ok (at, c) → asked text ≡ Ok c
unfolding client asked
client_is_asked text at c read = asked_value (value_of text) at c read

-- ---- The lines

module _ {T : Type 0} (reads : List ℕ → Reading T) (meant : Command → T) where
  read_all : (cs : List Command) → Each (λ c. reads (asking c) ≡ Ok (meant c)) cs → map reads (map asking cs) ≡ map (λ c. Ok (meant c)) cs
  read_all [] h = refl
  read_all (c ∷ cs) h = ap₂ (λ a l. a ∷ l) h.0 (read_all cs h.1)

no_feeds : (cs : List Command) → Each IsAsked cs → Each (λ c. list_all is_no_feed (asking c) ≡ true) cs
no_feeds [] h = tt
no_feeds (c ∷ cs) h = (h.0.1, no_feeds cs h.1)

each_client : (cs : List Command) → Each IsAsked cs → Each (λ c. client (asking c) ≡ Ok (1, c)) cs
each_client [] h = tt
each_client (c ∷ cs) h = (h.0.0, each_client cs h.1)

each_asked : (cs : List Command) → Each IsAsked cs → Each (λ c. asked (asking c) ≡ Ok c) cs
each_asked [] h = tt
each_asked (c ∷ cs) h = (client_is_asked (asking c) 1 c h.0.0, each_asked cs h.1)

-- as client lines they ask member 1 for what they were made of
pub lines_ask : (cs : List Command) → Each IsAsked cs → map client (lines (lines_text cs)) ≡ map (λ c. Ok (1, c)) cs
lines_ask cs h = ap (map client) (lines_cut asking cs (no_feeds cs h)) ∙ read_all client (λ c. (1, c)) cs (each_client cs h)

-- and they ask for just that whoever has one policy
pub lines_read : (cs : List Command) → Each IsAsked cs → map asked (lines (lines_text cs)) ≡ map Ok cs
lines_read cs h = ap (map asked) (lines_cut asking cs (no_feeds cs h)) ∙ read_all asked (λ c. c) cs (each_asked cs h)

-- ---- Which commands have room

-- what has room in a line is asked by it
asked_if : (c : Command) → AreFields (command_fields c) → length (command_text c) ≤ room → IsAsked c
asked_if c h short =
    let all = length-append (begin ++ command_text c) end in
    let front = length-append begin (command_text c) in
    line_is_asked c h (omega arith)

-- so commands that have room are asked by their lines
pub all_asked : (cs : List Command) → Each (λ c. AreFields (command_fields c)) cs → Each (λ c. AreFields (command_fields c) → length (command_text c) ≤ room) cs → Each IsAsked cs
all_asked [] h fits = tt
all_asked (c ∷ cs) h fits = (asked_if c h.0 (fits.0 h.0), all_asked cs h.1 fits.1)
