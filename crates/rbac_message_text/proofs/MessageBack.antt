-- What the text of a message reads as: just that message.
use Rattle.std.proofs.Common.{◌≡◌, ◌≤◌, ◌<◌, ◌^◌, ℕ, List, [], ◌∷◌, ◌++◌, true, false, length, Some, Result, Ok, Err, ok_or, OnOk, IsUtf8, codes, decimal, refl, sym, ap, ◌∙◌, subst, arith, append_assoc, append-nil, length-append}
use Rattle.std.specs.Bool.{⊤}
use Rattle.std.specs.List.{join_by, AllByRecursion as Each}
use Rattle.std.proofs.lemmas.Bool.{lt-ltb}
use Rattle.std.proofs.lemmas.Str.{IsUtf8-append, IsUtf8-from_ascii}
use Rattle.std.proofs.lemmas.Fmt.{IsAscii-decimal, length-decimal-le}
use Rattle.json.specs.Json as json
use Rattle.json.specs.Tree as tree
use Rattle.json.specs.Token as token
use Rattle.json.specs.Print.{print, print_from, escape_byte}
use Rattle.json.proofs.Printed.Decimals.{IsNumber-decimal}
use Rattle.json.proofs.Printed.Utf8.{are_ascii, IsUtf8-are_ascii}
use Rattle.serde_json.specs.Data.{Items, no_items, item, Members, no_members, object, array, number, unsigned, put}
use Rattle.serde_json.specs.Read.{read, of_json}
use Rattle.serde_json.specs.Find.{as_object}
use Rattle.serde_json.proofs.Numbers.{number_of-decimal}
use Rattle.rbac_terms.specs.declared.command.Command.{Command}
use Rattle.rbac_words.specs.declared.stamp.Stamp.{Stamp}
use Rattle.rbac_words.specs.Message.{stamp_of}
use Rattle.rbac_words.specs.declared.message.Message.{Message}
use Rattle.rbac_words.specs.declared.message.Message.TheVariants.{Batch, Ack}
use Rattle.rbac_text.specs.declared.refusal.LineRefusal.TheVariants.{NotObject}
use Rattle.rbac_text.specs.Steps.{◌>>=◌}
use Rattle.rbac_text.specs.CommandText.{command_text, commands_text}
use Rattle.rbac_text.proofs.ObjectLemmas.{json_read}
use Rattle.rbac_text.proofs.ValueLemmas.{value_of_json}
use Rattle.rbac_message_text.specs.StampText.{stamp_text}
use Rattle.rbac_message_text.specs.MessageText.{longest_message, batch_text, acknowledgement_text, message_text}
use Rattle.rbac_message_text.specs.Message.{message_of, message_read}
use Rattle.rbac_message_text.proofs.CommandsBack.{Fits, utf8-commands, commands_json, listed_printed, commands_numbered, commands_flat, commands_items, commands_data, commands_are_objects, commands_back}

-- ---- A stamp of a message

abbrev at : ℕ → ℕ → Stamp
at clock member = record { clock = clock; member = member; place = 0 }

abbrev stamp_json : ℕ → ℕ → json.Json
stamp_json clock member = json.array (json.item (json.number (decimal clock)) (json.item (json.number (decimal member)) json.no_items))

abbrev stamp_items : ℕ → ℕ → Items
stamp_items clock member = item (number (unsigned clock)) (item (number (unsigned member)) no_items)

stamp_printed : (clock member : ℕ) (ts : List token.Token) → print_from false (tree.json_tokens (stamp_json clock member) ++ ts) ≡ stamp_text (at clock member) ++ print_from true ts
unfolding print_from
stamp_printed clock member ts = grouped (decimal clock) (decimal member) (print_from true ts)
  where
    grouped : (one other end : List ℕ) → 91 ∷ (one ++ (44 ∷ (other ++ (93 ∷ end)))) ≡ (codes "[" ++ one ++ codes "," ++ other ++ codes "]") ++ end
    grouped one other end = simp append_assoc

stamp_numbered : (clock member : ℕ) → clock < 2 ^ 64 → member < 2 ^ 32 → tree.HasNumbers (stamp_json clock member)
stamp_numbered clock member wide small = (IsNumber-decimal clock (omega (arith, wide)), (IsNumber-decimal member (omega (arith, small)), tt))

known : (xs : List ℕ) → are_ascii xs ≡ true → IsUtf8 xs
known xs a = IsUtf8-are_ascii xs a

utf8-decimal : (n : ℕ) → n < 2 ^ 64 → IsUtf8 (decimal n)
utf8-decimal n h = IsUtf8-from_ascii (decimal n) (IsAscii-decimal n (omega (arith, h)))

utf8-stamp : (clock member : ℕ) → clock < 2 ^ 64 → member < 2 ^ 32 → IsUtf8 (stamp_text (at clock member))
utf8-stamp clock member wide small =
    let begun = IsUtf8-append (codes "[") (decimal clock) (known (codes "[") refl) (utf8-decimal clock wide) in
    let comma = IsUtf8-append _ (codes ",") begun (known (codes ",") refl) in
    let both = IsUtf8-append _ (decimal member) comma (utf8-decimal member (omega (arith, small))) in
    IsUtf8-append _ (codes "]") both (known (codes "]") refl)

-- ---- An acknowledgement

acknowledgement_json : ℕ → ℕ → json.Json
acknowledgement_json clock member = json.object (json.member (codes "stamp") (stamp_json clock member) json.no_members)

abbrev acknowledgement_members : ℕ → ℕ → Members
acknowledgement_members clock member = put (codes "stamp") (array (stamp_items clock member)) no_members

acknowledgement_printed : (clock member : ℕ) (ts : List token.Token) → print_from false (tree.json_tokens (acknowledgement_json clock member) ++ ts) ≡ acknowledgement_text (at clock member) ++ print_from true ts
unfolding acknowledgement_json print_from escape_byte
acknowledgement_printed clock member ts =
    ap (λ l. codes "{\"stamp\":" ++ print_from false l) (append_assoc (tree.json_tokens (stamp_json clock member)) (token.end_object ∷ []) ts)
    ∙ ap (λ t. codes "{\"stamp\":" ++ t) (stamp_printed clock member (token.end_object ∷ ts))
    ∙ grouped (stamp_text (at clock member)) (print_from true ts)
  where
    grouped : (stamp end : List ℕ) → codes "{\"stamp\":" ++ (stamp ++ 125 ∷ end) ≡ (codes "{\"stamp\":" ++ stamp ++ codes "}") ++ end
    grouped stamp end = simp append_assoc

acknowledgement_data : (clock member : ℕ) → clock < 2 ^ 64 → member < 2 ^ 32 → of_json (acknowledgement_json clock member) ≡ Some (object (acknowledgement_members clock member))
unfolding acknowledgement_json
acknowledgement_data clock member wide small =
    rw (number_of-decimal clock wide, number_of-decimal member (let below : member < 2 ^ 64 = omega (arith, small) in below)) refl

acknowledgement_of_members : (clock member : ℕ) → member < 2 ^ 32 → message_of (acknowledgement_members clock member) ≡ Ok (Ack (at clock member))
acknowledgement_of_members clock member small = rw (lt-ltb member (2 ^ 32) small) refl

acknowledgement_utf8 : (clock member : ℕ) → clock < 2 ^ 64 → member < 2 ^ 32 → IsUtf8 (acknowledgement_text (at clock member))
acknowledgement_utf8 clock member wide small =
    IsUtf8-append _ (codes "}") (IsUtf8-append (codes "{\"stamp\":") (stamp_text (at clock member)) (known (codes "{\"stamp\":") refl) (utf8-stamp clock member wide small)) (known (codes "}") refl)

acknowledgement_short : (clock member : ℕ) → clock < 2 ^ 64 → member < 2 ^ 32 → length (acknowledgement_text (at clock member)) ≤ longest_message
acknowledgement_short clock member wide small =
    let digits = length-decimal-le 20 clock (omega arith) (omega arith) wide in
    let others = length-decimal-le 10 member (omega arith) (omega arith) (omega arith) in
    let begun = length-append (codes "[") (decimal clock) in
    let comma = length-append (codes "[" ++ decimal clock) (codes ",") in
    let both = length-append (codes "[" ++ decimal clock ++ codes ",") (decimal member) in
    let stamp = length-append (codes "[" ++ decimal clock ++ codes "," ++ decimal member) (codes "]") in
    let key = length-append (codes "{\"stamp\":") (stamp_text (at clock member)) in
    let all = length-append (codes "{\"stamp\":" ++ stamp_text (at clock member)) (codes "}") in
    omega arith

-- ---- A batch

batch_json : ℕ → ℕ → ℕ → ℕ → List Command → json.Json
batch_json clock member caller serial cs =
    json.object
    (json.member (codes "caller") (json.number (decimal caller))
    (json.member (codes "commands") (json.array (commands_json cs))
    (json.member (codes "serial") (json.number (decimal serial)) (json.member (codes "stamp") (stamp_json clock member) json.no_members))))

abbrev batch_members : ℕ → ℕ → ℕ → ℕ → List Command → Members
batch_members clock member caller serial cs =
    put (codes "stamp") (array (stamp_items clock member)) (put (codes "serial") (number (unsigned serial)) (put (codes "commands") (array (commands_items cs)) (put (codes "caller") (number (unsigned caller)) no_members)))

regroup : (a b c d e f g h i j : List ℕ) → a ++ (b ++ (c ++ (d ++ (e ++ (f ++ (g ++ (h ++ (i ++ j)))))))) ≡ (a ++ b ++ c ++ d ++ e ++ f ++ g ++ h ++ i) ++ j
regroup a b c d e f g h i j = simp append_assoc

batch_printed : (clock member caller serial : ℕ) (cs : List Command) (ts : List token.Token) → Each Fits cs
    → print_from false (tree.json_tokens (batch_json clock member caller serial cs) ++ ts) ≡ batch_text (at clock member) caller serial cs ++ print_from true ts
unfolding batch_json print_from escape_byte
batch_printed clock member caller serial cs ts h =
    let last : List token.Token = token.key (codes "stamp") ∷ ((tree.json_tokens (stamp_json clock member) ++ (token.end_object ∷ [])) ++ ts) in
    let rest : List token.Token = token.key (codes "serial") ∷ token.number (decimal serial) ∷ last in
    ap (λ l. codes "{\"caller\":" ++ (decimal caller ++ (codes ",\"commands\":[" ++ print_from false l)))
    (append_assoc (tree.items_tokens (commands_json cs)) (token.key (codes "serial") ∷ token.number (decimal serial) ∷ token.key (codes "stamp") ∷ (tree.json_tokens (stamp_json clock member) ++ (token.end_object ∷ []))) ts)
    ∙ ap (λ t. codes "{\"caller\":" ++ (decimal caller ++ (codes ",\"commands\":[" ++ t))) (listed_printed cs rest h)
    ∙ ap (λ t. codes "{\"caller\":" ++ (decimal caller ++ (codes ",\"commands\":[" ++ (join_by command_text (codes ",") cs ++ (codes "],\"serial\":" ++ (decimal serial ++ (codes ",\"stamp\":" ++ t)))))))
    (ap (print_from false) (append_assoc (tree.json_tokens (stamp_json clock member)) (token.end_object ∷ []) ts) ∙ stamp_printed clock member (token.end_object ∷ ts))
    ∙ grouped (decimal caller) (join_by command_text (codes ",") cs) (decimal serial) (stamp_text (at clock member)) (print_from true ts)
  where
    grouped : (caller commands serial stamp end : List ℕ)
        → codes "{\"caller\":" ++ (caller ++ (codes ",\"commands\":[" ++ (commands ++ (codes "],\"serial\":" ++ (serial ++ (codes ",\"stamp\":" ++ (stamp ++ 125 ∷ end)))))))
        ≡ (codes "{\"caller\":" ++ caller ++ codes ",\"commands\":" ++ (codes "[" ++ commands ++ codes "]") ++ codes ",\"serial\":" ++ serial ++ codes ",\"stamp\":" ++ stamp ++ codes "}") ++ end
    grouped caller commands serial stamp end =
        ap (λ t. codes "{\"caller\":" ++ (caller ++ (codes ",\"commands\":[" ++ t))) (sym (append_assoc commands (codes "]") (codes ",\"serial\":" ++ (serial ++ (codes ",\"stamp\":" ++ (stamp ++ (codes "}" ++ end)))))))
        ∙ regroup (codes "{\"caller\":") caller (codes ",\"commands\":") (codes "[" ++ commands ++ codes "]") (codes ",\"serial\":") serial (codes ",\"stamp\":") stamp (codes "}") end

-- what the numbers of a batch are, and its commands
record IsBatch (clock member caller serial : ℕ) (cs : List Command) : Type 0 where
  wide : clock < 2 ^ 64
  small : member < 2 ^ 32
  caller_small : caller < 2 ^ 32
  serial_small : serial < 2 ^ 32
  fit : Each Fits cs

module _ (clock member caller serial : ℕ) (cs : List Command) (is : IsBatch clock member caller serial cs) where
  batch_data : of_json (batch_json clock member caller serial cs) ≡ Some (object (batch_members clock member caller serial cs))
  unfolding batch_json
  batch_data =
      rw (number_of-decimal caller (let z : caller < 2 ^ 64 = omega (arith, is.caller_small) in z), commands_data cs is.fit, number_of-decimal serial (let z : serial < 2 ^ 64 = omega (arith, is.serial_small) in z), number_of-decimal clock is.wide, number_of-decimal member (let z : member < 2 ^ 64 = omega (arith, is.small) in z)) refl

  batch_of_members : message_of (batch_members clock member caller serial cs) ≡ Ok (Batch (at clock member) caller serial cs)
  batch_of_members = rw (lt-ltb caller (2 ^ 32) is.caller_small, commands_are_objects cs, lt-ltb serial (2 ^ 32) is.serial_small, lt-ltb member (2 ^ 32) is.small, commands_back cs is.fit) refl

  batch_utf8 : IsUtf8 (batch_text (at clock member) caller serial cs)
  batch_utf8 =
      let a = IsUtf8-append (codes "{\"caller\":") (decimal caller) (known (codes "{\"caller\":") refl) (utf8-decimal caller (omega (arith, is.caller_small))) in
      let b = IsUtf8-append _ (codes ",\"commands\":") a (known (codes ",\"commands\":") refl) in
      let d = IsUtf8-append _ (commands_text cs) b (utf8-commands cs is.fit) in
      let e = IsUtf8-append _ (codes ",\"serial\":") d (known (codes ",\"serial\":") refl) in
      let f = IsUtf8-append _ (decimal serial) e (utf8-decimal serial (omega (arith, is.serial_small))) in
      let g = IsUtf8-append _ (codes ",\"stamp\":") f (known (codes ",\"stamp\":") refl) in
      let i = IsUtf8-append _ (stamp_text (at clock member)) g (utf8-stamp clock member is.wide is.small) in
      IsUtf8-append _ (codes "}") i (known (codes "}") refl)

-- ---- Any message

-- what a reader asks of a message beside its stamp: numbers of 32 bits, and commands whose fields it takes
abbrev pub IsAsked : Message → Type 0
IsAsked (Batch s caller serial cs) = (caller < 2 ^ 32) × ((serial < 2 ^ 32) × Each Fits cs)
IsAsked (Ack s) = ⊤

-- and of its stamp
pub record HasStamp (m : Message) : Type 0 where
  pub first : (stamp_of m).place ≡ 0
  pub wide : (stamp_of m).clock < 2 ^ 64
  pub small : (stamp_of m).member < 2 ^ 32

pub message_json : Message → json.Json
message_json (Batch s caller serial cs) = batch_json s.clock s.member caller serial cs
message_json (Ack s) = acknowledgement_json s.clock s.member

pub message_members : Message → Members
message_members (Batch s caller serial cs) = batch_members s.clock s.member caller serial cs
message_members (Ack s) = acknowledgement_members s.clock s.member

is_batch : (s : Stamp) (caller serial : ℕ) (cs : List Command) → IsAsked (Batch s caller serial cs) → HasStamp (Batch s caller serial cs) → IsBatch s.clock s.member caller serial cs
is_batch s caller serial cs asked has = record { wide = has.wide; small = has.small; caller_small = asked.0; serial_small = asked.1.0; fit = asked.1.1 }

first_stamp : (s : Stamp) → s.place ≡ 0 → at s.clock s.member ≡ s
first_stamp s first = ap (λ place. record { clock = s.clock; member = s.member; place = place }) (sym first)

-- the text is that of this JSON, whatever follows
pub message_printed : (m : Message) (ts : List token.Token) → IsAsked m → HasStamp m → print_from false (tree.json_tokens (message_json m) ++ ts) ≡ message_text m ++ print_from true ts
unfolding message_json
message_printed (Batch s caller serial cs) ts asked has =
    batch_printed s.clock s.member caller serial cs ts asked.1.1 ∙ ap (λ t. batch_text t caller serial cs ++ print_from true ts) (first_stamp s has.first)
message_printed (Ack s) ts asked has = acknowledgement_printed s.clock s.member ts ∙ ap (λ t. acknowledgement_text t ++ print_from true ts) (first_stamp s has.first)

pub message_numbered : (m : Message) → IsAsked m → HasStamp m → tree.HasNumbers (message_json m)
unfolding message_json batch_json acknowledgement_json
message_numbered (Batch s caller serial cs) asked has =
    (IsNumber-decimal caller (omega (arith, asked.0)), (commands_numbered cs asked.1.1, (IsNumber-decimal serial (omega (arith, asked.1.0)), (stamp_numbered s.clock s.member has.wide has.small, tt))))
message_numbered (Ack s) asked has = (stamp_numbered s.clock s.member has.wide has.small, tt)

pub message_flat : (m : Message) → tree.depth (message_json m) ≤ 4
unfolding message_json batch_json acknowledgement_json
message_flat (Batch s caller serial cs) = omega (arith, commands_flat cs)
message_flat (Ack s) = omega arith

pub message_data : (m : Message) → IsAsked m → HasStamp m → of_json (message_json m) ≡ Some (object (message_members m))
unfolding message_json message_members
message_data (Batch s caller serial cs) asked has = batch_data s.clock s.member caller serial cs (is_batch s caller serial cs asked has)
message_data (Ack s) asked has = acknowledgement_data s.clock s.member has.wide has.small

pub message_utf8 : (m : Message) → IsAsked m → HasStamp m → IsUtf8 (message_text m)
message_utf8 (Batch s caller serial cs) asked has =
    subst (λ t. IsUtf8 (batch_text t caller serial cs)) (first_stamp s has.first) (batch_utf8 s.clock s.member caller serial cs (is_batch s caller serial cs asked has))
message_utf8 (Ack s) asked has = subst (λ t. IsUtf8 (acknowledgement_text t)) (first_stamp s has.first) (acknowledgement_utf8 s.clock s.member has.wide has.small)

-- what its object stands for is just that message
pub message_back : (m : Message) → IsAsked m → HasStamp m → message_of (message_members m) ≡ Ok m
unfolding message_members
message_back (Batch s caller serial cs) asked has =
    batch_of_members s.clock s.member caller serial cs (is_batch s caller serial cs asked has) ∙ ap (λ t. Ok (Batch t caller serial cs)) (first_stamp s has.first)
message_back (Ack s) asked has = acknowledgement_of_members s.clock s.member has.small ∙ ap (λ t. Ok (Ack t)) (first_stamp s has.first)

message_reads : (m : Message) → IsAsked m → HasStamp m → read (message_text m) ≡ Some (object (message_members m))
unfolding print_from
message_reads m asked has =
    let j = message_json m in
    let printed : print (tree.json_tokens j) ≡ message_text m = ap print (sym (append-nil (tree.json_tokens j))) ∙ message_printed m [] asked has ∙ append-nil (message_text m) in
    ap read (sym printed) ∙ json_read j (message_numbered m asked has) (omega (arith, message_flat m)) ∙ message_data m asked has

-- and so is what is read of its text
text_back : (m : Message) → IsAsked m → HasStamp m → length (message_text m) ≤ longest_message → message_read (message_text m) ≡ Ok m
unfolding message_read
text_back m asked has short =
    ap (λ v. v >>= (λ value. ok_or (as_object value) NotObject >>= (λ fields. message_of fields)))
    (value_of_json longest_message (message_text m) (object (message_members m)) short (message_utf8 m asked has) (message_reads m asked has))
    ∙ message_back m asked has

pub acknowledgement_told : {T E : Type 0} (r : Result T E) (s : Stamp) → s.clock < 2 ^ 64 → s.member < 2 ^ 32 → OnOk r (s.place ≡ 0 → message_read (acknowledgement_text s) ≡ Ok (Ack s))
acknowledgement_told (Ok v) s wide small = λ first.
    text_back (Ack s) tt (record { first = first; wide = wide; small = small })
    (subst (λ t. length (acknowledgement_text t) ≤ longest_message) (first_stamp s first) (acknowledgement_short s.clock s.member wide small))
acknowledgement_told (Err e) s wide small = tt

pub batch_told : {T E : Type 0} (r : Result T E) (s : Stamp) (caller serial : ℕ) (cs : List Command) → s.clock < 2 ^ 64 → s.member < 2 ^ 32 → caller < 2 ^ 32 → serial < 2 ^ 32 → Each Fits cs
    → OnOk r (s.place ≡ 0 → length (batch_text s caller serial cs) ≤ longest_message → message_read (batch_text s caller serial cs) ≡ Ok (Batch s caller serial cs))
batch_told (Ok v) s caller serial cs wide small low short h = λ first. text_back (Batch s caller serial cs) (low, (short, h)) (record { first = first; wide = wide; small = small })
batch_told (Err e) s caller serial cs wide small low short h = tt
