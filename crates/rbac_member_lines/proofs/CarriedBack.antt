-- What the line that brings a message reads as: that just this message is to be received.
use Rattle.std.proofs.Common.{ℕ, zero, suc, true, false, ◌≡◌, ◌≤◌, ◌<◌, ◌+◌, ◌^◌, List, [], ◌∷◌, ◌++◌, length, slice_get, codes, decimal, IsUtf8, refl, sym, ap, subst, ◌∙◌, arith, append_assoc, append-nil, length-append, ok_or, lit<, Option, Some, None, Ok}
use Rattle.std.specs.List.{AllByRecursion as Each}
use Rattle.std.proofs.lemmas.Bool.{lt-ltb}
use Rattle.std.proofs.lemmas.Str.{IsUtf8-append, IsUtf8-from_ascii}
use Rattle.std.proofs.lemmas.Fmt.{IsAscii-decimal, length-decimal-le}
use Rattle.json.specs.Json as json
use Rattle.json.specs.Tree as tree
use Rattle.json.specs.Token as token
use Rattle.json.specs.Print.{print, print_from, escape_byte}
use Rattle.json.proofs.Printed.Decimals.{IsNumber-decimal}
use Rattle.json.proofs.Printed.Utf8.{are_ascii, IsUtf8-are_ascii}
use Rattle.serde_json.specs.Data.{Members, no_members, object, number, string, unsigned, put}
use Rattle.serde_json.specs.Read.{read, of_json}
use Rattle.serde_json.specs.Find.{as_object}
use Rattle.serde_json.proofs.Numbers.{number_of-decimal}
use Rattle.line_engine.specs.Lines.{longest_line}
use Rattle.rbac_terms.specs.Vocabulary.{Vocabulary}
use Rattle.rbac_words.specs.Group.{Group, IsGroup}
use Rattle.rbac_words.specs.Limits.{last_clock}
use Rattle.rbac_words.specs.Message.{stamp_of}
use Rattle.rbac_words.specs.Keeping.Member.{Member, IsMember, IsNumber, founded}
use Rattle.rbac_words.specs.declared.message.Message.{Message}
use Rattle.rbac_text.specs.declared.refusal.LineRefusal.TheVariants.{NotObject}
use Rattle.rbac_text.specs.Steps.{◌>>=◌}
use Rattle.rbac_text.proofs.ObjectLemmas.{json_read}
use Rattle.rbac_text.proofs.ValueLemmas.{value_of_json}
use Rattle.rbac_message_text.specs.MessageText.{message_text}
use Rattle.rbac_message_text.proofs.MessageBack.{IsAsked, HasStamp, message_json, message_members, message_printed, message_numbered, message_flat, message_data, message_utf8, message_back}
use Rattle.rbac_embedded_member.proofs.SentLemmas.{at_place}
use Rattle.rbac_member_lines.specs.declared.asked.Asked.TheVariants.{Receive}
use Rattle.rbac_member_lines.specs.Asked.{asked, asked_of}
use Rattle.rbac_member_lines.specs.Carried.{receive_line}
use Rattle.rbac_member_lines.specs.Output.{longest_carried, member_after}
use Rattle.rbac_member_lines.proofs.CarriedLemmas.{IsCarried, is_member, all_carried}

known : (xs : List ℕ) → are_ascii xs ≡ true → IsUtf8 xs
known xs a = IsUtf8-are_ascii xs a

utf8-decimal : (n : ℕ) → n < 2 ^ 32 → IsUtf8 (decimal n)
utf8-decimal n h = IsUtf8-from_ascii (decimal n) (IsAscii-decimal n (omega (arith, h)))

line_json : ℕ → ℕ → Message → json.Json
line_json from place m =
    json.object
    (json.member (codes "do") (json.string (codes "receive"))
    (json.member (codes "from") (json.number (decimal from))
    (json.member (codes "message") (message_json m) (json.member (codes "number") (json.number (decimal place)) json.no_members))))

line_members : ℕ → ℕ → Message → Members
line_members from place m =
    put (codes "number") (number (unsigned place))
    (put (codes "message") (object (message_members m)) (put (codes "from") (number (unsigned from)) (put (codes "do") (string (codes "receive")) no_members)))

-- how long it is
length_of : (from text place : List ℕ) → length (codes "{\"do\":\"receive\",\"from\":" ++ from ++ codes ",\"message\":" ++ text ++ codes ",\"number\":" ++ place ++ codes "}") ≡ ((((((23 + length from) + 11) + length text) + 10) + length place) + 1)
length_of from text place =
    length-append (codes "{\"do\":\"receive\",\"from\":" ++ from ++ codes ",\"message\":" ++ text ++ codes ",\"number\":" ++ place) (codes "}")
    ∙ ap (λ n. n + 1)
    (length-append (codes "{\"do\":\"receive\",\"from\":" ++ from ++ codes ",\"message\":" ++ text ++ codes ",\"number\":") place
    ∙ ap (λ n. n + length place)
    (length-append (codes "{\"do\":\"receive\",\"from\":" ++ from ++ codes ",\"message\":" ++ text) (codes ",\"number\":")
    ∙ ap (λ n. n + 10)
    (length-append (codes "{\"do\":\"receive\",\"from\":" ++ from ++ codes ",\"message\":") text
    ∙ ap (λ n. n + length text)
    (length-append (codes "{\"do\":\"receive\",\"from\":" ++ from) (codes ",\"message\":") ∙ ap (λ n. n + 11) (length-append (codes "{\"do\":\"receive\",\"from\":") from)))))

line_short : (from place : ℕ) (m : Message) → from ≤ 8 → place ≤ 65536 → length (message_text m) ≤ longest_carried → length (receive_line from place m) ≤ longest_line
line_short from place m f p short =
    let a : length (decimal from) ≤ 1 = length-decimal-le 1 from (lit< tt) (omega (arith, f)) (omega (arith, f)) in
    let b : length (decimal place) ≤ 5 = length-decimal-le 5 place (lit< tt) (omega (arith, p)) (omega (arith, p)) in
    let e : length (receive_line from place m) ≡ ((((((23 + length (decimal from)) + 11) + length (message_text m)) + 10) + length (decimal place)) + 1) = length_of (decimal from) (message_text m) (decimal place) in
    omega arith

module _ (from place : ℕ) (m : Message) (small : from < 2 ^ 32) (low : place < 2 ^ 32) (is : IsAsked m) (has : HasStamp m) where
  line_printed : print (tree.json_tokens (line_json from place m)) ≡ receive_line from place m
  unfolding line_json print_from escape_byte
  line_printed =
      ap (λ t. codes "{\"do\":\"receive\",\"from\":" ++ (decimal from ++ (codes ",\"message\":" ++ t))) (message_printed m (token.key (codes "number") ∷ token.number (decimal place) ∷ token.end_object ∷ []) is has)
      ∙ grouped (decimal from) (message_text m) (decimal place)
    where
      regroup : (a b c d e f g : List ℕ) → a ++ (b ++ (c ++ (d ++ (e ++ (f ++ g))))) ≡ a ++ b ++ c ++ d ++ e ++ f ++ g
      regroup a b c d e f g = simp append_assoc

      grouped : (one text other : List ℕ)
          → codes "{\"do\":\"receive\",\"from\":" ++ (one ++ (codes ",\"message\":" ++ (text ++ (codes ",\"number\":" ++ (other ++ 125 ∷ [])))))
          ≡ codes "{\"do\":\"receive\",\"from\":" ++ one ++ codes ",\"message\":" ++ text ++ codes ",\"number\":" ++ other ++ codes "}"
      grouped one text other = regroup (codes "{\"do\":\"receive\",\"from\":") one (codes ",\"message\":") text (codes ",\"number\":") other (codes "}")

  line_data : of_json (line_json from place m) ≡ Some (object (line_members from place m))
  unfolding line_json line_members
  line_data =
      rw (number_of-decimal from (let z : from < 2 ^ 64 = omega (arith, small) in z), message_data m is has, number_of-decimal place (let z : place < 2 ^ 64 = omega (arith, low) in z)) refl

  line_reads : read (receive_line from place m) ≡ Some (object (line_members from place m))
  unfolding line_json
  line_reads =
      ap read (sym line_printed)
      ∙ json_read (line_json from place m) (tt, (IsNumber-decimal from (omega (arith, small)), (message_numbered m is has, (IsNumber-decimal place (omega (arith, low)), tt)))) (omega (arith, message_flat m))
      ∙ line_data

  line_utf8 : IsUtf8 (receive_line from place m)
  line_utf8 =
      let a = IsUtf8-append (codes "{\"do\":\"receive\",\"from\":") (decimal from) (known (codes "{\"do\":\"receive\",\"from\":") refl) (utf8-decimal from small) in
      let b = IsUtf8-append _ (codes ",\"message\":") a (known (codes ",\"message\":") refl) in
      let c = IsUtf8-append _ (message_text m) b (message_utf8 m is has) in
      let d = IsUtf8-append _ (codes ",\"number\":") c (known (codes ",\"number\":") refl) in
      let e = IsUtf8-append _ (decimal place) d (utf8-decimal place low) in
      IsUtf8-append _ (codes "}") e (known (codes "}") refl)

  line_of_members : asked_of (line_members from place m) ≡ Ok (Receive (record { from = from; number = place; message = m }))
  unfolding line_members
  line_of_members = rw (lt-ltb from (2 ^ 32) small, lt-ltb place (2 ^ 32) low, message_back m is has) refl

  line_back : length (receive_line from place m) ≤ longest_line → asked (receive_line from place m) ≡ Ok (Receive (record { from = from; number = place; message = m }))
  unfolding asked
  line_back short =
      ap (λ v. v >>= (λ value. ok_or (as_object value) NotObject >>= asked_of)) (value_of_json longest_line (receive_line from place m) (object (line_members from place m)) short line_utf8 line_reads)
      ∙ line_of_members

-- ---- What a member by lines sends

-- what is at a place of a list is within it
below : {X : Type 0} (xs : List X) (i : ℕ) (x : X) → slice_get xs i ≡ Some x → i < length xs
below [] i x e = let no : ⊥ = cc in absurd no
below (y ∷ ys) zero x e = omega arith
below (y ∷ ys) (suc i) x e = omega (arith, below ys i x e)

module _ (group : Group) (vocabulary : Vocabulary) (from place : ℕ) (input : List ℕ) (m : Message) (is : IsGroup group) (n : IsNumber group from) (at : slice_get (member_after input (founded group from vocabulary)).sent place ≡ Some m) where
  abbrev v : Member
  v = member_after input (founded group from vocabulary)

  kept : IsMember v
  kept = is_member group vocabulary from input is n

  carried : IsCarried m
  carried = at_place IsCarried v.sent place m (all_carried group vocabulary from input is n) at

  few : from ≤ 8
  few = let a : from ≤ group.members = n.high in let b : group.members ≤ 8 = is.few_members in omega arith

  has : HasStamp m
  has = record {
    first = at_place (λ (x : Message). (stamp_of x).place ≡ 0) v.sent place m kept.lawful.first at;
    wide = let c : (stamp_of m).clock ≤ last_clock = at_place (λ (x : Message). (stamp_of x).clock ≤ last_clock) v.sent place m kept.lawful.clocks_in_range at in let w : (stamp_of m).clock < 2 ^ 64 = omega (arith, c) in w;
    small =
        let e : (stamp_of m).member ≡ v.number = at_place (λ (x : Message). (stamp_of x).member ≡ v.number) v.sent place m kept.lawful.own at in
        let a : v.number ≤ v.group.members = kept.high in let b : v.group.members ≤ 8 = kept.group.few_members in let w : (stamp_of m).member < 2 ^ 32 = omega arith in w;
  }

  near : place + 1 ≤ 65536
  near =
      let a : place < length v.sent = below v.sent place m at in let b : length v.sent ≤ v.group.sent_limit = kept.lawful.within_limit in let c : v.group.sent_limit ≤ 65536 = kept.group.few_sent in omega arith

  pub sent_short : length (receive_line from (place + 1) m) ≤ longest_line
  sent_short = line_short from (place + 1) m few near carried.0

  pub sent_reads : asked (receive_line from (place + 1) m) ≡ Ok (Receive (record { from = from; number = place + 1; message = m }))
  sent_reads = line_back from (place + 1) m (let f : from < 2 ^ 32 = omega (arith, few) in f) (let p : place + 1 < 2 ^ 32 = omega (arith, near) in p) carried.1 has sent_short
