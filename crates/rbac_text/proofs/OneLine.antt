-- The text of a command is one line.
use Rattle.std.proofs.Common.{◌≡◌, ◌≤◌, ◌<◌, ◌⊎◌, inl, inr, ℕ, List, [], ◌∷◌, ◌++◌, true, false, not, nat_lt, IsUtf8, codes, decimal, refl, ap, ◌∙◌, arith}
use Rattle.std.specs.List.{flat_map, join_by, list_all}
use Rattle.std.specs.Str.Parse.{AllDigits}
use Rattle.std.proofs.lemmas.Bool.{lt-ltb, lt-leb, ne_eqb, and_parts, and_from, and_right, or_from, cases_lt}
use Rattle.std.proofs.lemmas.Str.{IsUtf8-append, IsUtf8-nil, IsUtf8-from_ascii}
use Rattle.std.proofs.lemmas.Fmt.{IsAscii-decimal, decimal_is_IsNumeral}
use Rattle.std.proofs.lemmas.Str.Parse.{digit_from_value}
use Rattle.std.proofs.lemmas.List.Folds.{list_all-append}
use Rattle.json.proofs.Printed.Utf8.{are_ascii, IsUtf8-are_ascii}
use Rattle.rbac_terms.specs.Name.{Name, is_name, is_name_byte}
use Rattle.rbac_terms.specs.declared.command.Command.{Command}
use Rattle.rbac_text.specs.Pieces.{in_quotes}
use Rattle.rbac_text.specs.Command.{Field, Fields, one_name, some_names, whole, command_word, command_fields}
use Rattle.rbac_text.specs.CommandText.{value_text, field_text, command_text, IsField, AreFields}
use Rattle.rbac_text.specs.Lines.{is_no_feed}
use Rattle.rbac_text.proofs.ObjectLemmas.{AreKeyed, command_named, command_keyed}

-- it is UTF-8, and no line feed stands in it
abbrev pub IsOneLine : List ℕ → Type 0
IsOneLine text = IsUtf8 text × (list_all is_no_feed text ≡ true)

pub one_line-append : (xs ys : List ℕ) → IsOneLine xs → IsOneLine ys → IsOneLine (xs ++ ys)
one_line-append xs ys h k = (IsUtf8-append xs ys h.0 k.0, list_all-append is_no_feed xs ys ∙ and_from _ _ h.1 k.1)

one_line-nil : IsOneLine []
one_line-nil = (IsUtf8-nil, refl)

-- of letters that are known
pub one_line-known : (xs : List ℕ) → are_ascii xs ≡ true → list_all is_no_feed xs ≡ true → IsOneLine xs
one_line-known xs a n = (IsUtf8-are_ascii xs a, n)

beyond : (x : ℕ) → 128 ≤ x → is_name_byte x ≡ false
beyond x far =
    or_from _ _ (or_from _ _ (or_from _ _ (or_from _ _ (or_from _ _ (and_right _ _ (lt-leb x 90 (omega arith))) (and_right _ _ (lt-leb x 122 (omega arith)))) (and_right _ _ (lt-leb x 57 (omega arith))))
    (ne_eqb x 95 (λ e. omega arith))) (ne_eqb x 45 (λ e. omega arith))) (ne_eqb x 46 (λ e. omega arith))

name_byte : (x : ℕ) → is_name_byte x ≡ true → (nat_lt x 128 ≡ true) × (is_no_feed x ≡ true)
name_byte x h = (go (cases_lt x 128), ap not (ne_eqb x 10 (λ e. absurd (cc h))))
  where
    go : (x < 128) ⊎ (128 ≤ x) → nat_lt x 128 ≡ true
    go (inl near) = lt-ltb x 128 near
    go (inr far) = absurd (cc (beyond x far, h))

name_ascii : (xs : List ℕ) → list_all is_name_byte xs ≡ true → are_ascii xs ≡ true
name_ascii [] h = refl
name_ascii (x ∷ xs) h = let both = and_parts (is_name_byte x) _ h in and_from _ _ (name_byte x both.0).0 (name_ascii xs both.1)

name_no_feed : (xs : List ℕ) → list_all is_name_byte xs ≡ true → list_all is_no_feed xs ≡ true
name_no_feed [] h = refl
name_no_feed (x ∷ xs) h = let both = and_parts (is_name_byte x) _ h in and_from _ _ (name_byte x both.0).1 (name_no_feed xs both.1)

one_line-name : (name : Name) → is_name name ≡ true → IsOneLine name
one_line-name name h = let bytes = (and_parts _ _ h).1 in one_line-known name (name_ascii name bytes) (name_no_feed name bytes)

one_line-quoted : (name : Name) → is_name name ≡ true → IsOneLine (in_quotes name)
one_line-quoted name h =
    let quote : IsOneLine (codes "\"") = one_line-known (codes "\"") refl refl in
    one_line-append (codes "\"" ++ name) (codes "\"") (one_line-append (codes "\"") name quote (one_line-name name h)) quote

one_line-others : (names : List Name) → list_all is_name names ≡ true → IsOneLine (flat_map (λ name. codes "," ++ in_quotes name) names)
one_line-others [] h = one_line-nil
one_line-others (name ∷ names) h =
    let both = and_parts (is_name name) _ h in
    one_line-append (codes "," ++ in_quotes name) _ (one_line-append (codes ",") (in_quotes name) (one_line-known (codes ",") refl refl) (one_line-quoted name both.0)) (one_line-others names both.1)

one_line-listed : (names : List Name) → list_all is_name names ≡ true → IsOneLine (join_by in_quotes (codes ",") names)
one_line-listed [] h = one_line-nil
one_line-listed (name ∷ names) h = let both = and_parts (is_name name) _ h in one_line-append (in_quotes name) _ (one_line-quoted name both.0) (one_line-others names both.1)

digits_no_feed : (ds : List ℕ) → AllDigits 10 ds → list_all is_no_feed ds ≡ true
digits_no_feed [] h = refl
digits_no_feed (d ∷ ds) h = and_from _ _ (ap not (ne_eqb d 10 (λ e. omega (arith, digit_from_value d h.0)))) (digits_no_feed ds h.1)

one_line-value : (key : List ℕ) (field : Field) → IsField (key, field) → IsOneLine (value_text field)
one_line-value key (one_name name) h = one_line-quoted name h
one_line-value key (some_names names) h =
    one_line-append (codes "[" ++ join_by in_quotes (codes ",") names) (codes "]") (one_line-append (codes "[") _ (one_line-known (codes "[") refl refl) (one_line-listed names h.0)) (one_line-known (codes "]") refl refl)
one_line-value key (whole n) h = (IsUtf8-from_ascii (decimal n) (IsAscii-decimal n (omega (arith, h))), digits_no_feed (decimal n) (decimal_is_IsNumeral n (omega (arith, h))).0.1)

one_line-fields : (fields : Fields) → AreKeyed fields → AreFields fields → IsOneLine (flat_map field_text fields)
one_line-fields [] keyed h = one_line-nil
one_line-fields (field ∷ fields) keyed h =
    let begun = one_line-append (codes ",\"") field.0 (one_line-known (codes ",\"") refl refl) (one_line-name field.0 keyed.0) in
    let key = one_line-append (codes ",\"" ++ field.0) (codes "\":") begun (one_line-known (codes "\":") refl refl) in
    one_line-append (field_text field) _ (one_line-append (codes ",\"" ++ field.0 ++ codes "\":") (value_text field.1) key (one_line-value field.0 field.1 h.0)) (one_line-fields fields keyed.1 h.1)

pub one_line-command : (c : Command) → AreFields (command_fields c) → IsOneLine (command_text c)
one_line-command c h =
    let word = command_word c in
    let begun = one_line-append (codes "{\"name\":\"") word (one_line-known (codes "{\"name\":\"") refl refl) (one_line-name word (command_named c)) in
    let named = one_line-append (codes "{\"name\":\"" ++ word) (codes "\"") begun (one_line-known (codes "\"") refl refl) in
    one_line-append _ (codes "}") (one_line-append (codes "{\"name\":\"" ++ word ++ codes "\"") _ named (one_line-fields (command_fields c) (command_keyed c) h)) (one_line-known (codes "}") refl refl)
