-- A text of a format that has to be UTF-8.
use Rattle.std.proofs.Common.{◌≡◌, ℕ, List, Bool, true, false, Option, Some, None, if◌then◌else◌, refl, IsUtf8}
use Rattle.std.specs.Str.{is_utf8}
use Rattle.std.proofs.lemmas.Str.{is_utf8-from_IsUtf8, IsUtf8-from_is_utf8}

-- a text that the format reads
pub parsed : {T : Type 0} (parse : List ℕ → Option T) (text : List ℕ) (read : T) → IsUtf8 text → parse text ≡ Some read → (if is_utf8 text then parse text else None) ≡ Some read
parsed parse text read utf8 is = rw (is_utf8-from_IsUtf8 text utf8) is

by_utf8 : {T : Type 0} (parse : List ℕ → Option T) (text : List ℕ) (b : Bool) → is_utf8 text ≡ b → (IsUtf8 text → parse text ≡ None) → (if b then parse text else None) ≡ None
by_utf8 parse text true utf8 none = none (IsUtf8-from_is_utf8 text utf8)
by_utf8 parse text false utf8 none = refl

-- a text that it does not read
pub not_parsed : {T : Type 0} (parse : List ℕ → Option T) (text : List ℕ) → (IsUtf8 text → parse text ≡ None) → (if is_utf8 text then parse text else None) ≡ None
not_parsed parse text none = by_utf8 parse text (is_utf8 text) refl none
