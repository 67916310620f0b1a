-- A command by itself has no key command, so that it is read as one.
use Rattle.std.proofs.Common.{◌≡◌, ℕ, List, [], ◌∷◌, Bool, true, false, Option, None, Some, Result, Ok, Err, cond, ok_or, codes, refl, ap}
use Rattle.std.specs.Bool.{⊤}
use Rattle.std.specs.List.{list_all, AllByRecursion as Each}
use Rattle.std.specs.Ordering.{nat_cmp, match_ordering}
use Rattle.std.specs.Cmp.Lexicographic.{slice_cmp}
use Rattle.std.specs.declared.cmp.Ordering.{Ordering}
use Rattle.std.specs.declared.cmp.Ordering.TheVariants.{Less, Equal, Greater}
use Rattle.std.specs.Str.{bytes_eq}
use Rattle.std.proofs.lemmas.Bool.{and_parts}
use Rattle.serde_json.specs.Data.{Data, Members, no_members, member}
use Rattle.serde_json.specs.Find.{as_object, get_member}
use Rattle.rbac_terms.proofs.NameLemmas.{names_exact}
use Rattle.rbac_terms.specs.declared.review.Review.{Review}
use Rattle.rbac_terms.specs.declared.command.Command.{Command}
use Rattle.rbac_terms.specs.declared.command.Command.TheVariants.{Review as ReviewCommand}
use Rattle.rbac_text.specs.declared.refusal.LineRefusal.TheVariants.{ExtraField, NotObject}
use Rattle.rbac_text.specs.Keys.{is_one_of}
use Rattle.rbac_text.specs.Steps.{◌>>=◌, ◌>>◌}
use Rattle.rbac_text.specs.Fields.{Reading, text_in, only_keys, unknown}
use Rattle.rbac_text.specs.Fields as fields
use Rattle.rbac_text.specs.Value.{value_of}
use Rattle.rbac_text.specs.Command.{Row, values_in, whole_of, of_row, by_row, made_of, keys_of, set_review_rows, review_rows, separation_rows, session_rows, hierarchy_rows, role_rows, set_review, review_command, separation_command, session_command, hierarchy_command, command_of}
use Rattle.rbac_text.specs.ReadCommand.{command}
use Rattle.rbac_text.specs.Asked.{asked, asked_of}

-- ---- Steps of a reading that ended well

first : {T U E : Type 0} (r : Result T E) (next : T → Result U E) (u : U) → (r >>= next) ≡ Ok u → (t : T) × (r ≡ Ok t) × (next t ≡ Ok u)
first (Ok t) next u e = (t, refl, e)
first (Err refusal) next u e = absurd (cc e)

both : {T U E : Type 0} (r : Result T E) (next : Result U E) (u : U) → (r >> next) ≡ Ok u → (t : T) × (r ≡ Ok t)
both (Ok t) next u e = (t, refl)
both (Err refusal) next u e = absurd (cc e)

-- ---- Keys

abbrev Lacks : Members → Type 0
Lacks o = get_member (codes "command") o ≡ None

lacks_key : (p : List ℕ → Bool) (o : Members) → p (codes "command") ≡ false → list_all p (fields.keys_of o) ≡ true → Lacks o
lacks_key p no_members other all = refl
lacks_key p (member key value rest) other all =
    let parts = and_parts (p key) (list_all p (fields.keys_of rest)) all in
    go (slice_cmp nat_cmp (codes "command") key) refl parts.0 (lacks_key p rest other parts.1)
  where
    go : (r : Ordering) → slice_cmp nat_cmp (codes "command") key ≡ r → p key ≡ true → Lacks rest
        → match_ordering r (get_member (codes "command") rest) (Some value) (get_member (codes "command") rest) ≡ None
    go Less is known behind = behind
    go Greater is known behind = behind
    go Equal is known behind = let same : p (codes "command") ≡ p key = ap p (names_exact (codes "command") key is) in absurd (cc (other, same, known))

lacks_only : (keys : List (List ℕ)) (o : Members) → is_one_of keys (codes "command") ≡ false → only_keys keys o ≡ Ok tt → Lacks o
lacks_only keys o other only = go (list_all (is_one_of keys) (fields.keys_of o)) refl only
  where
    go : (b : Bool) → list_all (is_one_of keys) (fields.keys_of o) ≡ b → ◌≡◌ {A = Reading ⊤} (cond b (Ok tt) (Err ExtraField)) (Ok tt) → Lacks o
    go true is e = lacks_key (is_one_of keys) o other is
    go false is e = absurd (cc e)

-- ---- A row of the table

-- the key command is none of a row
abbrev IsApart : {T : Type 0} → Row T → Type 0
IsApart told = is_one_of (codes "name" ∷ keys_of told.shape) (codes "command") ≡ false

lacks_row : {T : Type 0} (told : Row T) (o : Members) (t : T) → IsApart told → of_row told o ≡ Ok t → Lacks o
lacks_row told o t apart e =
    let whole = first (whole_of told.shape o) (λ values. Ok (made_of told.shape told.made values)) t e in
    let read = first (values_in told.shape o) (λ values. only_keys (codes "name" ∷ keys_of told.shape) o >> Ok values) whole.0 whole.1 in
    let only = both (only_keys (codes "name" ∷ keys_of told.shape) o) (Ok read.0) whole.0 read.2 in
    lacks_only (codes "name" ∷ keys_of told.shape) o apart only.1

either : {T : Type 0} {P : Type 0} (b : Bool) (one other : Reading T) (t : T) → (one ≡ Ok t → P) → (other ≡ Ok t → P) → cond b one other ≡ Ok t → P
either true one other t f g e = f e
either false one other t f g e = g e

lacks_rows : {T : Type 0} (rows : List (Row T)) (other : List ℕ → Members → Reading T) (word : List ℕ) (o : Members) (t : T)
    → Each IsApart rows → (other word o ≡ Ok t → Lacks o) → by_row rows other word o ≡ Ok t → Lacks o
lacks_rows [] other word o t apart others e = others e
lacks_rows (told ∷ rows) other word o t apart others e =
    either (bytes_eq word told.word) (of_row told o) (by_row rows other word o) t (lacks_row told o t apart.0) (lacks_rows rows other word o t apart.1 others) e

-- ---- All rows

lacks_set_review : (word : List ℕ) (o : Members) (review : Review) → set_review word o ≡ Ok review → Lacks o
unfolding set_review
lacks_set_review word o review e = lacks_rows set_review_rows unknown word o review (refl, (refl, (refl, (refl, (refl, (refl, tt)))))) (λ none. absurd (cc none)) e

lacks_review : (word : List ℕ) (o : Members) (c : Command) → review_command word o ≡ Ok c → Lacks o
unfolding review_command
lacks_review word o c e =
    let review = first (by_row review_rows set_review word o) (λ review. Ok (ReviewCommand review)) c e in
    lacks_rows review_rows set_review word o review.0 (refl, (refl, (refl, (refl, (refl, (refl, (refl, (refl, (refl, (refl, tt)))))))))) (lacks_set_review word o review.0) review.1

lacks_separation : (word : List ℕ) (o : Members) (c : Command) → separation_command word o ≡ Ok c → Lacks o
unfolding separation_command
lacks_separation word o c e =
    lacks_rows separation_rows review_command word o c (refl, (refl, (refl, (refl, (refl, (refl, (refl, (refl, (refl, (refl, tt)))))))))) (lacks_review word o c) e

lacks_session : (word : List ℕ) (o : Members) (c : Command) → session_command word o ≡ Ok c → Lacks o
unfolding session_command
lacks_session word o c e = lacks_rows session_rows separation_command word o c (refl, (refl, (refl, (refl, (refl, tt))))) (lacks_separation word o c) e

lacks_hierarchy : (word : List ℕ) (o : Members) (c : Command) → hierarchy_command word o ≡ Ok c → Lacks o
unfolding hierarchy_command
lacks_hierarchy word o c e = lacks_rows hierarchy_rows session_command word o c (refl, (refl, (refl, (refl, tt)))) (lacks_session word o c) e

lacks_command : (o : Members) (c : Command) → command_of o ≡ Ok c → Lacks o
lacks_command o c e =
    let named = first (text_in (codes "name") o) (λ name. by_row role_rows hierarchy_command name o) c e in
    lacks_rows role_rows hierarchy_command named.0 o c (refl, (refl, (refl, (refl, (refl, (refl, (refl, (refl, tt)))))))) (lacks_hierarchy named.0 o c) named.2

-- ---- The text

asked_object : (found : Option Members) (c : Command) → (ok_or found NotObject >>= (λ o. command_of o)) ≡ Ok c → (ok_or found NotObject >>= (λ o. asked_of o)) ≡ Ok c
asked_object None c read = absurd (cc read)
asked_object (Some o) c read = rw (lacks_command o c read) read

asked_value : (value : Reading Data) (c : Command) → (value >>= (λ v. ok_or (as_object v) NotObject >>= (λ o. command_of o))) ≡ Ok c
    → (value >>= (λ v. ok_or (as_object v) NotObject >>= (λ o. asked_of o))) ≡ Ok c
asked_value (Err e) c read = absurd (cc read)
asked_value (Ok v) c read = asked_object (as_object v) c read

pub command_is_asked : (text : List ℕ) (c : Command) → command text ≡ Ok c → asked text ≡ Ok c
unfolding command asked
command_is_asked text c read = asked_value (value_of text) c read
