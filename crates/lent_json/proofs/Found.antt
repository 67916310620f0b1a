-- The last value at a key is that of the object that `serde_json` reads.
use Rattle.std.proofs.Common.{◌≡◌, ℕ, Bool, true, false, cond, List, Option, Some, None, option_map, Ordering, Less, Equal, Greater, refl, sym, ap, ◌∙◌, true≢false}
use Rattle.std.specs.Ordering.{nat_cmp, match_ordering, is_eq}
use Rattle.std.specs.Cmp.{Equal-is}
use Rattle.std.specs.Cmp.Lexicographic.{slice_cmp}
use Rattle.std.specs.Str.{bytes_eq}
use Rattle.std.proofs.lemmas.Map.Lookups.{exact_bytes}
use Rattle.std.proofs.lemmas.Map.Text.{is_eq-slice_cmp}
use Rattle.std.proofs.lemmas.Slice.Eq.{bytes_eq-Decides}
use Rattle.json.specs.Json as json
use Rattle.json.specs.Find as lent
use Rattle.serde_json.specs.Data.{Data, Members, no_members, member, put}
use Rattle.serde_json.specs.Find.{get_member}
use Rattle.lent_json.specs.Data.{data_of, members_of}

-- ---- One member

in_the_middle : {A : Type 0} → (o : Ordering) (x y : A) → match_ordering o x y x ≡ cond (is_eq o) y x
in_the_middle Less x y = refl
in_the_middle Equal x y = refl
in_the_middle Greater x y = refl

-- a look-up at the first member
first : (name l : List ℕ) (e : Data) (ms : Members) → get_member name (member l e ms) ≡ cond (bytes_eq name l) (Some e) (get_member name ms)
first name l e ms = in_the_middle (slice_cmp nat_cmp name l) (get_member name ms) (Some e) ∙ ap (λ b. cond b (Some e) (get_member name ms)) (is_eq-slice_cmp name l)

same : (name : List ℕ) → slice_cmp nat_cmp name name ≡ Equal
same name = (Equal-is (slice_cmp nat_cmp name name)).0 (is_eq-slice_cmp name name ∙ (bytes_eq-Decides name name).1 refl)

-- of two tests of which not both hold, either may come first
either_first : {A : Type 0} → (b c : Bool) (x y z : A) → (b ≡ true → c ≡ true → ⊥) → cond b x (cond c y z) ≡ cond c y (cond b x z)
either_first true true x y z never = absurd (never refl refl)
either_first true false x y z never = refl
either_first false true x y z never = refl
either_first false false x y z never = refl

twice : {A : Type 0} → (b : Bool) (x y z : A) → cond b x z ≡ cond b x (cond b y z)
twice true x y z = refl
twice false x y z = refl

-- a look-up where a member was put
found_put : (name k : List ℕ) (d : Data) (ms : Members) → get_member name (put k d ms) ≡ cond (bytes_eq name k) (Some d) (get_member name ms)
found_put name k d no_members = first name k d no_members
found_put name k d (member l e ms) = go (slice_cmp nat_cmp k l) refl (found_put name k d ms)
  where
    go : (o : Ordering) → slice_cmp nat_cmp k l ≡ o → get_member name (put k d ms) ≡ cond (bytes_eq name k) (Some d) (get_member name ms)
        → get_member name (match_ordering o (member k d (member l e ms)) (member l d ms) (member l e (put k d ms))) ≡ cond (bytes_eq name k) (Some d) (get_member name (member l e ms))
    go Less is after = first name k d (member l e ms)
    go Equal is after =
        let one : k ≡ l = exact_bytes k l is in
        first name l d ms
        ∙ twice (bytes_eq name l) (Some d) (Some e) (get_member name ms)
        ∙ ap (λ x. cond (bytes_eq name l) (Some d) x) (sym (first name l e ms))
        ∙ ap (λ x. cond (bytes_eq name x) (Some d) (get_member name (member l e ms))) (sym one)
    go Greater is after =
        first name l e (put k d ms)
        ∙ ap (λ x. cond (bytes_eq name l) (Some e) x) after
        ∙ either_first (bytes_eq name l) (bytes_eq name k) (Some e) (Some d) (get_member name ms) other
        ∙ ap (λ x. cond (bytes_eq name k) (Some d) x) (sym (first name l e ms))
      where
        other : bytes_eq name l ≡ true → bytes_eq name k ≡ true → ⊥
        other a b =
            let to_l : name ≡ l = (bytes_eq-Decides name l).0 a in
            let to_k : name ≡ k = (bytes_eq-Decides name k).0 b in
            let one : k ≡ l = sym to_k ∙ to_l in
            let equal : slice_cmp nat_cmp k l ≡ Equal = ap (slice_cmp nat_cmp k) (sym one) ∙ same k in
            absurd (let clash : Greater ≡ Equal = sym is ∙ equal in cc)

-- ---- All members

abbrev later : Option Data → Option Data → Option Data
later None earlier = earlier
later (Some d) earlier = Some d

turned : (k name : List ℕ) → bytes_eq k name ≡ bytes_eq name k
turned k name = go (bytes_eq k name) (bytes_eq name k) refl refl
  where
    go : (b c : Bool) → bytes_eq k name ≡ b → bytes_eq name k ≡ c → b ≡ c
    go true true p q = refl
    go false false p q = refl
    go true false p q = absurd (true≢false (sym ((bytes_eq-Decides name k).1 (sym ((bytes_eq-Decides k name).0 p))) ∙ q))
    go false true p q = absurd (true≢false (sym ((bytes_eq-Decides k name).1 (sym ((bytes_eq-Decides name k).0 q))) ∙ p))

pub found : (name : List ℕ) (ms : json.Members) (before : Members) → get_member name (members_of ms before) ≡ later (option_map data_of (lent.get_member name ms)) (get_member name before)
found name json.no_members before = refl
found name (json.member k j ms) before =
    found name ms (put k (data_of j) before)
    ∙ ap (λ x. later (option_map data_of (lent.get_member name ms)) x) (found_put name k (data_of j) before)
    ∙ go (lent.get_member name ms) (bytes_eq k name) (bytes_eq name k) (turned k name)
  where
    go : (after : Option json.Json) (b c : Bool) → b ≡ c
        → later (option_map data_of after) (cond c (Some (data_of j)) (get_member name before)) ≡ later (option_map data_of (lent.later_or after (cond b (Some j) None))) (get_member name before)
    go (Some x) b c is = refl
    go None true true is = refl
    go None false false is = refl
    go None true false is = absurd (true≢false is)
    go None false true is = absurd (true≢false (sym is))

nothing_before : (o : Option Data) → later o None ≡ o
nothing_before None = refl
nothing_before (Some d) = refl

pub found_last : (name : List ℕ) (ms : json.Members) → option_map data_of (lent.get_member name ms) ≡ get_member name (members_of ms no_members)
found_last name ms = sym (found name ms no_members ∙ nothing_before (option_map data_of (lent.get_member name ms)))
