-- The keys of an object are those of its members.
use Rattle.std.proofs.Common.{◌≡◌, ◌&&◌, ℕ, Bool, true, false, List, [], ◌∷◌, Ordering, Less, Equal, Greater, Bor, Global, refl, sym, ap, ◌∙◌}
use Rattle.std.specs.Ordering.{nat_cmp, match_ordering}
use Rattle.std.specs.Cmp.Lexicographic.{slice_cmp}
use Rattle.std.specs.List.{list_all}
use Rattle.std.proofs.lemmas.Map.Lookups.{exact_bytes}
use Rattle.json.specs.Json as json
use Rattle.json.specs.Value as lent
use Rattle.json.specs.declared.value.Value.{Value}
use Rattle.serde_json.specs.Data.{Data, Members, no_members, member, put}
use Rattle.lent_json.specs.Data.{data_of, keys_of, members_of}

swapped : (a b c : Bool) → (a && (b && c)) ≡ (b && (a && c))
swapped true true c = refl
swapped true false c = refl
swapped false true c = refl
swapped false false c = refl

again : (a c : Bool) → (a && c) ≡ (a && (a && c))
again true c = refl
again false c = refl

-- of the keys, where a member was put
put_all : (test : List ℕ → Bool) (k : List ℕ) (d : Data) (ms : Members) → list_all test (keys_of (put k d ms)) ≡ (test k && list_all test (keys_of ms))
put_all test k d no_members = refl
put_all test k d (member l e ms) = go (slice_cmp nat_cmp k l) refl (put_all test k d ms)
  where
    go : (o : Ordering) → slice_cmp nat_cmp k l ≡ o → list_all test (keys_of (put k d ms)) ≡ (test k && list_all test (keys_of ms))
        → list_all test (keys_of (match_ordering o (member k d (member l e ms)) (member l d ms) (member l e (put k d ms)))) ≡ (test k && (test l && list_all test (keys_of ms)))
    go Less is after = refl
    go Equal is after =
        let one : k ≡ l = exact_bytes k l is in
        again (test l) (list_all test (keys_of ms)) ∙ ap (λ x. test x && (test l && list_all test (keys_of ms))) (sym one)
    go Greater is after = ap (λ b. test l && b) after ∙ swapped (test l) (test k) (list_all test (keys_of ms))

moved : (a b c : Bool) → (b && (a && c)) ≡ ((a && b) && c)
moved true true c = refl
moved true false c = refl
moved false true c = refl
moved false false c = refl

pub all_keys : (test : List ℕ → Bool) (ms : List (Bor (List ℕ) × Value Global)) (before : Members)
    → list_all test (keys_of (members_of (lent.members_view ms) before)) ≡ (list_all (λ m. test m.0.now) ms && list_all test (keys_of before))
all_keys test [] before = refl
all_keys test (m ∷ ms) before =
    all_keys test ms (put m.0.now (data_of (lent.value_view m.1)) before)
    ∙ ap (λ b. list_all (λ n. test n.0.now) ms && b) (put_all test m.0.now (data_of (lent.value_view m.1)) before)
    ∙ moved (test m.0.now) (list_all (λ n. test n.0.now) ms) (list_all test (keys_of before))

ended : (b : Bool) → (b && true) ≡ b
ended true = refl
ended false = refl

pub all_keys_of : (test : List ℕ → Bool) (ms : List (Bor (List ℕ) × Value Global)) → list_all test (keys_of (members_of (lent.members_view ms) no_members)) ≡ list_all (λ m. test m.0.now) ms
all_keys_of test ms = all_keys test ms no_members ∙ ended (list_all (λ m. test m.0.now) ms)
