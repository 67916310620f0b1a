-- The counted serials after commands are known.
use Rattle.std.proofs.Common.{ℕ, suc, Bool, true, false, cond, ◌≡◌, ◌+◌, ◌==◌, ◌&&◌, List, [], ◌∷◌, ◌++◌, length, unwrap_or, refl, sym, ap, ap₂, ◌∙◌, arith, length-append, Option, Some}
use Rattle.std.specs.List.{filter}
use Rattle.std.specs.Cmp.{IsTotalOrder, unsigned_tied}
use Rattle.std.specs.Ordering.{nat_cmp, eq_by_cmp}
use Rattle.std.specs.FinMap.Entries.{find, find-put}
use Rattle.std.proofs.lemmas.Cmp.{nat_cmp_total, on_total, then_total}
use Rattle.std.proofs.lemmas.Bool.{eqb-true}
use Rattle.std.proofs.lemmas.List.Elements.{filter-append}
use Rattle.rbac_words.specs.Stamp.{is_before, insert_by_stamp, insert_all}
use Rattle.rbac_words.specs.Message.{is_by, submitted_at, next_place, in_turn, next_serial}
use Rattle.rbac_words.specs.Front.{is_of}
use Rattle.rbac_terms.specs.declared.command.Command.{Command}
use Rattle.rbac_words.specs.declared.message.Message.TheVariants.{Batch}
use Rattle.rbac_words.specs.declared.message.Submission.{Submission}
use Rattle.rbac_words.specs.declared.stamp.Stamp.{Stamp}
use Rattle.sorted_keys.proofs.Ties.{ties-pair}
use Rattle.rbac_order.proofs.RangeLemmas.{turned}
use Rattle.rbac_member.specs.Serials.{caller_cmp, counted, AreCounted}

-- ---- How many commands of a caller of a member there are

-- how much a command adds
abbrev weight : ℕ → ℕ → Submission → ℕ
weight member caller x = cond (is_of member x) (cond (is_by caller x) 1 0) 0

abbrev amount : ℕ → ℕ → List Submission → ℕ
amount member caller xs = next_serial caller (filter (is_of member) xs)

amount-∷ : (member caller : ℕ) (x : Submission) (xs : List Submission) → amount member caller (x ∷ xs) ≡ weight member caller x + amount member caller xs
amount-∷ member caller x xs = go (is_of member x)
  where
    rest : List Submission
    rest = filter (is_of member) xs

    one : (b : Bool) → length (cond b (x ∷ filter (is_by caller) rest) (filter (is_by caller) rest)) ≡ cond b 1 0 + next_serial caller rest
    one true = omega arith
    one false = omega arith

    go : (a : Bool) → next_serial caller (cond a (x ∷ rest) rest) ≡ cond a (cond (is_by caller x) 1 0) 0 + next_serial caller rest
    go true = one (is_by caller x)
    go false = omega arith

amount-append : (member caller : ℕ) (xs ys : List Submission) → amount member caller (xs ++ ys) ≡ amount member caller xs + amount member caller ys
amount-append member caller xs ys =
    ap (next_serial caller) (filter-append (is_of member) xs ys) ∙ ap length (filter-append (is_by caller) (filter (is_of member) xs) (filter (is_of member) ys))
    ∙ length-append (filter (is_by caller) (filter (is_of member) xs)) (filter (is_by caller) (filter (is_of member) ys))

amount-insert : (member caller : ℕ) (x : Submission) (xs : List Submission) → amount member caller (insert_by_stamp submitted_at x xs) ≡ weight member caller x + amount member caller xs
amount-insert member caller x [] = amount-∷ member caller x []
amount-insert member caller x (y ∷ ys) = go (is_before (submitted_at x) (submitted_at y)) (amount-insert member caller x ys)
  where
    go : (b : Bool) → amount member caller (insert_by_stamp submitted_at x ys) ≡ weight member caller x + amount member caller ys
        → amount member caller (cond b (x ∷ y ∷ ys) (y ∷ insert_by_stamp submitted_at x ys)) ≡ weight member caller x + amount member caller (y ∷ ys)
    go true e = amount-∷ member caller x (y ∷ ys)
    go false e = let a = amount-∷ member caller y (insert_by_stamp submitted_at x ys) in let b = amount-∷ member caller y ys in omega (arith, a, b, e)

-- how much commands of one caller add
amount-in_turn : (member caller : ℕ) (s : Stamp) (c n : ℕ) (cs : List Command) → amount member caller (in_turn s c n cs) ≡ cond (s.member == member) (cond (c == caller) (length cs) 0) 0
amount-in_turn member caller s c n [] = go (s.member == member) (c == caller)
  where
    go : (a b : Bool) → ◌≡◌ {A = ℕ} 0 (cond a (cond b 0 0) 0)
    go true true = refl
    go true false = refl
    go false b = refl
amount-in_turn member caller s c n (x ∷ cs) =
    let a = amount-∷ member caller (record { stamp = s; caller = c; serial = n; command = x }) (in_turn (next_place s) c (suc n) cs) in
    a ∙ ap (λ k. cond (s.member == member) (cond (c == caller) 1 0) 0 + k) (amount-in_turn member caller (next_place s) c (suc n) cs) ∙ go (s.member == member) (c == caller)
  where
    go : (a b : Bool) → cond a (cond b 1 0) 0 + cond a (cond b (length cs) 0) 0 ≡ cond a (cond b (suc (length cs)) 0) 0
    go true true = omega arith
    go true false = refl
    go false b = refl

amount-insert_all : (member caller : ℕ) (xs ys : List Submission) → amount member caller (insert_all submitted_at xs ys) ≡ amount member caller xs + amount member caller ys
amount-insert_all member caller [] ys = omega arith
amount-insert_all member caller (x ∷ xs) ys =
    let a = amount-insert_all member caller xs (insert_by_stamp submitted_at x ys) in
    let b = amount-insert member caller x ys in
    let c = amount-∷ member caller x xs in omega (arith, a, b, c)

-- ---- What the entries say

callers_total : IsTotalOrder caller_cmp
callers_total = then_total (on_total (λ p. p.0) nat_cmp_total) (on_total (λ p. p.1) nat_cmp_total)

same_caller : (m n c d : ℕ) → eq_by_cmp caller_cmp (m, c) (n, d) ≡ ((m == n) && (c == d))
same_caller m n c d = ties-pair nat_cmp nat_cmp (m, c) (n, d) ∙ ap₂ (λ a b. a && b) (unsigned_tied m n) (unsigned_tied c d)

-- commands of one caller more, of which the first has the serial that the caller has next
counted-more : (entries : List ((ℕ × ℕ) × ℕ)) (xs ys : List Submission) (s : Stamp) (c n : ℕ) (cs : List Command) → AreCounted entries xs → n ≡ next_serial c (filter (is_of s.member) xs)
    → ((member caller : ℕ) → amount member caller ys ≡ cond (s.member == member) (cond (c == caller) (length cs) 0) 0 + amount member caller xs) → AreCounted (counted (Batch s c n cs) entries) ys
counted-more entries xs ys s c n cs known next more member caller =
    ap (λ (o : Option ℕ). unwrap_or o 0)
    (find-put caller_cmp callers_total (member, caller) (s.member, c) (n + length cs) entries
    ∙ ap (λ b. cond b (Some (n + length cs)) (find caller_cmp (member, caller) entries)) (same_caller member s.member caller c))
    ∙ go (member == s.member) (caller == c) refl refl
    ∙ sym (more member caller)
  where
    go : (a b : Bool) → (member == s.member) ≡ a → (caller == c) ≡ b
        → unwrap_or (cond (a && b) (Some (n + length cs)) (find caller_cmp (member, caller) entries)) 0 ≡ cond (s.member == member) (cond (c == caller) (length cs) 0) 0 + amount member caller xs
    go true true e f =
        rw (turned member s.member true e) (rw (turned caller c true f)
        (let k : n ≡ amount member caller xs = next ∙ ap₂ (λ m d. amount m d xs) (sym (eqb-true member s.member e)) (sym (eqb-true caller c f)) in omega (arith, k)))
    go true false e f = rw (turned member s.member true e) (rw (turned caller c false f) (let k = known member caller in omega (arith, k)))
    go false b e f = rw (turned member s.member false e) (let k = known member caller in omega (arith, k))

-- commands that join what is held are counted
pub counted-held : (entries : List ((ℕ × ℕ) × ℕ)) (history held : List Submission) (s : Stamp) (c n : ℕ) (cs : List Command) → AreCounted entries (history ++ held)
    → n ≡ next_serial c (filter (is_of s.member) (history ++ held))
    → AreCounted (counted (Batch s c n cs) entries) (history ++ insert_all submitted_at (in_turn s c n cs) held)
counted-held entries history held s c n cs known next =
    counted-more entries (history ++ held) (history ++ insert_all submitted_at (in_turn s c n cs) held) s c n cs known next
    (λ member caller.
    let a = amount-append member caller history (insert_all submitted_at (in_turn s c n cs) held) in
    let b = amount-append member caller history held in
    let d = amount-insert_all member caller (in_turn s c n cs) held in
    let e = amount-in_turn member caller s c n cs in omega (arith, a, b, d, e))
