-- Of two histories one is a prefix of the other, and where all was read a history becomes all commands.
use Rattle.std.proofs.Common.{ℕ, zero, suc, Bool, true, false, not, cond, ◌≡◌, ◌≢◌, ◌≤◌, ◌<◌, ◌+◌, ◌-◌, ◌==◌, ◌||◌, ◌&&◌, ◌⊎◌, inl, inr, List, [], ◌∷◌, ◌++◌, length, map, refl, sym, ap, subst, ◌∙◌, arith, true≢false, append-nil, Option, Some, None, Ok}
use Rattle.std.specs.List.{AllByRecursion as Each, filter, list_all}
use Rattle.std.proofs.lemmas.Bool.Decides.{nat_tests}
use Rattle.std.proofs.lemmas.List.{length-map}
use Rattle.rbac_terms.specs.Vocabulary.{Vocabulary}
use Rattle.rbac_words.specs.Group.{Group}
use Rattle.rbac_terms.specs.State.{State, founding_state}
use Rattle.rbac_terms.specs.Effect.{effect, reply}
use Rattle.rbac_terms.specs.Replay.{replies}
use Rattle.rbac_words.specs.Stamp.{IsBefore, is_before, last_stamp, up_to, has_passed}
use Rattle.rbac_words.specs.Message.{stamp_of, submitted_at, submissions, submission_of, commands_of, has_later}
use Rattle.rbac_words.specs.Front.{is_of, command_of}
use Rattle.rbac_words.specs.World.{World, Node, node, is_member, read_of, least, due, place_of, answer_unless, step_outcome}
use Rattle.rbac_words.specs.Right.{all_commands}
use Rattle.rbac_words.specs.Play.{IsPrefixOf, IsReadToEnd}
use Rattle.rbac_words.specs.Keeping.Member.{Member, node_of, latest_of, known, numbers, is_passed_by_all, if_passed, IsNumber}
use Rattle.rbac_words.specs.Keeping.Members.{member_at, AreMembers, world_of}
use Rattle.rbac_words.specs.declared.event.Event.TheVariants.{Deliver}
use Rattle.rbac_words.specs.declared.event.Outcome.TheVariants.{Delivered}
use Rattle.rbac_words.specs.declared.event.Refusal.TheVariants.{UnknownMember}
use Rattle.rbac_words.specs.declared.message.Message.{Message}
use Rattle.rbac_words.specs.declared.message.Submission.{Submission}
use Rattle.rbac_words.specs.declared.record.Record.{Record}
use Rattle.rbac_words.specs.declared.stamp.Stamp.{Stamp}
use Rattle.sorted_keys.proofs.Lists.{Each-right, Each-weaker, Each-filter, Each-from_filter, filter-none, cons_head, cons_tail}
use Rattle.rbac_order.proofs.StampLemmas.{before_trans, before_true, true_before, passed_by_one, Rising-left}
use Rattle.rbac_order.proofs.SenderLemmas.{of, Rising, decide, is_of-yes}
use Rattle.rbac_order.proofs.HistoryLemmas.{Rising-all, all_of_each}
use Rattle.rbac_order.proofs.StepLemmas.{in_group}
use Rattle.rbac_order.proofs.GroupLemmas.{node-of_member, inside, read_by, lawful_front, lawful_world, right_at, due_is_due, of_group}

-- ---- Prefixes

-- what goes up to a stamp is a first part of a rising list
up_to_prefix : (t : Stamp) (xs : List Submission) → Rising xs → IsPrefixOf (filter (λ x. not (is_before t (submitted_at x))) xs) xs
up_to_prefix t [] r = ([], refl)
up_to_prefix t (x ∷ xs) r = go (is_before t x.stamp) refl (up_to_prefix t xs r.1)
  where
    go : (b : Bool) → is_before t x.stamp ≡ b → IsPrefixOf (filter (λ y. not (is_before t (submitted_at y))) xs) xs
        → IsPrefixOf (cond (not b) (x ∷ filter (λ y. not (is_before t (submitted_at y))) xs) (filter (λ y. not (is_before t (submitted_at y))) xs)) (x ∷ xs)
    go true e on = (
      x ∷ xs,
      ap (λ l. l ++ x ∷ xs)
          (filter-none (λ y. not (is_before t (submitted_at y))) xs
          (Each-weaker (λ y. IsBefore x.stamp y.stamp) (λ y. not (is_before t (submitted_at y)) ≡ false) xs (λ y h. ap not (true_before t y.stamp (before_trans t x.stamp y.stamp (before_true t x.stamp e) h))) r.0)),
    )
    go false e on = (on.0, ap (λ l. x ∷ l) on.1)

pub prefix_of_all : (xs all : List Submission) → Rising all → xs ≡ up_to submitted_at (last_stamp submitted_at xs) all → IsPrefixOf xs all
prefix_of_all xs all r e = go (last_stamp submitted_at xs) e
  where
    go : (o : Option Stamp) → xs ≡ up_to submitted_at o all → IsPrefixOf xs all
    go None f = (all, ap (λ l. l ++ all) f)
    go (Some t) f = subst (λ l. IsPrefixOf l all) (sym f) (up_to_prefix t all r)

-- two first parts of one list
pub prefixes_of_one : (xs ys zs : List Submission) → IsPrefixOf xs zs → IsPrefixOf ys zs → IsPrefixOf xs ys ⊎ IsPrefixOf ys xs
prefixes_of_one [] ys zs a b = inl (ys, refl)
prefixes_of_one (x ∷ xs) [] zs a b = inr (x ∷ xs, refl)
prefixes_of_one (x ∷ xs) (y ∷ ys) [] a b = let e : x ∷ (xs ++ a.0) ≡ [] = a.1 in absurd (let no : ⊥ = cc in no)
prefixes_of_one (x ∷ xs) (y ∷ ys) (z ∷ zs) a b =
    let e : x ∷ (xs ++ a.0) ≡ z ∷ zs = a.1 in
    let f : y ∷ (ys ++ b.0) ≡ z ∷ zs = b.1 in
    let same : x ≡ y = cc in
    elim (prefixes_of_one xs ys zs (a.0, cons_tail x z (xs ++ a.0) zs e) (b.0, cons_tail y z (ys ++ b.0) zs f)) [
      | inl q ↦ inl (q.0, let g : xs ++ q.0 ≡ ys = q.1 in let k : x ∷ (xs ++ q.0) ≡ y ∷ ys = cc in k)
      | inr q ↦ inr (q.0, let g : ys ++ q.0 ≡ xs = q.1 in let k : y ∷ (ys ++ q.0) ≡ x ∷ xs = cc in k)
    ]

-- a record is its command with its answer
pub record_is : (r q : Record) → submission_of r ≡ submission_of q → r.answer ≡ q.answer → r ≡ q
record_is r q e f = λ i. let x : Submission = e i in record { stamp = x.stamp; caller = x.caller; serial = x.serial; command = x.command; answer = f i }

-- histories whose answers are the replies go on like their commands
pub history_prefix : (s : State) (rs qs : List Record) → map (λ (r : Record). r.answer) rs ≡ replies s (map command_of (commands_of rs)) → map (λ (r : Record). r.answer) qs ≡ replies s (map command_of (commands_of qs))
    → IsPrefixOf (commands_of rs) (commands_of qs) → IsPrefixOf rs qs
history_prefix s [] qs a b p = (qs, refl)
history_prefix s (r ∷ rs) [] a b p = let e : submission_of r ∷ (commands_of rs ++ p.0) ≡ [] = p.1 in absurd (let no : ⊥ = cc in no)
history_prefix s (r ∷ rs) (q ∷ qs) a b p =
    let e : submission_of r ∷ (commands_of rs ++ p.0) ≡ submission_of q ∷ commands_of qs = p.1 in
    let same : submission_of r ≡ submission_of q = cons_head (submission_of r) (submission_of q) (commands_of rs ++ p.0) (commands_of qs) e in
    let command : r.command ≡ q.command = ap command_of same in
    let answer : r.answer ≡ q.answer =
    cons_head _ _ _ _ a ∙ ap (λ c. reply c s) command ∙ sym (cons_head _ _ _ _ b) in
    let on =
    history_prefix (effect r.command s) rs qs (cons_tail _ _ _ _ a)
    (cons_tail _ _ _ _ b ∙ ap (λ c. replies (effect c s) (map command_of (commands_of qs))) (sym command))
    (p.0, cons_tail (submission_of r) (submission_of q) (commands_of rs ++ p.0) (commands_of qs) e) in
    (on.0, ap (λ l. r ∷ l) on.1 ∙ ap (λ z. z ∷ qs) (record_is r q same answer))

module _ (group : Group) (vocabulary : Vocabulary) (ms : List Member) (are : AreMembers group vocabulary ms) where
  abbrev at : ℕ → Member
  at i = member_at ms i

  abbrev w : World
  w = world_of group vocabulary ms

  prefix_at : (i : ℕ) → i < length ms → IsPrefixOf (commands_of (at i).history) (all_commands w)
  prefix_at i h = prefix_of_all (commands_of (at i).history) (all_commands w) (Rising-all w (lawful_world group vocabulary ms are)) (right_at group vocabulary ms are i h).delivered

  pub one_history : (i j : ℕ) → i < length ms → j < length ms → IsPrefixOf (at i).history (at j).history ⊎ IsPrefixOf (at j).history (at i).history
  one_history i j hi hj =
      elim (prefixes_of_one (commands_of (at i).history) (commands_of (at j).history) (all_commands w) (prefix_at i hi) (prefix_at j hj)) [
        | inl p ↦ inl (history_prefix (founding_state vocabulary) (at i).history (at j).history (right_at group vocabulary ms are i hi).answered (right_at group vocabulary ms are j hj).answered p)
        | inr p ↦ inr (history_prefix (founding_state vocabulary) (at j).history (at i).history (right_at group vocabulary ms are j hj).answered (right_at group vocabulary ms are i hi).answered p)
      ]

  -- ---- Read to the end

  -- each has taken all that each other one sent
  abbrev IsAllTaken : Type 0
  IsAllTaken = (i j : ℕ) → i < length ms → j < length ms → i ≢ j → read_of (node_of (at i)) (at j).number ≡ length (at j).sent

  all_taken : IsReadToEnd w → IsAllTaken
  all_taken end i j hi hj d =
      let one = end i j (outside i hi) (outside j hj) d in
      ap (λ k. read_of (node_of (at i)) k) (are.numbered j hj) ∙ ap (λ (v : Node). read_of v (j + 1)) (sym (node-of_member ms i)) ∙ one ∙ ap (λ (v : Node). length v.sent) (node-of_member ms j)
    where
      outside : (k : ℕ) → k < length ms → k < length w.nodes
      outside k h = let a : length w.nodes ≡ length ms = length-map ms node_of in omega arith

  nothing_unread : IsAllTaken → (i j : ℕ) → (hi : i < length ms) → (hj : j < length ms) → (d : j ≡ i → ⊥) → (read_by group vocabulary ms are i j hi hj d).taken ≡ (at j).sent
  nothing_unread all i j hi hj d =
      let r = read_by group vocabulary ms are i j hi hj d in
      no_more r.taken r.unread (let a : length (at j).sent ≡ length (r.taken ++ r.unread) = ap length r.sent in let b : read_of (node_of (at i)) (at j).number ≡ length r.taken = r.has_taken.count in
      let c : read_of (node_of (at i)) (at j).number ≡ length (at j).sent = all i j hi hj (λ e. d (sym e)) in omega arith) ∙ sym r.sent
    where
      no_more : (xs ys : List Message) → length (xs ++ ys) ≡ length xs → xs ≡ xs ++ ys
      no_more [] [] e = refl
      no_more [] (y ∷ ys) e = absurd (let no : ⊥ = omega arith in no)
      no_more (x ∷ xs) ys e = ap (λ l. x ∷ l) (no_more xs ys (omega arith))

  -- so each knows all commands of each
  knows_all : IsAllTaken → (i j : ℕ) → i < length ms → j < length ms → of (at j).number (known (at i)) ≡ submissions (at j).sent
  knows_all all i j hi hj =
      decide (of (at j).number (known (at i)) ≡ submissions (at j).sent) j i
      (λ e. subst (λ n. of (at n).number (known (at i)) ≡ submissions (at n).sent) (sym e) (are.kept i hi).own)
      (λ d. (read_by group vocabulary ms are i j hi hj d).has_taken.commands ∙ ap submissions (nothing_unread all i j hi hj d))

  -- and each command that one holds has been passed by all
  passed_at_end : IsAllTaken → (i : ℕ) → i < length ms → (x : Submission) (rest : List Submission) → (at i).held ≡ x ∷ rest → is_passed_by_all (at i) x ≡ true
  passed_at_end all i hi x rest is =
      every (λ k. (k == (at i).number || k == x.stamp.member) || has_passed (latest_of (at i) k) x.stamp) (at i).group.members 0
      (λ j h. subst (λ k. ((k == (at i).number || k == x.stamp.member) || has_passed (latest_of (at i) k) x.stamp) ≡ true) (are.numbered j (place j h) ∙ (let z : j + 1 ≡ suc (0 + j) = omega arith in z)) (one j (place j h)))
    where
      place : (j : ℕ) → j < (at i).group.members → j < length ms
      place j h = let a : (at i).group.members ≡ group.members = ap (λ (g : Group). g.members) (are.same_group i hi) in let b : length ms ≡ group.members = are.count in omega arith

      every : (q : ℕ → Bool) (n j : ℕ) → ((k : ℕ) → k < n → q (suc (j + k)) ≡ true) → list_all q (numbers n j) ≡ true
      every q zero j f = refl
      every q (suc n) j f = and_true _ _ (ap q (let z : suc j ≡ suc (j + 0) = omega arith in z) ∙ f 0 (omega arith)) (every q n (suc j) (λ k h. ap q (let z : suc (suc j + k) ≡ suc (j + suc k) = omega arith in z) ∙ f (suc k) (omega arith)))
        where
          and_true : (a b : Bool) → a ≡ true → b ≡ true → (a && b) ≡ true
          and_true a b p q = rw (p, q) refl

      -- the place of the command's own member
      sender : ℕ
      sender = x.stamp.member - 1

      of_the_group : IsNumber group x.stamp.member
      of_the_group =
          (subst (Each (λ (y : Submission). IsNumber group y.stamp.member)) is (Each-right (λ (y : Submission). IsNumber group y.stamp.member) (commands_of (at i).history) (at i).held (of_group group vocabulary ms are i hi))).0

      sender_place : sender < length ms
      sender_place = let a : 1 ≤ x.stamp.member = of_the_group.low in let b : x.stamp.member ≤ group.members = of_the_group.high in let c : length ms ≡ group.members = are.count in omega arith

      sender_number : (at sender).number ≡ x.stamp.member
      sender_number = are.numbered sender sender_place ∙ (let a : 1 ≤ x.stamp.member = of_the_group.low in let z : x.stamp.member - 1 + 1 ≡ x.stamp.member = omega arith in z)

      -- another member than the sender knows the command, and has sent something with a greater stamp
      sent_after : (j : ℕ) → j < length ms → ((at j).number ≡ x.stamp.member → ⊥) → has_later (at j).sent x.stamp ≡ true
      sent_after j hj n = at_x (is_of-yes x.stamp.member x refl) (λ e. n (sym e))
        where
          same : of x.stamp.member (known (at j)) ≡ of x.stamp.member (known (at i))
          same = subst (λ k. of k (known (at j)) ≡ of k (known (at i))) sender_number (knows_all all j sender hj sender_place ∙ sym (knows_all all i sender hi sender_place))

          at_x : is_of x.stamp.member x ≡ true → (x.stamp.member ≡ (at j).number → ⊥) → has_later (at j).sent x.stamp ≡ true
          at_x =
              (subst (Each (λ (y : Submission). is_of x.stamp.member y ≡ true → (y.stamp.member ≡ (at j).number → ⊥) → has_later (at j).sent y.stamp ≡ true)) is
              (Each-right (λ (y : Submission). is_of x.stamp.member y ≡ true → (y.stamp.member ≡ (at j).number → ⊥) → has_later (at j).sent y.stamp ≡ true) (commands_of (at i).history) (at i).held
              (Each-from_filter (λ (y : Submission). (y.stamp.member ≡ (at j).number → ⊥) → has_later (at j).sent y.stamp ≡ true) (is_of x.stamp.member) (known (at i))
              (subst (Each (λ (y : Submission). (y.stamp.member ≡ (at j).number → ⊥) → has_later (at j).sent y.stamp ≡ true)) same
              (Each-filter (λ (y : Submission). (y.stamp.member ≡ (at j).number → ⊥) → has_later (at j).sent y.stamp ≡ true) (is_of x.stamp.member) (known (at j)) (are.kept j hj).acknowledged))))).0

      yes : (m n : ℕ) (b c : Bool) → m ≡ n → ((m == n || b) || c) ≡ true
      yes m n b c e = let f : (m == n) ≡ true = grind (arith, nat_tests) in rw f refl

      also : (m n : ℕ) (b c : Bool) → m ≡ n → ((b || m == n) || c) ≡ true
      also m n true c e = refl
      also m n false c e = let f : (m == n) ≡ true = grind (arith, nat_tests) in rw f refl

      last : (b c : Bool) → c ≡ true → (b || c) ≡ true
      last true c e = refl
      last false c e = e

      one : (j : ℕ) → j < length ms → (((at j).number == (at i).number || (at j).number == x.stamp.member) || has_passed (latest_of (at i) (at j).number) x.stamp) ≡ true
      one j hj =
          decide _ j i
          (λ e. yes (at j).number (at i).number _ _ (ap (λ n. (at n).number) e))
          (λ d. decide _ (at j).number x.stamp.member (λ e. also (at j).number x.stamp.member _ _ e)
          (λ n. let r = read_by group vocabulary ms are i j hi hj d in
          last ((at j).number == (at i).number || (at j).number == x.stamp.member) _
          (ap (λ o. has_passed o x.stamp) r.has_taken.latest ∙ passed_by_one stamp_of x.stamp r.taken (Rising-left stamp_of r.taken r.unread (lawful_front group vocabulary ms are i j hi hj d).rising)
          ∙ ap (λ l. has_later l x.stamp) (nothing_unread all i j hi hj d) ∙ sent_after j hj n)))

  -- where all was read and nothing is due, a history is all commands
  pub all_delivered : IsReadToEnd w → (i : ℕ) → i < length ms → due w (node_of (at i)) ≡ None → commands_of (at i).history ≡ all_commands w
  all_delivered end i hi none = go (at i).held refl (sym (due_is_due group vocabulary ms are i hi) ∙ none)
    where
      go : (xs : List Submission) → (at i).held ≡ xs → if_passed (at i) (least xs) ≡ None → commands_of (at i).history ≡ all_commands w
      go [] e f =
          sym (append-nil (commands_of (at i).history)) ∙ ap (λ l. commands_of (at i).history ++ l) (sym e)
          ∙ all_of_each w (lawful_world group vocabulary ms are) (known (at i)) (are.kept i hi).rising (of_group group vocabulary ms are i hi)
          (λ j hj. ap (λ k. of k (known (at i))) (sym (are.numbered j (inside group vocabulary ms are j hj))) ∙ knows_all (all_taken end) i j hi (inside group vocabulary ms are j hj)
          ∙ ap (λ (v : Node). submissions v.sent) (sym (node-of_member ms j)))
      go (x ∷ rest) e f = stuck (is_passed_by_all (at i) x) (passed_at_end (all_taken end) i hi x rest e) f
        where
          stuck : (b : Bool) → b ≡ true → cond b (Some x) None ≡ None → commands_of (at i).history ≡ all_commands w
          stuck true g h = let no : ⊥ = cc in absurd no
          stuck false g h = absurd (true≢false (sym g))

-- a delivery that gives nothing is that of a member, which had nothing due
record GivesNothing (w : World) (k : ℕ) : Type 0 where
  member : is_member w k ≡ true
  none : due w (node w k) ≡ None

gives_nothing : (w : World) (k : ℕ) → step_outcome w (Deliver k) ≡ Ok (Delivered None) → GivesNothing w k
gives_nothing w k e = go (is_member w k) refl e
  where
    place : (o : Option Submission) → Delivered (place_of (node w k) o) ≡ Delivered None → o ≡ None
    place None f = refl
    place (Some x) f = let no : ⊥ = cc in absurd no

    go : (b : Bool) → is_member w k ≡ b → answer_unless (cond b None (Some UnknownMember)) (Delivered (place_of (node w k) (due w (node w k)))) ≡ Ok (Delivered None) → GivesNothing w k
    go true m f = record { member = m; none = place (due w (node w k)) (let g : Delivered (place_of (node w k) (due w (node w k))) ≡ Delivered None = cc in g) }
    go false m f = let no : ⊥ = cc in absurd no

pub delivery_of_member : (group : Group) (vocabulary : Vocabulary) (ms : List Member) → AreMembers group vocabulary ms → (k : ℕ) → IsReadToEnd (world_of group vocabulary ms)
    → step_outcome (world_of group vocabulary ms) (Deliver k) ≡ Ok (Delivered None) → commands_of (node (world_of group vocabulary ms) k).history ≡ all_commands (world_of group vocabulary ms)
delivery_of_member group vocabulary ms are k end e =
    let w : World = world_of group vocabulary ms in
    let nothing = gives_nothing w k e in
    let place : k - 1 < length ms = (in_group group vocabulary ms are k nothing.member).1 in
    ap (λ (v : Node). commands_of v.history) (node-of_member ms (k - 1))
    ∙ all_delivered group vocabulary ms are end (k - 1) place (ap (λ (v : Node). due w v) (sym (node-of_member ms (k - 1))) ∙ nothing.none)
