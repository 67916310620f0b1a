-- Members that have read sealed rows to their ends have all commands.
use Rattle.std.proofs.Common.{ℕ, zero, suc, Bool, true, false, ◌≡◌, ◌<◌, ◌+◌, ◌-◌, ◌==◌, ◌||◌, ◌&&◌, List, [], ◌∷◌, ◌++◌, length, map, drop, get_or, replicate, refl, sym, ap, subst, ◌∙◌, arith, append-nil, Option, Some, None}
use Rattle.std.specs.List.{AllByRecursion as Each, list_all}
use Rattle.std.proofs.lemmas.Bool.Decides.{nat_tests}
use Rattle.rbac_terms.specs.State.{State, founding_state}
use Rattle.rbac_terms.specs.Effect.{effect, reply}
use Rattle.rbac_terms.specs.Replay.{replies, state_after}
use Rattle.rbac_words.specs.Group.{Group, IsGroup}
use Rattle.rbac_words.specs.Stamp.{IsBefore, has_passed, last_stamp}
use Rattle.rbac_words.specs.Message.{stamp_of, submissions, submission_of, commands_of}
use Rattle.rbac_words.specs.Front.{command_of}
use Rattle.rbac_words.specs.World.{World, nobody, read_of, least}
use Rattle.rbac_words.specs.Right.{all_commands}
use Rattle.rbac_words.specs.Keeping.Member.{Member, IsMember, IsNumber, node_of, latest_of, known, numbers, is_passed_by_all, if_passed, due_at, deliver_due, founded}
use Rattle.rbac_words.specs.Keeping.Members.{HasReadOf, IsLawfulWorld}
use Rattle.rbac_words.specs.declared.message.Message.{Message}
use Rattle.rbac_words.specs.declared.message.Submission.{Submission}
use Rattle.rbac_words.specs.declared.record.Record.{Record}
use Rattle.rbac_words.specs.declared.stamp.Stamp.{Stamp}
use Rattle.sorted_keys.proofs.Lists.{Each-right, cons_head, cons_tail}
use Rattle.rbac_order.proofs.StampLemmas.{true_before, last_stamp-push}
use Rattle.rbac_order.proofs.SenderLemmas.{of, decide}
use Rattle.rbac_order.proofs.HistoryLemmas.{all_of_each}
use Rattle.rbac_order.proofs.MemberLemmas.{keeps_deliver}
use Rattle.rbac_moves.specs.Moves.{Move, delivers, run}
use Rattle.rbac_moves.specs.Seal.{row, IsAboveAll, AreOthersSealed, HasReadRows, HasRunToEnd, HasGoneOnToEnd}
use Rattle.rbac_order.proofs.EndLemmas.{record_is}
use Rattle.rbac_moves.proofs.MoveLemmas.{move_reads, run_reads, keeps_run, keeps_made, reads_made, number_moved, group_moved, vocabulary_moved, number_run, group_run, vocabulary_run}

-- ---- What was read to the end

no_more : (xs ys : List Message) → length (xs ++ ys) ≡ length xs → xs ≡ xs ++ ys
no_more [] [] e = refl
no_more [] (y ∷ ys) e = absurd (let no : ⊥ = omega arith in no)
no_more (x ∷ xs) ys e = ap (λ l. x ∷ l) (no_more xs ys (omega arith))

-- a test that holds at each number of a group
every : (q : ℕ → Bool) (n j : ℕ) → ((k : ℕ) → k < n → q (suc (j + k)) ≡ true) → list_all q (numbers n j) ≡ true
every q zero j f = refl
every q (suc n) j f = and_true _ _ (ap q (let z : suc j ≡ suc (j + 0) = omega arith in z) ∙ f 0 (omega arith)) (every q n (suc j) (λ k h. ap q (let z : suc (suc j + k) ≡ suc (j + suc k) = omega arith in z) ∙ f (suc k) (omega arith)))
  where
    and_true : (a b : Bool) → a ≡ true → b ≡ true → (a && b) ≡ true
    and_true a b p q = rw (p, q) refl

module _ (w : World) (l : IsLawfulWorld w) (v : Member) (r : HasReadRows w v) where
  abbrev reads : (k : ℕ) → IsNumber w.group k → (k ≡ v.number → ⊥) → HasReadOf v k (row w k)
  reads k n d = r.read k n d

  all_taken : (k : ℕ) → (n : IsNumber w.group k) → (d : k ≡ v.number → ⊥) → (reads k n d).taken ≡ row w k
  all_taken k n d =
      let h = reads k n d in
      no_more h.taken h.unread
      (let a : length (row w k) ≡ length (h.taken ++ h.unread) = ap length h.sent in let b : read_of (node_of v) k ≡ length h.taken = h.has_taken.count in let c : read_of (node_of v) k ≡ length (row w k) = r.to_end k n d in omega arith)
      ∙ sym h.sent

  -- so it knows all commands of each
  knows : (k : ℕ) → IsNumber w.group k → of k (known v) ≡ submissions (row w k)
  knows k n =
      decide (of k (known v) ≡ submissions (row w k)) k v.number
      (λ e. subst (λ j. of j (known v) ≡ submissions (row w j)) (sym e) (r.kept.own ∙ r.own))
      (λ d. (reads k n d).has_taken.commands ∙ ap submissions (all_taken k n d))

  others : Each (λ (x : Submission). IsNumber w.group x.stamp.member) (known v)
  others = subst (λ g. Each (λ (x : Submission). IsNumber g x.stamp.member) (known v)) r.same_group r.kept.others

  pub known_all : known v ≡ all_commands w
  known_all =
      all_of_each w l (known v) r.kept.rising others
      (λ i h. knows (i + 1) (let a : length w.nodes ≡ w.group.members = l.count in record { low = omega arith; high = omega arith })
      ∙ ap (λ j. submissions (get_or w.nodes j nobody).sent) (let z : i + 1 - 1 ≡ i = omega arith in z))

  -- ---- Where the other rows are sealed

  module _ (ends : AreOthersSealed w v.number) where
    -- each command that it holds has been passed by all
    pub all_passed : (x : Submission) (rest : List Submission) → v.held ≡ x ∷ rest → is_passed_by_all v x ≡ true
    all_passed x rest is =
        every (λ k. (k == v.number || k == x.stamp.member) || has_passed (latest_of v k) x.stamp) v.group.members 0
        (λ j h. one (suc (0 + j)) (let a : v.group.members ≡ w.group.members = ap (λ (g : Group). g.members) r.same_group in record { low = omega arith; high = omega arith }))
      where
        below : (s : Stamp) → IsAboveAll w s → IsBefore x.stamp s
        below s above =
            (subst (Each (λ (y : Submission). IsBefore y.stamp s)) is
            (Each-right (λ (y : Submission). IsBefore y.stamp s) (commands_of v.history) v.held
            (subst (Each (λ (y : Submission). IsBefore y.stamp s)) (sym known_all) above))).0

        yes : (m n : ℕ) (b c : Bool) → m ≡ n → ((m == n || b) || c) ≡ true
        yes m n b c e = let f : (m == n) ≡ true = grind (arith, nat_tests) in rw f refl

        last : (b c : Bool) → c ≡ true → (b || c) ≡ true
        last true c e = refl
        last false c e = e

        one : (k : ℕ) → IsNumber w.group k → ((k == v.number || k == x.stamp.member) || has_passed (latest_of v k) x.stamp) ≡ true
        one k n =
            decide _ k v.number (λ e. yes k v.number _ _ e)
            (λ d. let h = reads k n d in let s = ends k n d in
            last (k == v.number || k == x.stamp.member) _
            (ap (λ o. has_passed o x.stamp) (h.has_taken.latest ∙ ap (last_stamp stamp_of) (all_taken k n d ∙ s.ends) ∙ last_stamp-push stamp_of s.before s.seal)
            ∙ true_before x.stamp (stamp_of s.seal) (below (stamp_of s.seal) s.above)))

    -- so the least command that it holds is due: nothing is waited for
    pub due_is_least : due_at v ≡ least v.held
    due_is_least = go v.held refl
      where
        go : (xs : List Submission) → v.held ≡ xs → if_passed v (least xs) ≡ least xs
        go [] e = refl
        go (x ∷ rest) e = rw (all_passed x rest e) refl

    -- and where nothing is due, its history is all commands
    pub all_delivered : due_at v ≡ None → commands_of v.history ≡ all_commands w
    all_delivered none = go v.held refl (sym due_is_least ∙ none)
      where
        go : (xs : List Submission) → v.held ≡ xs → least xs ≡ None → commands_of v.history ≡ all_commands w
        go [] e f = sym (append-nil (commands_of v.history)) ∙ ap (λ xs. commands_of v.history ++ xs) (sym e) ∙ known_all
        go (x ∷ rest) e f = let no : ⊥ = cc in absurd no

-- ---- Two such members

-- histories whose answers are the replies are one where their commands are
history_is : (s : State) (rs qs : List Record) → map (λ (r : Record). r.answer) rs ≡ replies s (map command_of (commands_of rs)) → map (λ (r : Record). r.answer) qs ≡ replies s (map command_of (commands_of qs))
    → commands_of rs ≡ commands_of qs → rs ≡ qs
history_is s [] [] a b e = refl
history_is s [] (q ∷ qs) a b e = let f : [] ≡ submission_of q ∷ commands_of qs = e in let no : ⊥ = cc in absurd no
history_is s (r ∷ rs) [] a b e = let f : submission_of r ∷ commands_of rs ≡ [] = e in let no : ⊥ = cc in absurd no
history_is s (r ∷ rs) (q ∷ qs) a b e =
    let same : submission_of r ≡ submission_of q = cons_head (submission_of r) (submission_of q) (commands_of rs) (commands_of qs) e in
    let on : commands_of rs ≡ commands_of qs = cons_tail (submission_of r) (submission_of q) (commands_of rs) (commands_of qs) e in
    let command : r.command ≡ q.command = ap command_of same in
    let answer : r.answer ≡ q.answer = cons_head _ _ _ _ a ∙ ap (λ c. reply c s) command ∙ sym (cons_head _ _ _ _ b) in
    let rest : rs ≡ qs =
    history_is (effect r.command s) rs qs (cons_tail _ _ _ _ a)
    (cons_tail _ _ _ _ b ∙ ap (λ c. replies (effect c s) (map command_of (commands_of qs))) (sym command)) on in
    ap (λ z. z ∷ rs) (record_is r q same answer) ∙ ap (λ l. q ∷ l) rest

-- members of one vocabulary with the same commands have the same history, and the same policy
pub one_history_of : (u v : Member) → IsMember u → IsMember v → u.vocabulary ≡ v.vocabulary → commands_of u.history ≡ commands_of v.history → u.history ≡ v.history
one_history_of u v a b e same =
    history_is (founding_state u.vocabulary) u.history v.history a.front.answered
    (subst (λ y. map (λ (r : Record). r.answer) v.history ≡ replies (founding_state y) (map command_of (commands_of v.history))) (sym e) b.front.answered) same

pub one_policy_of : (u v : Member) → IsMember u → IsMember v → u.vocabulary ≡ v.vocabulary → commands_of u.history ≡ commands_of v.history → u.policy ≡ v.policy
one_policy_of u v a b e same =
    a.policy ∙ ap (λ y. state_after (founding_state y) (map command_of (commands_of u.history))) e
    ∙ ap (λ xs. state_after (founding_state v.vocabulary) (map command_of xs)) same ∙ sym b.policy

-- ---- Its deliveries

pub sent_delivered : (v : Member) → (deliver_due v (due_at v)).sent ≡ v.sent
sent_delivered v = go (due_at v)
  where
    go : (o : Option Submission) → (deliver_due v o).sent ≡ v.sent
    go None = refl
    go (Some x) = refl

read_delivered : (v : Member) (k : ℕ) → read_of (node_of (deliver_due v (due_at v))) k ≡ read_of (node_of v) k
read_delivered v k = go (due_at v)
  where
    go : (o : Option Submission) → read_of (node_of (deliver_due v o)) k ≡ read_of (node_of v) k
    go None = refl
    go (Some x) = refl

-- a delivery changes nothing of what was read
pub delivery_reads_rows : (w : World) (v : Member) → HasReadRows w v → HasReadRows w (deliver_due v (due_at v))
delivery_reads_rows w v r = record {
  kept = keeps_deliver v r.kept;
  same_group = group_moved v delivers ∙ r.same_group;
  same_vocabulary = vocabulary_moved v delivers ∙ r.same_vocabulary;
  own = ap submissions (sent_delivered v) ∙ r.own ∙ ap (λ n. submissions (row w n)) (sym (number_moved v delivers));
  read = λ k n d. let other : k ≡ v.number → ⊥ = λ e. d (e ∙ sym (number_moved v delivers)) in move_reads k n.low (row w k) v delivers r.kept other refl tt (r.read k n other);
  to_end = λ k n d. read_delivered v k ∙ r.to_end k n (λ e. d (e ∙ sym (number_moved v delivers)));
}

-- as many deliveries as there are commands held leave nothing to deliver
pub run_to_end : (w : World) → IsLawfulWorld w → (n : ℕ) (v : Member) → HasReadRows w v → AreOthersSealed w v.number → length v.held ≡ n → commands_of (run v (replicate n delivers)).history ≡ all_commands w
run_to_end w l zero v r ends e = all_delivered w l v r ends (due_is_least w l v r ends ∙ none v.held e)
  where
    none : (xs : List Submission) → length xs ≡ 0 → least xs ≡ None
    none [] f = refl
    none (x ∷ xs) f = absurd (let no : ⊥ = omega arith in no)
run_to_end w l (suc n) v r ends e =
    run_to_end w l n (deliver_due v (due_at v)) (delivery_reads_rows w v r) (subst (AreOthersSealed w) (sym (number_moved v delivers)) ends)
    (ap (λ o. length (deliver_due v o).held) (due_is_least w l v r ends) ∙ one_less v.held refl e)
  where
    one_less : (xs : List Submission) → v.held ≡ xs → length xs ≡ suc n → length (deliver_due v (least xs)).held ≡ n
    one_less [] f g = absurd (let no : ⊥ = omega arith in no)
    one_less (x ∷ rest) f g = ap (λ l. length (drop 1 l)) f ∙ (let z : length rest ≡ n = omega arith in z)

-- ---- A member that was run by itself

pub ran_to_end : (w : World) (number : ℕ) (v : Member) (moves : List Move) → IsGroup w.group → HasRunToEnd w number v moves → HasReadRows w v
ran_to_end w number v moves is r =
    record {
      kept = subst IsMember r.made.is (keeps_made w.group w.vocabulary number moves is r.is_number r.made.allowed);
      same_group = ap (λ (u : Member). u.group) (sym r.made.is) ∙ group_run (founded w.group number w.vocabulary) moves;
      same_vocabulary = ap (λ (u : Member). u.vocabulary) (sym r.made.is) ∙ vocabulary_run (founded w.group number w.vocabulary) moves;
      own = r.own ∙ ap (λ n. submissions (row w n)) (sym here);
      read = λ k n d. let other : k ≡ number → ⊥ = λ e. d (e ∙ sym here) in
          subst (λ u. HasReadOf u k (row w k)) r.made.is (reads_made w.group w.vocabulary number k (row w k) moves is r.is_number n.low other r.made.allowed (r.brought k n other));
      to_end = λ k n d. r.to_end k n (λ e. d (e ∙ sym here));
    }
  where
    here : v.number ≡ number
    here = ap (λ (u : Member). u.number) (sym r.made.is) ∙ number_run (founded w.group number w.vocabulary) moves

pub gone_on_to_end : (w : World) (start v : Member) (moves : List Move) → HasGoneOnToEnd w start v moves → HasReadRows w v
gone_on_to_end w start v moves r =
    record {
      kept = subst IsMember r.is (keeps_run start moves r.kept r.allowed);
      same_group = ap (λ (u : Member). u.group) (sym r.is) ∙ group_run start moves ∙ r.same_group;
      same_vocabulary = ap (λ (u : Member). u.vocabulary) (sym r.is) ∙ vocabulary_run start moves ∙ r.same_vocabulary;
      own = r.own;
      read = λ k n d. let other : k ≡ start.number → ⊥ = λ e. d (e ∙ sym here) in
          subst (λ u. HasReadOf u k (row w k)) r.is (run_reads k n.low (row w k) start moves r.kept other r.allowed (r.brought k n other) (r.had_read k n other));
      to_end = r.to_end;
    }
  where
    here : v.number ≡ start.number
    here = ap (λ (u : Member). u.number) (sym r.is) ∙ number_run start moves
