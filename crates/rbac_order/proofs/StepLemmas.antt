-- Each step leaves the members of a group members of a group, and so does each list of events.
use Rattle.std.proofs.Common.{ℕ, zero, suc, Bool, true, false, cond, ◌≡◌, ◌≤◌, ◌<◌, ◌+◌, ◌-◌, ◌==◌, ◌||◌, ◌&&◌, nat_lt, List, [], ◌∷◌, ◌++◌, length, map, drop, get_or, set, replicate, refl, sym, ap, subst, ◌∙◌, arith, true≢false, append-nil, append_assoc, length-append, length-set, get_or-set_same, get_or-set_other, Option, Some, None}
use Rattle.std.specs.List.{AllByRecursion as Each, filter}
use Rattle.std.proofs.lemmas.Bool.{eqb-false}
use Rattle.std.proofs.lemmas.List.{length-map, map-set}
use Rattle.rbac_terms.specs.Vocabulary.{Vocabulary}
use Rattle.rbac_words.specs.Group.{Group, IsGroup}
use Rattle.rbac_terms.specs.State.{State, founding_state}
use Rattle.rbac_terms.specs.Effect.{reply}
use Rattle.rbac_terms.specs.Replay.{state_after}
use Rattle.rbac_words.specs.Stamp.{IsAfter, last_stamp}
use Rattle.rbac_words.specs.Message.{stamp_of, submissions_of, has_bad_batch, submissions, commands_of, is_by, CountsFrom, IsLawful}
use Rattle.rbac_words.specs.Front.{command_of}
use Rattle.rbac_words.specs.World.{World, Node, node, is_member, read_of, stamp, submit_at, receive_at, deliver_at, record_of, message, submit_refusal, room_refusal, receive_refusal, refusal, with_node, due, after, world_unless, step}
use Rattle.rbac_words.specs.Right.{founded_nodes, founding_world}
use Rattle.rbac_words.specs.Play.{world_after}
use Rattle.rbac_words.specs.Keeping.Member.{Member, node_of, founded, latest_of, known, batch, submitted, received, due_at, delivery, delivered, deliver_due, IsMember, IsNext}
use Rattle.rbac_words.specs.Keeping.Members.{HasTaken, HasRead, HasReadOf, no_member, member_at, AreMembers, world_of, HasMembers}
use Rattle.rbac_terms.specs.declared.command.Command.{Command}
use Rattle.rbac_words.specs.declared.event.Event.{Event}
use Rattle.rbac_words.specs.declared.event.Event.TheVariants.{Submit, SubmitBatch, Receive, Deliver}
use Rattle.rbac_words.specs.declared.event.Refusal.{Refusal}
use Rattle.rbac_words.specs.declared.event.Refusal.TheVariants.{UnknownMember, FromSelf, NotSent, Repeat, Gap}
use Rattle.rbac_words.specs.declared.message.Message.{Message}
use Rattle.rbac_words.specs.declared.message.Message.TheVariants.{Ack}
use Rattle.rbac_words.specs.declared.message.Submission.{Submission}
use Rattle.rbac_words.specs.declared.record.Record.{Record}
use Rattle.sorted_keys.proofs.Lists.{Each-right}
use Rattle.rbac_order.proofs.RangeLemmas.{in_range, was_sent, meets}
use Rattle.rbac_order.proofs.StampLemmas.{last_stamp-push, after_last}
use Rattle.rbac_order.proofs.MessageLemmas.{submissions-append, CountsFrom-left}
use Rattle.std.proofs.lemmas.List.Elements.{filter-append}
use Rattle.rbac_order.proofs.SenderLemmas.{of, decide}
use Rattle.rbac_order.proofs.MemberLemmas.{none, get_or-none, keeps_founded, keeps_submit, of-submitted_other, due_is, known_delivered, keeps_deliver, keeps_received, of-received, of-received_other}
use Rattle.rbac_order.proofs.GroupLemmas.{node-of_member, is_number, apart, read_by, due_is_due, lawful_front}

-- ---- What a receiver has read of a sender

-- the sender sends more
sends_more : (a b b' : Member) (more : List Message) → b'.number ≡ b.number → b'.sent ≡ b.sent ++ more → HasRead a b → HasRead a b'
sends_more a b b' more same longer r = record {
  taken = r.taken;
  unread = r.unread ++ more;
  sent = longer ∙ ap (λ l. l ++ more) r.sent ∙ append_assoc r.taken r.unread more;
  has_taken = subst (λ k. HasTaken a k r.taken) (sym same) r.has_taken;
}

-- the receiver changes, but nothing of what it has of this sender
pub stays_read : (a a' : Member) (k : ℕ) (messages : List Message) → read_of (node_of a') k ≡ read_of (node_of a) k → latest_of a' k ≡ latest_of a k → of k (known a') ≡ of k (known a) → HasReadOf a k messages → HasReadOf a' k messages
stays_read a a' k messages count latest commands r = record {
  taken = r.taken;
  unread = r.unread;
  sent = r.sent;
  has_taken = record { count = count ∙ r.has_taken.count; commands = commands ∙ r.has_taken.commands; latest = latest ∙ r.has_taken.latest };
}

-- the receiver takes the sender's next message
pub takes_next : (a : Member) (k : ℕ) (messages : List Message) (m : Message) (rest : List Message) (r : HasReadOf a k messages) → r.unread ≡ m ∷ rest → IsMember a → IsNext a k m → HasReadOf (received a k m) k messages
takes_next a k messages m rest r is kept next = record {
  taken = r.taken ++ m ∷ [];
  unread = rest;
  sent = r.sent ∙ ap (λ l. r.taken ++ l) is ∙ sym (append_assoc r.taken (m ∷ []) rest);
  has_taken = record {
    count = get_or-set_same a.read (k - 1) (read_of (node_of a) k + 1) 0 (let z : length a.read ≡ a.group.members = kept.reads in omega arith) ∙ ap (λ n. n + 1) r.has_taken.count
        ∙ (let z : length (r.taken ++ m ∷ []) ≡ length r.taken + 1 = length-append r.taken (m ∷ []) in omega arith);
    commands = of-received a k m kept next ∙ ap (λ l. l ++ submissions_of m) r.has_taken.commands ∙ ap (λ l. submissions r.taken ++ l) (sym (append-nil (submissions_of m))) ∙ sym (submissions-append r.taken (m ∷ []));
    latest = get_or-set_same a.latest (k - 1) (Some (stamp_of m)) none (let z : length a.latest ≡ a.group.members = kept.latests in omega arith) ∙ sym (last_stamp-push stamp_of r.taken m);
  };
}
  where
    low : 1 ≤ k
    low = next.number.low

    high : k ≤ a.group.members
    high = next.number.high

pub if_none : {R : Type 0} (b : Bool) (r : R) (o : Option R) → cond b (Some r) o ≡ None → (b ≡ false) × (o ≡ None)
if_none true r o e = let no : ⊥ = cc in absurd no
if_none false r o e = (refl, e)

pub unless_none : {R : Type 0} (b : Bool) (r : R) (o : Option R) → cond b o (Some r) ≡ None → (b ≡ true) × (o ≡ None)
unless_none true r o e = (refl, e)
unless_none false r o e = let no : ⊥ = cc in absurd no

pub and_both : (a b : Bool) → (a && b) ≡ true → (a ≡ true) × (b ≡ true)
and_both true b e = (refl, e)
and_both false b e = absurd (true≢false (sym e))

-- the next message that a receiver has not read, by its number
unread_next : (taken unread : List Message) (d : Message) → length taken < length (taken ++ unread) → unread ≡ get_or (taken ++ unread) (length taken) d ∷ drop 1 unread
unread_next [] [] d h = absurd (let no : ⊥ = omega arith in no)
unread_next [] (m ∷ ms) d h = refl
unread_next (t ∷ ts) unread d h = unread_next ts unread d (omega arith)

module _ (group : Group) (vocabulary : Vocabulary) (ms : List Member) (are : AreMembers group vocabulary ms) where
  abbrev at : ℕ → Member
  at i = member_at ms i

  abbrev w : World
  w = world_of group vocabulary ms

  -- ---- One member is changed

  -- what holds of the changed one, and of each other one, holds of each
  at_set : (P : Member → Type 0) (i j : ℕ) (v : Member) → i < length ms → (j ≡ i → P v) → ((j ≡ i → ⊥) → P (at j)) → P (member_at (set ms i v) j)
  at_set P i j v h y n =
      decide (P (member_at (set ms i v) j)) j i
      (λ e. subst P (sym (ap (λ k. get_or (set ms i v) k no_member) e ∙ get_or-set_same ms i v no_member h)) (y e))
      (λ d. subst P (sym (get_or-set_other ms i j v no_member d)) (n d))

  -- a member that keeps its number, group and vocabulary, has sent more at most, and has read each other one
  pub set_member : (i : ℕ) (v : Member) (more : List Message) → i < length ms → v.number ≡ (at i).number → v.group ≡ (at i).group → v.vocabulary ≡ (at i).vocabulary → IsMember v
      → v.sent ≡ (at i).sent ++ more → ((j : ℕ) → j < length ms → (j ≡ i → ⊥) → HasRead v (at j)) → AreMembers group vocabulary (set ms i v)
  set_member i v more h number same_group same_vocabulary kept sent reads = record {
    count = length-set ms i v ∙ are.count;
    numbered = λ j l. at_set (λ u. u.number ≡ j + 1) i j v h (λ e. number ∙ are.numbered i h ∙ ap (λ k. k + 1) (sym e)) (λ _. are.numbered j (inside j l));
    same_group = λ j l. at_set (λ u. u.group ≡ group) i j v h (λ _. same_group ∙ are.same_group i h) (λ _. are.same_group j (inside j l));
    same_vocabulary = λ j l. at_set (λ u. u.vocabulary ≡ vocabulary) i j v h (λ _. same_vocabulary ∙ are.same_vocabulary i h) (λ _. are.same_vocabulary j (inside j l));
    kept = λ j l. at_set IsMember i j v h (λ _. kept) (λ _. are.kept j (inside j l));
    read = λ j k lj lk d.
        at_set (λ u. HasRead u (member_at (set ms i v) k)) i j v h
        (λ e. at_set (λ u. HasRead v u) i k v h (λ f. absurd (d (e ∙ sym f))) (λ f. reads k (inside k lk) f))
        (λ n. at_set (λ u. HasRead (at j) u) i k v h (λ f. sends_more (at j) (at i) v more number sent (are.read j i (inside j lj) h n)) (λ f. are.read j k (inside j lj) (inside k lk) d));
  }
    where
      inside : (j : ℕ) → j < length (set ms i v) → j < length ms
      inside j l = subst (λ n. j < n) (length-set ms i v) l

  -- the world of the members where one is changed
  pub world_set : (i : ℕ) (v : Member) → world_of group vocabulary (set ms i v) ≡ record w { nodes = set w.nodes i (node_of v) }
  world_set i v = ap (λ (nodes : List Node). let z : World = record { group = group; vocabulary = vocabulary; nodes = nodes } in z) (map-set node_of ms i v)

  -- ---- The three moves

  pub members_submitted : (i caller serial : ℕ) (commands : List Command) → i < length ms → submit_refusal group (node_of (at i)) caller serial (length commands) ≡ None → AreMembers group vocabulary (set ms i (submitted (at i) caller serial commands))
  members_submitted i caller serial commands h free =
      set_member i (submitted v caller serial commands) (batch v caller serial commands ∷ []) h refl refl refl
      (keeps_submit v caller serial commands (subst (λ g. submit_refusal g (node_of v) caller serial (length commands) ≡ None) (sym (are.same_group i h)) free) (are.kept i h)) refl
      (λ j hj d. stays_read v (submitted v caller serial commands) (at j).number (at j).sent refl refl (of-submitted_other v caller serial commands (at j).number (apart group vocabulary ms are i j h hj d)) (read_by group vocabulary ms are i j h hj d))
    where
      v : Member
      v = at i

  pub members_delivered : (i : ℕ) → i < length ms → AreMembers group vocabulary (set ms i (deliver_due (at i) (due_at (at i))))
  members_delivered i h = go (due_at (at i)) refl (keeps_deliver (at i) (are.kept i h))
    where
      go : (o : Option Submission) → due_at (at i) ≡ o → IsMember (deliver_due (at i) o) → AreMembers group vocabulary (set ms i (deliver_due (at i) o))
      go None e k = set_member i (at i) [] h refl refl refl k (sym (append-nil (at i).sent)) (λ j hj d. read_by group vocabulary ms are i j h hj d)
      go (Some x) e k =
          let d = due_is (at i) x e in
          set_member i (delivered (at i) x) [] h refl refl refl k (sym (append-nil (at i).sent))
          (λ j hj n. stays_read (at i) (delivered (at i) x) (at j).number (at j).sent refl refl (ap (of (at j).number) (sym (known_delivered (at i) x d.rest d.held))) (read_by group vocabulary ms are i j h hj n))

  -- the next message of a sender is one that a receipt can rest on
  pub next_of : (i j : ℕ) (m : Message) (rest : List Message) → (hi : i < length ms) → (hj : j < length ms) → (d : j ≡ i → ⊥) → (read_by group vocabulary ms are i j hi hj d).unread ≡ m ∷ rest → IsNext (at i) (at j).number m
  next_of i j m rest hi hj d is = record {
    number = is_number group vocabulary ms are i j hi hj;
    other = apart group vocabulary ms are i j hi hj d;
    first = (subst (Each (λ z. (stamp_of z).place ≡ 0)) is (Each-right (λ z. (stamp_of z).place ≡ 0) r.taken r.unread lawful.first)).0;
    sender = (subst (Each (λ z. (stamp_of z).member ≡ (at j).number)) is (Each-right (λ z. (stamp_of z).member ≡ (at j).number) r.taken r.unread lawful.own)).0;
    after = subst (λ o. IsAfter o (stamp_of m)) (sym r.has_taken.latest) (subst (Each (λ z. IsAfter (last_stamp stamp_of r.taken) (stamp_of z))) is (after_last stamp_of r.taken r.unread lawful.rising)).0;
    batch = (subst (Each (λ z. has_bad_batch z ≡ false)) is (Each-right (λ z. has_bad_batch z ≡ false) r.taken r.unread lawful.batches)).0;
    serials = λ caller.
        CountsFrom-left 0 (filter (is_by caller) (of (at j).number (known (at i)) ++ submissions_of m)) (filter (is_by caller) (submissions rest))
        (subst (CountsFrom 0) (ap (filter (is_by caller)) (parts caller) ∙ filter-append (is_by caller) (of (at j).number (known (at i)) ++ submissions_of m) (submissions rest)) (lawful.serials caller));
  }
    where
      r : HasRead (at i) (at j)
      r = read_by group vocabulary ms are i j hi hj d

      lawful : IsLawful (at j).number (at j).group (r.taken ++ r.unread)
      lawful = lawful_front group vocabulary ms are i j hi hj d

      parts : (caller : ℕ) → submissions (r.taken ++ r.unread) ≡ (of (at j).number (known (at i)) ++ submissions_of m) ++ submissions rest
      parts caller =
          ap (λ l. submissions (r.taken ++ l)) is ∙ submissions-append r.taken (m ∷ rest) ∙ ap (λ l. l ++ (submissions_of m ++ submissions rest)) (sym r.has_taken.commands)
          ∙ sym (append_assoc (of (at j).number (known (at i))) (submissions_of m) (submissions rest))

  pub members_received : (i j : ℕ) (m : Message) (rest : List Message) → (hi : i < length ms) → (hj : j < length ms) → (d : j ≡ i → ⊥) → (read_by group vocabulary ms are i j hi hj d).unread ≡ m ∷ rest
      → room_refusal group (node_of (at i)) m ≡ None → AreMembers group vocabulary (set ms i (received (at i) (at j).number m))
  members_received i j m rest hi hj d is free =
      set_member i (received (at i) (at j).number m) _ hi refl refl refl (keeps_received (at i) (at j).number m kept next (subst (λ g. room_refusal g (node_of (at i)) m ≡ None) (sym (are.same_group i hi)) free)) refl
      (λ k hk n.
      decide (HasRead (received (at i) (at j).number m) (at k)) k j
      (λ e. subst (λ l. HasRead (received (at i) (at j).number m) (at l)) (sym e) (takes_next (at i) (at j).number (at j).sent m rest (read_by group vocabulary ms are i j hi hj d) is kept next))
      (λ o. stays_read (at i) (received (at i) (at j).number m) (at k).number (at k).sent
      (other_place (at i).read (read_of (node_of (at i)) (at j).number + 1) 0 k hk o)
      (other_place (at i).latest (Some (stamp_of m)) none k hk o)
      (of-received_other (at i) (at j).number m kept next (at k).number (apart group vocabulary ms are j k hj hk o))
      (read_by group vocabulary ms are i k hi hk n)))
    where
      kept : IsMember (at i)
      kept = are.kept i hi

      next : IsNext (at i) (at j).number m
      next = next_of i j m rest hi hj d is

      other_place : {X : Type 0} (xs : List X) (x z : X) (k : ℕ) → k < length ms → (k ≡ j → ⊥) → get_or (set xs ((at j).number - 1) x) ((at k).number - 1) z ≡ get_or xs ((at k).number - 1) z
      other_place xs x z k hk o =
          get_or-set_other xs ((at j).number - 1) ((at k).number - 1) x z
          (λ e. let a : (at j).number ≡ j + 1 = are.numbered j hj in let b : (at k).number ≡ k + 1 = are.numbered k hk in o (omega arith))

  -- ---- The step

  -- the members after a step, and their world
  pub record AreAfter (e : Event) : Type 0 where
    pub members : List Member
    pub are_members : AreMembers group vocabulary members
    pub same : world_of group vocabulary members ≡ step w e

  stays : (e : Event) (r : Refusal) → refusal w e ≡ Some r → AreAfter e
  stays e r is = record { members = ms; are_members = are; same = ap (λ (o : Option Refusal). world_unless o (after w e) w) (sym is) }

  moves : (e : Event) (members : List Member) → refusal w e ≡ None → AreMembers group vocabulary members → world_of group vocabulary members ≡ after w e → AreAfter e
  moves e members free are_members same = record { members = members; are_members = are_members; same = same ∙ ap (λ (o : Option Refusal). world_unless o (after w e) w) (sym free) }

  pub node_is : (k : ℕ) → node w k ≡ node_of (at (k - 1))
  node_is k = node-of_member ms (k - 1)

  -- the place of a member's number
  pub in_group : (k : ℕ) → is_member w k ≡ true → (1 ≤ k) × (k - 1 < length ms)
  in_group k e = let a : length w.nodes ≡ length ms = length-map ms node_of in let p : (1 ≤ k) × (k ≤ length w.nodes) = in_range k (length w.nodes) e in let low : 1 ≤ k = p.0 in let high : k ≤ length w.nodes = p.1 in (low, omega arith)

  batch_step : (k caller serial : ℕ) (commands : List Command) → AreAfter (SubmitBatch k caller serial commands)
  batch_step k caller serial commands = go (refusal w (SubmitBatch k caller serial commands)) refl
    where
      go : (o : Option Refusal) → refusal w (SubmitBatch k caller serial commands) ≡ o → AreAfter (SubmitBatch k caller serial commands)
      go (Some r) e = stays (SubmitBatch k caller serial commands) r e
      go None e =
          let p = unless_none (is_member w k) UnknownMember (submit_refusal group (node w k) caller serial (length commands)) e in
          let place = in_group k p.0 in
          moves (SubmitBatch k caller serial commands) (set ms (k - 1) (submitted (at (k - 1)) caller serial commands)) e
          (members_submitted (k - 1) caller serial commands place.1 (subst (λ (v : Node). submit_refusal group v caller serial (length commands) ≡ None) (node_is k) p.1))
          (world_set (k - 1) (submitted (at (k - 1)) caller serial commands) ∙ ap (λ (v : Node). with_node w k (submit_at v caller serial commands)) (sym (node_is k)))

  -- the record of a delivery is the one that the definitions give
  record_is : (i : ℕ) (x : Submission) → i < length ms → record_of vocabulary (node_of (at i)) x ≡ delivery (at i) x
  record_is i x h = ap (λ (s : State). let r : Record = record { stamp = x.stamp; caller = x.caller; serial = x.serial; command = x.command; answer = reply x.command s } in r)
      (ap (λ (v : Vocabulary). state_after (founding_state v) (map command_of (commands_of (at i).history))) (sym (are.same_vocabulary i h)) ∙ sym (are.kept i h).policy)

  pub deliver_is : (i : ℕ) (o : Option Submission) → i < length ms → node_of (deliver_due (at i) o) ≡ deliver_at vocabulary (node_of (at i)) o
  deliver_is i None h = refl
  deliver_is i (Some x) h = ap (λ (r : Record). let n : Node = record (node_of (at i)) { history = (at i).history ++ r ∷ [] } in n) (sym (record_is i x h))

  deliver_step : (k : ℕ) → AreAfter (Deliver k)
  deliver_step k = go (refusal w (Deliver k)) refl
    where
      go : (o : Option Refusal) → refusal w (Deliver k) ≡ o → AreAfter (Deliver k)
      go (Some r) e = stays (Deliver k) r e
      go None e =
          let p = unless_none (is_member w k) UnknownMember None e in
          let place = in_group k p.0 in
          moves (Deliver k) (set ms (k - 1) (deliver_due (at (k - 1)) (due_at (at (k - 1))))) e
          (members_delivered (k - 1) place.1)
          (world_set (k - 1) (deliver_due (at (k - 1)) (due_at (at (k - 1))))
          ∙ ap (λ (v : Node). with_node w k v) (deliver_is (k - 1) (due_at (at (k - 1))) place.1)
          ∙ ap (λ (o : Option Submission). with_node w k (deliver_at vocabulary (node_of (at (k - 1))) o)) (sym (due_is_due group vocabulary ms are (k - 1) place.1))
          ∙ ap (λ (v : Node). with_node w k (deliver_at vocabulary v (due w v))) (sym (node_is k)))

  -- what a receipt that is not refused has passed
  pub record HasCome (v sender : Node) (n : ℕ) : Type 0 where
    pub sent : n ≤ length sender.sent
    pub next : n ≡ read_of v sender.number + 1
    pub room : room_refusal group v (message sender n) ≡ None

  pub has_come : (v sender : Node) (n : ℕ) → receive_refusal group v sender n ≡ None → HasCome v sender n
  has_come v sender n e =
      let a = if_none (n == 0 || nat_lt (length sender.sent) n) NotSent _ e in
      let b = if_none (nat_lt n (read_of v sender.number + 1)) (Repeat (read_of v sender.number + 1)) _ a.1 in
      let c = if_none (nat_lt (read_of v sender.number + 1) n) (Gap (read_of v sender.number + 1)) _ b.1 in
      record { sent = was_sent (length sender.sent) n a.0; next = meets (read_of v sender.number + 1) n b.0 c.0; room = c.1 }

  -- the message of the expected number, where it was sent, is the first that was not read
  pub comes_next : (i j n : ℕ) → (hi : i < length ms) → (hj : j < length ms) → (d : j ≡ i → ⊥) → n ≡ read_of (node_of (at i)) (at j).number + 1 → n ≤ length (at j).sent
      → (read_by group vocabulary ms are i j hi hj d).unread ≡ message (node_of (at j)) n ∷ drop 1 (read_by group vocabulary ms are i j hi hj d).unread
  comes_next i j n hi hj d expected was_sent =
      unread_next r.taken r.unread (Ack (stamp 0 0)) short
      ∙ ap (λ z. z ∷ drop 1 r.unread) (ap (λ l. get_or l (length r.taken) (Ack (stamp 0 0))) (sym r.sent) ∙ ap (λ l. get_or (at j).sent l (Ack (stamp 0 0))) place)
    where
      r : HasRead (at i) (at j)
      r = read_by group vocabulary ms are i j hi hj d

      place : length r.taken ≡ n - 1
      place = let a : read_of (node_of (at i)) (at j).number ≡ length r.taken = r.has_taken.count in omega arith

      short : length r.taken < length (r.taken ++ r.unread)
      short = subst (λ l. length r.taken < length l) r.sent (let a : read_of (node_of (at i)) (at j).number ≡ length r.taken = r.has_taken.count in omega arith)

  -- the receipt of a message that is not refused
  pub members_receive : (i j n : ℕ) → i < length ms → j < length ms → (j ≡ i → ⊥) → receive_refusal group (node_of (at i)) (node_of (at j)) n ≡ None
      → AreMembers group vocabulary (set ms i (received (at i) (j + 1) (message (node_of (at j)) n)))
  members_receive i j n hi hj d free =
      let come = has_come (node_of (at i)) (node_of (at j)) n free in
      subst (λ k. AreMembers group vocabulary (set ms i (received (at i) k (message (node_of (at j)) n)))) (are.numbered j hj)
      (members_received i j (message (node_of (at j)) n) (drop 1 (read_by group vocabulary ms are i j hi hj d).unread) hi hj d (comes_next i j n hi hj d come.next come.sent) come.room)

  receive_step : (k from n : ℕ) → AreAfter (Receive k from n)
  receive_step k from n = go (refusal w (Receive k from n)) refl
    where
      go : (o : Option Refusal) → refusal w (Receive k from n) ≡ o → AreAfter (Receive k from n)
      go (Some r) e = stays (Receive k from n) r e
      go None e =
          let p = unless_none (is_member w k && is_member w from) UnknownMember _ e in
          let both = and_both (is_member w k) (is_member w from) p.0 in
          let q = if_none (from == k) FromSelf _ p.1 in
          let here = in_group k both.0 in let there = in_group from both.1 in
          let low : 1 ≤ k = here.0 in let low_from : 1 ≤ from = there.0 in
          let free = subst (λ (v : Node). receive_refusal group v (node_of (at (from - 1))) n ≡ None) (node_is k) (subst (λ (u : Node). receive_refusal group (node w k) u n ≡ None) (node_is from) q.1) in
          let m : Message = message (node_of (at (from - 1))) n in
          moves (Receive k from n) (set ms (k - 1) (received (at (k - 1)) (from - 1 + 1) m)) e
          (members_receive (k - 1) (from - 1) n here.1 there.1 (λ f. eqb-false from k q.0 (omega arith)) free)
          (world_set (k - 1) (received (at (k - 1)) (from - 1 + 1) m)
          ∙ ap (λ j. with_node w k (receive_at (node_of (at (k - 1))) j m)) (let z : from - 1 + 1 ≡ from = omega arith in z)
          ∙ ap (λ (u : Node). with_node w k (receive_at (node_of (at (k - 1))) from (message u n))) (sym (node_is from))
          ∙ ap (λ (v : Node). with_node w k (receive_at v from (message (node w from) n))) (sym (node_is k)))

  pub each_step : (e : Event) → AreAfter e
  each_step (Submit k caller serial command) = let b = batch_step k caller serial (command ∷ []) in record { members = b.members; are_members = b.are_members; same = b.same }
  each_step (SubmitBatch k caller serial commands) = batch_step k caller serial commands
  each_step (Receive k from n) = receive_step k from n
  each_step (Deliver k) = deliver_step k

-- ---- The founding, and all events

abbrev pub founded_members : ℕ → ℕ → Group → Vocabulary → List Member
founded_members zero j group vocabulary = []
founded_members (suc more) j group vocabulary = founded group (suc j) vocabulary ∷ founded_members more (suc j) group vocabulary

module _ (group : Group) (vocabulary : Vocabulary) where
  founded-length : (n j : ℕ) → length (founded_members n j group vocabulary) ≡ n
  founded-length zero j = refl
  founded-length (suc n) j = ap suc (founded-length n (suc j))

  founded-at : (n j i : ℕ) → i < n → member_at (founded_members n j group vocabulary) i ≡ founded group (suc (j + i)) vocabulary
  founded-at zero j i h = absurd (let no : ⊥ = omega arith in no)
  founded-at (suc n) j zero h = ap (λ k. founded group k vocabulary) (let z : suc j ≡ suc (j + 0) = omega arith in z)
  founded-at (suc n) j (suc i) h = founded-at n (suc j) i (omega arith) ∙ ap (λ k. founded group k vocabulary) (let z : suc (suc j + i) ≡ suc (j + suc i) = omega arith in z)

  pub founded-nodes : (n j : ℕ) → map node_of (founded_members n j group vocabulary) ≡ founded_nodes n j group
  founded-nodes zero j = refl
  founded-nodes (suc n) j = ap (λ l. node_of (founded group (suc j) vocabulary) ∷ l) (founded-nodes n (suc j))

  get_or-zero : (n i : ℕ) → ◌≡◌ {A = ℕ} (get_or (replicate n 0) i 0) 0
  get_or-zero zero i = refl
  get_or-zero (suc n) zero = refl
  get_or-zero (suc n) (suc i) = get_or-zero n i

  pub founding_are : IsGroup group → AreMembers group vocabulary (founded_members group.members 0 group vocabulary)
  founding_are g = record {
    count = founded-length group.members 0;
    numbered = λ i h. ap (λ (v : Member). v.number) (at i h) ∙ (let z : suc (0 + i) ≡ i + 1 = omega arith in z);
    same_group = λ i h. ap (λ (v : Member). v.group) (at i h);
    same_vocabulary = λ i h. ap (λ (v : Member). v.vocabulary) (at i h);
    kept = λ i h. subst IsMember (sym (at i h)) (keeps_founded group (suc (0 + i)) vocabulary g (omega arith) (let a = inside i h in omega arith));
    read = λ i j hi hj d. subst (λ (v : Member). HasRead v (member_at (founded_members group.members 0 group vocabulary) j)) (sym (at i hi)) (subst (λ (u : Member). HasRead (founded group (suc (0 + i)) vocabulary) u) (sym (at j hj)) (nothing i j));
  }
    where
      inside : (i : ℕ) → i < length (founded_members group.members 0 group vocabulary) → i < group.members
      inside i h = subst (λ n. i < n) (founded-length group.members 0) h

      at : (i : ℕ) → i < length (founded_members group.members 0 group vocabulary) → member_at (founded_members group.members 0 group vocabulary) i ≡ founded group (suc (0 + i)) vocabulary
      at i h = founded-at group.members 0 i (inside i h)

      nothing : (i j : ℕ) → HasRead (founded group (suc (0 + i)) vocabulary) (founded group (suc (0 + j)) vocabulary)
      nothing i j = record {
        taken = [];
        unread = [];
        sent = refl;
        has_taken = record { count = get_or-zero group.members (suc (0 + j) - 1); commands = refl; latest = get_or-none group.members (suc (0 + j) - 1) };
      }

module _ (group : Group) (vocabulary : Vocabulary) where
  pub founding_has : IsGroup group → HasMembers group vocabulary (founding_world group vocabulary)
  founding_has g = record {
    members = founded_members group.members 0 group vocabulary;
    are_members = founding_are group vocabulary g;
    same = ap (λ (nodes : List Node). let z : World = record { group = group; vocabulary = vocabulary; nodes = nodes } in z) (founded-nodes group vocabulary group.members 0);
  }

  pub step_has : (w : World) (e : Event) → HasMembers group vocabulary w → HasMembers group vocabulary (step w e)
  step_has w e h = let after = each_step group vocabulary h.members h.are_members e in record {
    members = after.members;
    are_members = after.are_members;
    same = after.same ∙ ap (λ (z : World). step z e) h.same;
  }

  pub play_has : (es : List Event) (w : World) → HasMembers group vocabulary w → HasMembers group vocabulary (world_after w es)
  play_has [] w h = h
  play_has (e ∷ es) w h = play_has es (step w e) (step_has w e h)

  pub always_has : IsGroup group → (es : List Event) → HasMembers group vocabulary (world_after (founding_world group vocabulary) es)
  always_has g es = play_has es (founding_world group vocabulary) (founding_has g)
